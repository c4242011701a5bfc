-- Digits that are counted, and compared one by one.
use Rattle.std.proofs.Common.{◌≡◌, ℕ, suc, ◌≤◌, Bool, true, false, ◌==◌, List, [], ◌∷◌, None, Some, length, drop, cond, ◌&&◌, refl, ap, ◌∙◌, inl, inr, arith}
use Rattle.std.proofs.Common.{subst}
use Rattle.std.proofs.lemmas.Bool.{cases_Bool, true≢false}
use Rattle.std.proofs.lemmas.Bool.Decides.{nat_tests}
use Rattle.std.proofs.lemmas.Str.{encodes-chars, length-le-encodes}
use Rattle.std.specs.Str.{IsUtf8, chars}
use Rattle.swc_ecma_codegen_grammar.specs.Texts.{begins, is_empty}
use Rattle.swc_ecma_codegen_validate.specs.Mantissas.{one_more, stripped, zeros_after}

-- no more characters than bytes
pub few_characters : (bytes : List ℕ) → IsUtf8 bytes → length (chars bytes) ≤ length bytes
few_characters bytes u = subst (λ (bs : List ℕ). length (chars bytes) ≤ length bs) (encodes-chars bytes u) (length-le-encodes (chars bytes))

pub zeros_step : (ds : List ℕ) (c : ℕ) (cs : List ℕ) → is_empty ds ≡ false → zeros_after ds (c ∷ cs) ≡ cond (begins (c ∷ []) ds) (zeros_after (drop 1 ds) cs) None
unfolding zeros_after begins is_empty
zeros_step [] c cs h = absurd (true≢false h)
zeros_step (d ∷ ds) c cs h = choice (c == d)
  where
    choice : (b : Bool) → cond b (zeros_after ds cs) None ≡ cond (b && true) (zeros_after ds cs) None
    choice true = refl
    choice false = refl

pub zeros_short : (ds : List ℕ) → is_empty ds ≡ false → zeros_after ds [] ≡ None
unfolding zeros_after is_empty
zeros_short [] h = absurd (true≢false h)
zeros_short (d ∷ ds) h = refl

counted : (xs : List ℕ) → zeros_after [] xs ≡ cond (is_empty (stripped xs)) (Some (length xs)) None
unfolding zeros_after stripped is_empty one_more
counted [] = refl
counted (x ∷ xs) = elim (cases_Bool (x == 48)) [
  | inl z ↦ rw z (ap one_more (counted xs) ∙ choice (is_empty (stripped xs)))
  | inr z ↦ rw z refl
]
  where
    choice : (b : Bool) → one_more (cond b (Some (length xs)) None) ≡ cond b (Some (suc (length xs))) None
    choice true = refl
    choice false = refl

empty_length : (xs : List ℕ) → is_empty xs ≡ (length xs == 0)
unfolding is_empty
empty_length [] = refl
empty_length (x ∷ xs) = grind (arith, nat_tests)

-- zeros alone are counted
pub zeros_counted : (xs : List ℕ) → zeros_after [] xs ≡ cond (length (stripped xs) == 0) (Some (length xs)) None
zeros_counted xs = counted xs ∙ ap (λ b. cond b (Some (length xs)) None) (empty_length (stripped xs))

pub zeros_all : (ds xs : List ℕ) → true ≡ is_empty ds → zeros_after ds xs ≡ zeros_after [] xs
unfolding is_empty
zeros_all [] xs h = refl
zeros_all (d ∷ ds) xs h = absurd (true≢false h)
