-- When the phrase of a list is possible.
use Rattle.std.proofs.Common.{◌≡◌, ℕ, suc, ◌==◌, Bool, true, false, not, List, [], ◌∷◌, length, map, ◌&&◌, ◌∙◌, ap, refl, sym, arith}
use Rattle.std.proofs.lemmas.Bool.{true≢false, ne_eqb}
use Rattle.swc_ecma_codegen_grammar.specs.Phrases.{Phrase, is_possible, in_order, each_after, listed, some_listed}
use Rattle.swc_ecma_codegen_validate.specs.Possible.{all_possible}

pub in_order_possible : {A : Type 0} (e : A → Phrase) (xs : List A) → is_possible (in_order (map e xs)) ≡ all_possible e xs
unfolding is_possible in_order all_possible
in_order_possible e [] = refl
in_order_possible e (x ∷ xs) = ap (λ b. is_possible (e x) && b) (in_order_possible e xs)

each_after_possible : {A : Type 0} (t : List ℕ) (e : A → Phrase) (xs : List A) → is_possible (each_after t (map e xs)) ≡ all_possible e xs
unfolding is_possible each_after all_possible
each_after_possible t e [] = refl
each_after_possible t e (x ∷ xs) = ap (λ b. is_possible (e x) && b) (each_after_possible t e xs)

pub some_possible : {A : Type 0} (t : List ℕ) (e : A → Phrase) (xs : List A) → (length xs == 0) ≡ false → is_possible (some_listed t (map e xs)) ≡ all_possible e xs
unfolding is_possible some_listed all_possible
some_possible t e [] h = absurd (true≢false h)
some_possible t e (x ∷ xs) h = ap (λ b. is_possible (e x) && b) (each_after_possible t e xs)

pub listed_possible : {A : Type 0} (t : List ℕ) (e : A → Phrase) (xs : List A) → is_possible (listed t (map e xs)) ≡ all_possible e xs
unfolding is_possible listed all_possible
listed_possible t e [] = refl
listed_possible t e (x ∷ xs) = ap (λ b. is_possible (e x) && b) (each_after_possible t e xs)

-- what stands between brackets
pub and_true : (b : Bool) → (b && true) ≡ b
and_true true = refl
and_true false = refl

some_long : {A : Type 0} (xs : List A) → suc (length xs) ≡ 0 → ⊥
some_long xs e = omega (arith, e)

-- of one at least
pub some_or_never : {A : Type 0} (t : List ℕ) (e : A → Phrase) (xs : List A) → is_possible (some_listed t (map e xs)) ≡ (not (length xs == 0) && all_possible e xs)
unfolding is_possible some_listed
some_or_never t e [] = refl
some_or_never t e (x ∷ xs) =
    let some : (length (x ∷ xs) == 0) ≡ false = ne_eqb (suc (length xs)) 0 (some_long xs) in
    some_possible t e (x ∷ xs) some ∙ sym (ap (λ b. not b && all_possible e (x ∷ xs)) some)
