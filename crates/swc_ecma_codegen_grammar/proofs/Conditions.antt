-- Laws of choices and tests.
use Rattle.std.proofs.Common.{Bool, List, [], cond, false, inl, inr, refl, sym, true, ℕ, ◌&&◌, ◌++◌, ◌==◌, ◌∙◌, ◌∷◌, ◌≡◌, ◌⊎◌}
use Rattle.std.proofs.lemmas.Bool.{cond-false, cond-true, eqb-true, true≢false}
use Rattle.swc_ecma_codegen_grammar.specs.Texts.{is_empty}
use Rattle.swc_ecma_codegen_grammar.specs.Tokens.{has_shape}
use Rattle.swc_ecma_codegen_grammar.specs.declared.kinds.Kind.TheVariants.{SameLine}

-- both of two choices by one test
pub if_both : (b x y u v : Bool) → cond b x y ≡ true → cond b u v ≡ true → ((x ≡ true) × (u ≡ true)) ⊎ ((y ≡ true) × (v ≡ true))
if_both true x y u v h k = inl (h, k)
if_both false x y u v h k = inr (h, k)

pub if_either : (b x y : Bool) → cond b x y ≡ true → ((b ≡ true) × (x ≡ true)) ⊎ (y ≡ true)
if_either true x y h = inl (refl, h)
if_either false x y h = inr h

pub and_both : (b x y : Bool) → (b && x) ≡ true → (b && y) ≡ true → (x ≡ true) × (y ≡ true)
and_both true x y h k = (h, k)
and_both false x y h k = (absurd (true≢false (sym h)), absurd (true≢false (sym h)))

-- the same, with the test
pub if_same : (b x y u v : Bool) → cond b x y ≡ true → cond b u v ≡ true → ((b ≡ true) × (x ≡ true) × (u ≡ true)) ⊎ ((b ≡ false) × (y ≡ true) × (v ≡ true))
if_same true x y u v h k = inl (refl, h, k)
if_same false x y u v h k = inr (refl, h, k)

pub then_so : (b x y : Bool) → b ≡ true → x ≡ true → cond b x y ≡ true
then_so b x y e h = cond-true b x y e ∙ h

pub else_so : (b x y : Bool) → b ≡ false → y ≡ true → cond b x y ≡ true
else_so b x y e h = cond-false b x y e ∙ h

-- a test at one character holds at another that equals it
pub at_eq : (P : ℕ → Type 0) (c a : ℕ) → (c == a) ≡ true → P a → P c
at_eq P c a h x = rw (eqb-true c a h) x

-- a text with one more character isn't empty
pub empty_more : (t : List ℕ) (c : ℕ) (m : List ℕ) → is_empty (t ++ c ∷ m) ≡ true → ⊥
unfolding is_empty
empty_more [] c m h = true≢false (sym h)
empty_more (d ∷ t) c m h = true≢false (sym h)

-- `[no LineTerminator here]` is no text
pub same_line_unspelled : (t : List ℕ) → has_shape SameLine t ≡ true → ⊥
unfolding has_shape
same_line_unspelled t h = true≢false (sym h)
