-- Laws of texts and of tables of texts.
use Rattle.std.proofs.Common.{Bool, List, [], ap₂, false, inl, inr, refl, subst, sym, true, ℕ, ◌&&◌, ◌++◌, ◌==◌, ◌∷◌, ◌≡◌}
use Rattle.std.proofs.lemmas.Bool.{and_from, and_parts, eq-eqb, eqb-true, or_cases, or_left, or_right}
use Rattle.swc_ecma_codegen_grammar.specs.Chars.{is_blank}
use Rattle.swc_ecma_codegen_grammar.specs.Texts.{begins, is_among, is_same, some_begins}

pub eq_of_same : (a b : List ℕ) → is_same a b ≡ true → a ≡ b
unfolding is_same
eq_of_same [] [] h = refl
eq_of_same [] (d ∷ ds) h = cc
eq_of_same (c ∷ cs) [] h = cc
eq_of_same (c ∷ cs) (d ∷ ds) h = let p = and_parts _ _ h in ap₂ (λ x xs. x ∷ xs) (eqb-true c d p.0) (eq_of_same cs ds p.1)

pub same_refl : (a : List ℕ) → is_same a a ≡ true
unfolding is_same
same_refl [] = refl
same_refl (c ∷ cs) = and_from _ _ (eq-eqb c c refl) (same_refl cs)

pub begins_append : (a b : List ℕ) → begins a (a ++ b) ≡ true
unfolding begins
begins_append [] b = refl
begins_append (c ∷ cs) b = and_from _ _ (eq-eqb c c refl) (begins_append cs b)

-- a test of each text of a table, which computes
unfoldable pub each : (List ℕ → Bool) → List (List ℕ) → Bool
each q [] = true
each q (p ∷ ps) = q p && each q ps

-- what a table says of one of its texts
pub each_at : (q : List ℕ → Bool) (t : List ℕ) (ps : List (List ℕ)) → each q ps ≡ true → is_among t ps ≡ true → q t ≡ true
unfolding each is_among
each_at q t [] e h = cc
each_at q t (p ∷ ps) e h =
    let parts = and_parts _ _ e in
    elim (or_cases _ _ h) [ inl same ↦ rw (eq_of_same t p same) parts.0 | inr later ↦ each_at q t ps parts.1 later ]

-- what a table says of one that begins so
pub each_begins : (q : List ℕ → Bool) (t : List ℕ) (ps : List (List ℕ)) → each q ps ≡ true → some_begins t ps ≡ true → (p : List ℕ) × (q p ≡ true) × (begins t p ≡ true)
unfolding each some_begins
each_begins q t [] e h = absurd (cc)
each_begins q t (p ∷ ps) e h =
    let parts = and_parts _ _ e in
    elim (or_cases _ _ h) [ inl here ↦ (p, parts.0, here) | inr later ↦ each_begins q t ps parts.1 later ]

same_begins : (t : List ℕ) (c : ℕ) (m p : List ℕ) → is_same (t ++ c ∷ m) p ≡ true → begins (t ++ c ∷ []) p ≡ true
unfolding is_same begins
same_begins [] c m [] h = cc
same_begins [] c m (d ∷ ds) h = and_from _ _ (and_parts (c == d) _ h).0 refl
same_begins (x ∷ xs) c m [] h = cc
same_begins (x ∷ xs) c m (d ∷ ds) h = let p = and_parts (x == d) _ h in and_from _ _ p.0 (same_begins xs c m ds p.1)

-- a longer text of a table shows itself by one more character
pub among_begins : (t : List ℕ) (c : ℕ) (m : List ℕ) (ps : List (List ℕ)) → is_among (t ++ c ∷ m) ps ≡ true → some_begins (t ++ c ∷ []) ps ≡ true
unfolding is_among some_begins
among_begins t c m [] h = cc
among_begins t c m (p ∷ ps) h = elim (or_cases _ _ h) [ inl same ↦ or_left _ _ (same_begins t c m p same) | inr later ↦ or_right _ _ (among_begins t c m ps later) ]

-- a test that no blank passes
pub blank_ne : (P : ℕ → Bool) (c : ℕ) → is_blank c ≡ true → P 32 ≡ false → P 9 ≡ false → P 10 ≡ false → P 13 ≡ false → P c ≡ false
unfolding is_blank
blank_ne P c h a b d e =
    elim (or_cases (c == 32) _ h) [
      | inl x ↦ subst (λ z. P z ≡ false) (sym (eqb-true c 32 x)) a
      | inr h1 ↦ elim (or_cases (c == 9) _ h1) [
        | inl x ↦ subst (λ z. P z ≡ false) (sym (eqb-true c 9 x)) b
        | inr h2 ↦ elim (or_cases (c == 10) _ h2) [
          | inl x ↦ subst (λ z. P z ≡ false) (sym (eqb-true c 10 x)) d
          | inr x ↦ subst (λ z. P z ≡ false) (sym (eqb-true c 13 x)) e
        ]
      ]
    ]
