-- Marks of positions that have lists of comments.
use Rattle.std.proofs.Common.{◌≡◌, ◌∙◌, refl, sym, subst, [], ◌∷◌, ◌++◌, is_some, Bool, true, false, ℕ, zero, suc, cond, ◌==◌, ◌+◌, ◌<◌, length, arith, slice_set}
use Rattle.std.specs.Prelude.{get_or, take, List, Option, Some, None, Result, Ok, Err, OnOk, OnErr}
use Rattle.std.proofs.Math.Path.{fun_ext}
use Rattle.std.proofs.lemmas.Bool.{eqb-true, true≢false}
use Rattle.swc_ecma_codegen_grammar.specs.CommentMaps.{AreMarked, is_marked, listed, with, without}

none_of : {A : Type 0} → (o : Option A) → is_some o ≡ false → o ≡ None
none_of None none = refl
none_of {A = A} (Some _) none = elim (true≢false none) [ ]

-- taking out what isn't there changes nothing
pub without_none : {A : Type 0} → (pos : ℕ) (entries : ℕ → Option A) → is_some (entries pos) ≡ false → entries ≡ without pos entries
unfolding without
without_none {A} pos entries none = fun_ext (λ q. here q (pos == q) refl)
  where
    here : (q : ℕ) (b : Bool) → (pos == q) ≡ b → entries q ≡ cond b None (entries q)
    here q true same = subst (λ z. entries z ≡ None) (eqb-true pos q same) (none_of (entries pos) none)
    here q false same = refl

-- the marks serve for fewer lists
pub without_marked : {A : Type 0} → (marks : List Bool) (entries after : ℕ → Option A) (pos : ℕ) → AreMarked marks entries → after ≡ without pos entries → AreMarked marks after
unfolding without
without_marked {A} marks entries after pos are same q unmarked = subst (λ z. is_some (z q) ≡ false) (sym same) (here (pos == q))
  where
    here : (b : Bool) → is_some (cond b None (entries q)) ≡ false
    here true = refl
    here false = are q unmarked

-- a list more, at a position that is marked
with_marked : {A : Type 0} → (new : List Bool) (entries after : ℕ → Option (List A)) (pos : ℕ) (x : A) → AreMarked new entries → is_marked new pos ≡ true → after ≡ with pos x entries → AreMarked new after
unfolding with
with_marked {A} new entries after pos x are marked same q unmarked = subst (λ z. is_some (z q) ≡ false) (sym same) (here (pos == q) refl)
  where
    here : (b : Bool) → (pos == q) ≡ b → is_some (cond b (Some (listed (entries pos) ++ x ∷ [])) (entries q)) ≡ false
    here true is = elim (true≢false (sym (subst (λ z. is_marked new z ≡ true) (eqb-true pos q is) marked) ∙ unmarked)) [ ]
    here false is = are q unmarked

-- what an addition leaves
pub added_marked : {A T E : Type 0} → (old new : List Bool) (entries after : ℕ → Option (List A)) (pos : ℕ) (x : A) (r : Result T E) → AreMarked old entries
    → ((q : ℕ) → is_marked new q ≡ false → is_marked old q ≡ false) → is_marked new pos ≡ true → OnOk r (after ≡ with pos x entries) → OnErr r (after ≡ entries) → AreMarked new after
added_marked old new entries after pos x (Ok t) are kept marked added unchanged = with_marked new entries after pos x (λ q unmarked. are q (kept q unmarked)) marked added
added_marked old new entries after pos x (Err e) are kept marked added unchanged = λ q unmarked. subst (λ z. is_some (z q) ≡ false) (sym unchanged) (are q (kept q unmarked))

-- a mark more
pub kept_set : (xs : List Bool) (i k : ℕ) → get_or (slice_set xs i true) k false ≡ false → get_or xs k false ≡ false
kept_set [] i k unmarked = refl
kept_set (x ∷ xs) zero zero unmarked = elim (true≢false unmarked) [ ]
kept_set (x ∷ xs) zero (suc k) unmarked = unmarked
kept_set (x ∷ xs) (suc i) zero unmarked = unmarked
kept_set (x ∷ xs) (suc i) (suc k) unmarked = kept_set xs i k unmarked

-- places more
pub kept_taken : (xs zs : List Bool) (n k : ℕ) → k < n → get_or (take n xs ++ zs) k false ≡ false → get_or xs k false ≡ false
kept_taken [] zs n k within unmarked = refl
kept_taken (x ∷ xs) zs zero k within unmarked = let no : ⊥ = omega (arith, within) in elim no [ ]
kept_taken (x ∷ xs) zs (suc n) zero within unmarked = unmarked
kept_taken (x ∷ xs) zs (suc n) (suc k) within unmarked = kept_taken xs zs n k (omega (arith, within)) unmarked
