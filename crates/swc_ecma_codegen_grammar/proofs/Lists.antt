-- Maps of lists.
use Rattle.std.proofs.Common.{◌≡◌, ◌∙◌, refl, sym, ap, subst, [], ◌∷◌, ◌++◌, is_some, option_map, Bool, true, false, ℕ, cond, nat_lt, ◌==◌, ◌<◌, arith, inl, inr}
use Rattle.std.specs.Prelude.{Option, Some, None, Result, Ok, Err, OnErr, Vec}
use Rattle.std.specs.BTreeMap.{BTreeMap, get, is_at}
use Rattle.std.specs.Map.{lookup}
use Rattle.std.proofs.Math.Path.{fun_ext}
use Rattle.std.specs.declared.cmp.Ordering.{Ordering}
use Rattle.swc_ecma_codegen_common.specs.declared.positions.BytePos.{BytePos}
use Rattle.swc_ecma_codegen_grammar.specs.declared.comments.Comment.{Comment}
use Rattle.swc_ecma_codegen_grammar.specs.CommentMaps.{listed, with, lists_in}
use Rattle.std.specs.Ordering.{is_eq, nat_cmp}
use Rattle.std.proofs.lemmas.Bool.{cases_Bool, ltb-true, ne_eqb, eqb-true}

pub is_some_mapped : {A B : Type 0} → (f : A → B) (o : Option A) → is_some (option_map f o) ≡ is_some o
is_some_mapped f (Some x) = refl
is_some_mapped f None = refl

unequal : (a b : ℕ) → a < b → a ≡ b → ⊥
unequal a b less same = omega (arith, less, same)

-- numbers compare as equal where they are
pub is_eq_number : (a b : ℕ) → is_eq (nat_cmp a b) ≡ (a == b)
is_eq_number a b = elim (cases_Bool (nat_lt a b)) [
  | inl less ↦ rw (less, ne_eqb a b (unequal a b (ltb-true a b less))) refl
  | inr more ↦ rw more (same (a == b))
]
  where
    same : (x : Bool) → is_eq (cond x Rattle.std.specs.declared.cmp.Ordering.TheVariants.Equal Rattle.std.specs.declared.cmp.Ordering.TheVariants.Greater) ≡ x
    same true = refl
    same false = refl

pub mapped_cond : {A B : Type 0} → (f : A → B) (b : Bool) (o : Option A) → option_map f (cond b None o) ≡ cond b None (option_map f o)
mapped_cond f true o = refl
mapped_cond f false o = refl

-- a list that was taken out, and the rest
pub mapped_without : {A B : Type 0} → (f : A → B) (b c : Bool) (o : Option A) → b ≡ c → option_map f (cond b None o) ≡ cond c None (option_map f o)
mapped_without f b c o same = rw same (mapped_cond f c o)

-- numbers that are equal by their comparison
pub eq_number : (a b : ℕ) → is_eq (nat_cmp a b) ≡ true → a ≡ b
eq_number a b e = eqb-true a b (sym (is_eq_number a b) ∙ e)

-- what holds at any rate
pub on_err : {T E P : Type 0} → (r : Result T E) → P → OnErr r P
on_err (Ok x) p = tt
on_err (Err e) p = p

-- a list that was written, and the rest
mapped_with : {A B : Type 0} → (f : A → B) (b c : Bool) (w : A) (x : B) (o : Option A) → f w ≡ x → b ≡ c → option_map f (cond b (Some w) o) ≡ cond c (Some x) (option_map f o)
mapped_with f b c w x o same e = rw e (here c)
  where
    here : (d : Bool) → option_map f (cond d (Some w) o) ≡ cond d (Some x) (option_map f o)
    here true = ap Some same
    here false = refl

-- one that was written as it was
mapped_same : {A B : Type 0} → (f : A → B) (b : Bool) (w : A) (o : Option A) → (b ≡ true → option_map f o ≡ Some (f w)) → option_map f (cond b (Some w) o) ≡ option_map f o
mapped_same f true w o same = sym (same refl)
mapped_same f false w o same = refl

module _ {Y : Type 0} (cmp : BytePos → BytePos → Ordering) (m n : BTreeMap BytePos (Vec Comment Y)) where
  -- the same entries are the same lists
  pub same_lists : n.entries ≡ m.entries → lists_in cmp n ≡ lists_in cmp m
  unfolding lists_in
  same_lists e = fun_ext (λ q. ap (λ es. option_map (λ list. list.items) (lookup (is_at (cmp (record { 0 = q }))) es)) e)

  module _ (pos : BytePos) (w : Vec Comment Y) (is_written : (q : BytePos) → get cmp n q ≡ cond (is_at (cmp pos) q) (Some w) (get cmp m q)) where
    -- a list that is written as it was leaves all lists as they were
    pub lists_same : (v : Vec Comment Y) → ((q : ℕ) → is_at (cmp pos) (record { 0 = q }) ≡ true → pos.0 ≡ q) → Some v ≡ get cmp m pos → w.items ≡ v.items → lists_in cmp n ≡ lists_in cmp m
    unfolding lists_in
    lists_same v is_here was same = fun_ext (λ q.
        ap (option_map (λ list. list.items)) (is_written (record { 0 = q }))
        ∙ mapped_same (λ list. list.items) _ w _ (λ found.
        subst (λ at. option_map (λ list. list.items) (get cmp m (record { 0 = at })) ≡ Some w.items) (is_here q found)
        (ap (option_map (λ list. list.items)) (sym was) ∙ ap Some (sym same))))

    -- one that is written with one more comment
    pub lists_with : (c : Comment) → ((q : ℕ) → is_at (cmp pos) (record { 0 = q }) ≡ (pos.0 == q)) → (o : Option (Vec Comment Y)) → o ≡ get cmp m pos
        → w.items ≡ listed (option_map (λ list. list.items) o) ++ c ∷ [] → lists_in cmp n ≡ with pos.0 c (lists_in cmp m)
    unfolding lists_in with
    lists_with c is_here o was items = fun_ext (λ q.
        ap (option_map (λ list. list.items)) (is_written (record { 0 = q }))
        ∙ mapped_with (λ list. list.items) _ _ w _ _ (items ∙ ap (λ x. listed (option_map (λ list. list.items) x) ++ c ∷ []) was) (is_here q))

    -- the first one of a position
    pub lists_begun : (before : BTreeMap BytePos (Vec Comment Y)) → m ≡ before → (c : Comment) → ((q : ℕ) → is_at (cmp pos) (record { 0 = q }) ≡ (pos.0 == q)) → None ≡ get cmp before pos
        → w.items ≡ c ∷ [] → lists_in cmp n ≡ with pos.0 c (lists_in cmp before)
    unfolding listed
    lists_begun before h c is_here was items =
        subst (λ z. lists_in cmp n ≡ with pos.0 c (lists_in cmp z)) h (lists_with c is_here None (was ∙ ap (λ z. get cmp z pos) (sym h)) items)
