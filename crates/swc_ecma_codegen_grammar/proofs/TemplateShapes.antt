-- What may go on after a part of a template: nothing.
use Rattle.std.proofs.Common.{Bool, List, [], false, inl, inr, not, sym, true, ℕ, ◌&&◌, ◌++◌, ◌==◌, ◌∷◌, ◌≡◌}
use Rattle.std.proofs.lemmas.Bool.{and_parts, true≢false}
use Rattle.swc_ecma_codegen_grammar.proofs.Conditions.{empty_more, if_both, if_either}
use Rattle.swc_ecma_codegen_grammar.specs.Templates.{ends_template, goes_on_as, is_template, is_template_rest}
use Rattle.swc_ecma_codegen_grammar.specs.Texts.{begins, is_empty, is_same}
use Rattle.swc_ecma_codegen_grammar.specs.declared.kinds.TemplatePart.{TemplatePart}

-- a template part ends once
never_more : (t : List ℕ) (c : ℕ) (m : List ℕ) → is_same (t ++ c ∷ m) [] ≡ true → ⊥
unfolding is_same
never_more [] c m h = true≢false (sym h)
never_more (d ∷ t) c m h = true≢false (sym h)

no_template : (o e : Bool) → ends_template o e [] ≡ true → ⊥
unfolding ends_template
no_template o true h = true≢false (sym h)
no_template o false h = true≢false (sym h)

template_once : (o p e : Bool) (t : List ℕ) (c : ℕ) (m : List ℕ) → ends_template o e t ≡ true → ends_template p e (t ++ c ∷ m) ≡ true → ⊥
unfolding ends_template begins is_same
template_once o p true [] c m h k = true≢false (sym h)
template_once o p false [] c m h k = true≢false (sym h)
template_once o p true (d ∷ t) c m h k = template_once o p false t c m h k
template_once o p false (d ∷ []) c m h k =
    elim (if_both (d == 96) (not o && is_empty []) _ (not p && is_empty (c ∷ m)) _ h k) [
      | inl r ↦ empty_more [] c m (and_parts (not p) (is_empty (c ∷ m)) r.1).1
      | inr r ↦ elim (if_either ((d == 36) && false) (o && false) (ends_template o (d == 92) []) r.0) [
        | inl q ↦ true≢false (sym (and_parts (d == 36) false q.0).1)
        | inr q ↦ no_template o (d == 92) q
      ]
    ]
template_once o p false (d ∷ x ∷ t) c m h k =
    elim (if_both (d == 96) (not o && is_empty (x ∷ t)) _ (not p && is_empty (x ∷ (t ++ c ∷ m))) _ h k) [
      | inl r ↦ empty_more (x ∷ t) c m (and_parts (not p) (is_empty (x ∷ (t ++ c ∷ m))) r.1).1
      | inr r ↦ elim (if_both ((d == 36) && ((123 == x) && true)) (o && ((x == 123) && is_same t [])) (ends_template o (d == 92) (x ∷ t)) (p && ((x == 123) && is_same (t ++ c ∷ m) [])) (ends_template p (d == 92) (x ∷ (t ++ c ∷ m))) r.0 r.1) [
        | inl q ↦ never_more t c m (and_parts (x == 123) (is_same (t ++ c ∷ m) []) (and_parts p ((x == 123) && is_same (t ++ c ∷ m) []) q.1).1).1
        | inr q ↦ template_once o p (d == 92) (x ∷ t) c m q.0 q.1
      ]
    ]

-- the outlines of two parts
both_end : (o p : TemplatePart) (t u : List ℕ) (a b : Bool) → (a && goes_on_as o t) ≡ true → (b && goes_on_as p u) ≡ true → (ends_template o.opens false t ≡ true) × (ends_template p.opens false u ≡ true)
unfolding goes_on_as
both_end o p t u a b h k =
    ((and_parts (ends_template o.opens false t) _ (and_parts a _ h).1).0, (and_parts (ends_template p.opens false u) _ (and_parts b _ k).1).0)

pub first_template_once : (o p : TemplatePart) (t : List ℕ) (c : ℕ) (m : List ℕ) → is_template o t ≡ true → is_template p (t ++ c ∷ m) ≡ true → ⊥
unfolding is_template
first_template_once o p [] c m h k = true≢false (sym h)
first_template_once o p (d ∷ t) c m h k = let e = both_end o p t (t ++ c ∷ m) (d == 96) (d == 96) h k in template_once o.opens p.opens false t c m e.0 e.1

pub later_template_once : (o p : TemplatePart) (t : List ℕ) (c : ℕ) (m : List ℕ) → is_template_rest o t ≡ true → is_template_rest p (t ++ c ∷ m) ≡ true → ⊥
unfolding is_template_rest
later_template_once o p [] c m h k = true≢false (sym h)
later_template_once o p (d ∷ t) c m h k = let e = both_end o p t (t ++ c ∷ m) (d == 125) (d == 125) h k in template_once o.opens p.opens false t c m e.0 e.1

pub template_head : (o : TemplatePart) (c : ℕ) (n : List ℕ) → is_template o (c ∷ n) ≡ true → (c == 96) ≡ true
unfolding is_template
template_head o c n h = (and_parts (c == 96) _ h).0

pub template_rest_head : (o : TemplatePart) (c : ℕ) (n : List ℕ) → is_template_rest o (c ∷ n) ≡ true → (c == 125) ≡ true
unfolding is_template_rest
template_rest_head o c n h = (and_parts (c == 125) _ h).0

pub some_template : (o : TemplatePart) → is_template o [] ≡ true → ⊥
unfolding is_template
some_template o h = true≢false (sym h)

pub some_template_rest : (o : TemplatePart) → is_template_rest o [] ≡ true → ⊥
unfolding is_template_rest
some_template_rest o h = true≢false (sym h)
