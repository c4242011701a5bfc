-- What is found in a list, element by element.
use Rattle.std.proofs.Common.{◌≡◌, inl, inr, ℕ, suc, ◌+◌, ◌<◌, ◌≤◌, List, [], ◌∷◌, length, get_or, drop, refl, sym, subst, ap, ◌∙◌, add-one, drop-cons}
use Rattle.std.proofs.lemmas.List.{drop_all}
use Rattle.swc_ecma_codegen_validate.specs.Rules.{Place, Indexed, Findings, in_each}

module _ {A : Type 0} (find : A → Findings) where
  cons_none : (i : ℕ) (x : A) (ys : List A) → (find x).none → (in_each find (suc i) ys).none → (in_each find i (x ∷ ys)).none
  unfolding in_each
  cons_none i x ys h k = (h, k)

  cons_later : (i : ℕ) (x : A) (ys : List A) (path : List Place) (words : List ℕ) → (find x).none → (in_each find (suc i) ys).first path words → (in_each find i (x ∷ ys)).first path words
  unfolding in_each
  cons_later i x ys path words h k = inr (h, k)

  cons_here : (i : ℕ) (x : A) (ys : List A) (rest : List Place) (words : List ℕ) → (find x).first rest words → (in_each find i (x ∷ ys)).first (Indexed i ∷ rest) words
  unfolding in_each
  cons_here i x ys rest words h = inl (rest, refl, h)

  nil_none : (i : ℕ) → (in_each find i []).none
  unfolding in_each
  nil_none i = tt

-- the rest of a list, from an element on
module _ {A : Type 0} (find : A → Findings) (xs : List A) (i : ℕ) (x : A) (inside : i < length xs) (is : x ≡ get_or xs i x) where
  split : drop i xs ≡ x ∷ drop (suc i) xs
  split = drop-cons xs i x inside ∙ ap (λ y. y ∷ drop (suc i) xs) (sym is)

  pub none_here : (find x).none → (in_each find (i + 1) (drop (i + 1) xs)).none → (in_each find i (drop i xs)).none
  none_here h k = subst (λ z. (in_each find i z).none) (sym split) (cons_none find i x (drop (suc i) xs) h (rw add-one at k))

  pub first_later : (find x).none → (path : List Place) (words : List ℕ) → (in_each find (i + 1) (drop (i + 1) xs)).first path words → (in_each find i (drop i xs)).first path words
  first_later h path words k = subst (λ z. (in_each find i z).first path words) (sym split) (cons_later find i x (drop (suc i) xs) path words h (rw add-one at k))

  pub first_here : (rest : List Place) (words : List ℕ) → (find x).first rest words → (in_each find i (drop i xs)).first (Indexed i ∷ rest) words
  first_here rest words h = subst (λ z. (in_each find i z).first (Indexed i ∷ rest) words) (sym split) (cons_here find i x (drop (suc i) xs) rest words h)

pub none_left : {A : Type 0} (find : A → Findings) (xs : List A) (i : ℕ) → length xs ≤ i → (in_each find i (drop i xs)).none
none_left find xs i h = subst (λ z. (in_each find i z).none) (sym (drop_all i xs h)) (nil_none find i)
