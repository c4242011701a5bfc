-- What a link and a list held and hold, where nodes were changed in place.
use Rattle.std.proofs.Common.{rules, add-one, ◌≡◌, refl, sym, ap, subst, ◌∙◌, ℕ, zero, suc, ◌+◌, ◌<◌, List, [], ◌∷◌, take, drop, set, length, get_or, Option, Some, MutBor}
use Rattle.std.specs.Option.{OnSome, option_copied_mut}
use Rattle.swc_ecma_codegen_tree.proofs.Lending.{left_there}
use Rattle.swc_ecma_codegen_parentheses.specs.Lists.{Pairwise, nothing, more}

pub lent_changed : {L T : Type 0} (node_in : L → Option T) (before : L) (lent : Option (MutBor T)) (node : MutBor T) (last : T → L)
    → lent ≡ Some node → option_copied_mut lent ≡ node_in before
    → ((w : T) → OnSome lent ((node_in (last w) ≡ Some w) × (node_in before ≡ Some w → last w ≡ before)))
    → (w : T) → (node_in before ≡ Some node.now) × (node_in (last w) ≡ Some w)
lent_changed node_in before lent node last is held holds w = (sym held ∙ ap option_copied_mut is, (left_there lent node is (holds w)).0)

-- one more of a list was changed
one_more_at : {A : Type 0} (R : A → A → Type 0) (xs ys : List A) (i : ℕ) (d y : A) → i < length ys → drop i xs ≡ drop i ys → Pairwise R (take i xs) (take i ys)
    → R (get_or ys i d) y → Pairwise R (take (suc i) xs) (take (suc i) (set ys i y)) × (drop (suc i) xs ≡ drop (suc i) (set ys i y))
one_more_at R xs [] i d y inside rest done same = absurd (search rules)
one_more_at R xs (b ∷ ys) zero d y inside rest done same =
    subst (λ l. Pairwise R (take 1 l) (y ∷ []) × (drop 1 l ≡ ys)) (sym rest) (more same nothing, refl)
one_more_at R [] (b ∷ ys) (suc i) d y inside rest done same = elim done [ ]
one_more_at R (a ∷ xs) (b ∷ ys) (suc i) d y inside rest (more first others) same =
    let both = one_more_at R xs ys i d y (search rules) rest others same in
    (more first both.0, both.1)

pub one_more : {A : Type 0} (R : A → A → Type 0) (xs ys : List A) (i : ℕ) (d y : A) → i < length ys → drop i xs ≡ drop i ys → Pairwise R (take i xs) (take i ys)
    → R (get_or ys i d) y → Pairwise R (take (i + 1) xs) (take (i + 1) (set ys i y)) × (drop (i + 1) xs ≡ drop (i + 1) (set ys i y))
one_more R xs ys i d y inside rest done same =
    subst (λ k. Pairwise R (take k xs) (take k (set ys i y)) × (drop k xs ≡ drop k (set ys i y))) (sym (add-one i)) (one_more_at R xs ys i d y inside rest done same)
