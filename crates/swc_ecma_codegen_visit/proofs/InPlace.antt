-- A list whose elements were changed in place, one after another.
use Rattle.std.proofs.Common.{rules, add-one, ◌≡◌, refl, sym, ap, ap₂, subst, ◌∙◌, ℕ, zero, suc, ◌+◌, ◌<◌, ◌≤◌, List, [], ◌∷◌, take, drop, set, length, get_or, map}
use Rattle.std.proofs.lemmas.List.{with_items_is}
use Rattle.std.specs.declared.vec.Vec.{Vec}
use Rattle.std.specs.Vec.{with_items}
use Rattle.std.specs.formers.vec.Vec.{mapped, holding_along}
use Rattle.swc_ecma_codegen_visit.specs.Pairs.{Pairwise, nothing, more}

one_more_at : {A : Type 0} (R : A → A → Type 0) (xs ys : List A) (i : ℕ) (d y : A) → i < length ys → drop i xs ≡ drop i ys → Pairwise R (take i xs) (take i ys)
    → R (get_or ys i d) y → Pairwise R (take (suc i) xs) (take (suc i) (set ys i y)) × (drop (suc i) xs ≡ drop (suc i) (set ys i y))
one_more_at R xs [] i d y inside rest done same = absurd (search rules)
one_more_at R xs (b ∷ ys) zero d y inside rest done same =
    subst (λ l. Pairwise R (take 1 l) (y ∷ []) × (drop 1 l ≡ ys)) (sym rest) (more same nothing, refl)
one_more_at R [] (b ∷ ys) (suc i) d y inside rest done same = elim done [ ]
one_more_at R (a ∷ xs) (b ∷ ys) (suc i) d y inside rest (more first others) same =
    let both = one_more_at R xs ys i d y (search rules) rest others same in
    (more first both.0, both.1)

pub one_more : {A : Type 0} (R : A → A → Type 0) (xs ys : List A) (i : ℕ) (d y : A) → i < length ys → drop i xs ≡ drop i ys → Pairwise R (take i xs) (take i ys)
    → R (get_or ys i d) y → Pairwise R (take (i + 1) xs) (take (i + 1) (set ys i y)) × (drop (i + 1) xs ≡ drop (i + 1) (set ys i y))
one_more R xs ys i d y inside rest done same =
    subst (λ k. Pairwise R (take k xs) (take k (set ys i y)) × (drop k xs ≡ drop k (set ys i y))) (sym (add-one i)) (one_more_at R xs ys i d y inside rest done same)

all_more : {A : Type 0} (R : A → A → Type 0) (xs ys : List A) (i : ℕ) → length ys ≤ i → drop i xs ≡ drop i ys → Pairwise R (take i xs) (take i ys) → Pairwise R xs ys
all_more R xs [] zero past rest done = subst (λ l. Pairwise R l []) (sym rest) nothing
all_more R xs (b ∷ ys) zero past rest done = absurd (search rules)
all_more R [] [] (suc i) past rest done = nothing
all_more R (a ∷ xs) [] (suc i) past rest done = elim done [ ]
all_more R [] (b ∷ ys) (suc i) past rest done = elim done [ ]
all_more R (a ∷ xs) (b ∷ ys) (suc i) past rest (more first others) = more first (all_more R xs ys i (search rules) rest others)

map_pairwise : {A : Type 0} (f g : A → A) (xs ys : List A) → Pairwise (λ a b. f a ≡ g b) xs ys → map f xs ≡ map g ys
map_pairwise f g [] [] nothing = refl
map_pairwise {A = A} f g [] (y ∷ ys) none = elim none [ ]
map_pairwise {A = A} f g (x ∷ xs) [] none = elim none [ ]
map_pairwise f g (x ∷ xs) (y ∷ ys) (more first others) = ap₂ (λ a l. a ∷ l) first (map_pairwise f g xs ys others)

-- A list that was gone through to its end maps to the same.
pub all_mapped : {A Z : Type 0} (f g : A → A) (v : Vec A Z) (ys : List A) (i : ℕ) → length ys ≡ length v.items → length ys ≤ i → drop i v.items ≡ drop i ys
    → Pairwise (λ a b. f a ≡ g b) (take i v.items) (take i ys) → mapped f v ≡ mapped g (with_items v ys)
all_mapped f g v ys i same past rest done =
    let whole = map_pairwise f g v.items ys (all_more (λ a b. f a ≡ g b) v.items ys i past rest done) in
    let items = with_items_is v ys (same ∙ sym v.ok.0) in
    holding_along v (map f v.items) (map g (with_items v ys).items) (whole ∙ ap (map g) (sym items)) (mapped f v).ok (mapped g (with_items v ys)).ok
