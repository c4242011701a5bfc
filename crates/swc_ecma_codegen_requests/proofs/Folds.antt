-- What goes over a list from its front.
use Rattle.std.proofs.Common.{◌≡◌, List, [], ◌∷◌, ◌++◌, ap, ◌∙◌, sym}
use Rattle.std.specs.List.{fold}
use Rattle.std.proofs.lemmas.List.Sums.{fold_push}

-- one step more
pub fold_more : {A B : Type 0} (f : B → A → B) (a b c : B) (xs : List A) (x : A) → b ≡ fold f a xs → c ≡ f b x → c ≡ fold f a (xs ++ (x ∷ []))
fold_more f a b c xs x so_far step = step ∙ ap (λ m. f m x) so_far ∙ sym (fold_push f a xs x)
