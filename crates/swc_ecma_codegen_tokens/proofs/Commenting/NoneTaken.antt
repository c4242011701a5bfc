-- Where there are no comments, none are taken.
use Rattle.std.proofs.Common.{◌≡◌, ◌∙◌, append-nil, refl, ap, ℕ, cond, List, [], ◌∷◌, ◌++◌, ◌==◌, Option, None, inl, inr}
use Rattle.std.proofs.lemmas.Bool.{cases_Bool}
use Rattle.swc_ecma_codegen_grammar.specs.CommentMaps.{Maps, without, without_leading, without_trailing}
use Rattle.swc_ecma_codegen_grammar.specs.declared.comments.Comment.{Comment as SourceComment}
use Rattle.swc_ecma_codegen_grammar.specs.CommentMaps.{listed}
use Rattle.swc_ecma_codegen_grammar.specs.Comments.{Side, Leading, Trailing, AreClosed, comments_at, taken_out, no_maps, remarks_of, all_closed}
use Rattle.swc_ecma_codegen_grammar.specs.Trivia.{Remark}
use Rattle.swc_ecma_codegen_tokens.specs.Written.{taken_remarks}
use Rattle.swc_ecma_codegen_tokens.specs.Run.{Env, Part, nothing, steps_of, Step, Take, after_step, taken_by, taken_in}

abbrev pub IsBare : Maps → Type 0
IsBare maps = (side : Side) (pos : ℕ) → comments_at side pos maps ≡ []

listed_without : (at pos : ℕ) (entries : ℕ → Option (List SourceComment)) → listed (entries pos) ≡ [] → listed (without at entries pos) ≡ []
unfolding without listed
listed_without at pos entries h = elim (cases_Bool (at == pos)) [
  | inl e ↦ ap (λ b. listed (cond b None (entries pos))) e
  | inr e ↦ ap (λ b. listed (cond b None (entries pos))) e ∙ h
]

out_bare : (side : Side) (at : ℕ) (maps : Maps) → IsBare maps → IsBare (taken_out side at maps)
unfolding taken_out comments_at without_leading without_trailing
out_bare Leading at maps h Leading pos = listed_without at pos maps.leading (h Leading pos)
out_bare Leading at maps h Trailing pos = h Trailing pos
out_bare Trailing at maps h Leading pos = h Leading pos
out_bare Trailing at maps h Trailing pos = listed_without at pos maps.trailing (h Trailing pos)

step_bare : (x : Step) (maps : Maps) → IsBare maps → IsBare (after_step x maps)
unfolding after_step
step_bare (Take side at) maps h = out_bare side at maps h
step_bare x maps h = h

by_none : (x : Step) (maps : Maps) → IsBare maps → taken_by x maps ≡ []
unfolding taken_by
by_none (Take side at) maps h = h side at
by_none x maps h = refl

pub none_taken : (xs : List Step) (maps : Maps) → IsBare maps → taken_in xs maps ≡ []
unfolding taken_in
none_taken [] maps h = refl
none_taken (x ∷ xs) maps h = ap (λ z. z ++ taken_in xs (after_step x maps)) (by_none x maps h) ∙ none_taken xs (after_step x maps) (step_bare x maps h)

pub no_maps_bare : IsBare no_maps
unfolding comments_at listed
no_maps_bare Leading pos = refl
no_maps_bare Trailing pos = refl

pub no_maps_closed : AreClosed no_maps
unfolding all_closed remarks_of listed
no_maps_closed = record { leading = λ pos. refl; trailing = λ pos. refl }

-- nothing comes to what was taken before
pub same_remarks : (rs : List Remark) (part : Part) (env : Env) → IsBare env.maps → (rs ++ taken_remarks part env) ≡ rs
unfolding remarks_of
same_remarks rs part env h = ap (λ z. rs ++ remarks_of z) (none_taken (steps_of (part nothing env)) env.maps h) ∙ append-nil rs
