-- Where there are no comments, none are left after any steps.
use Rattle.std.proofs.Common.{◌≡◌, ◌==◌, ℕ, Bool, true, false, cond, List, [], ◌∷◌, Option, None, refl, ap, ◌∙◌}
use Rattle.swc_ecma_codegen_grammar.specs.CommentMaps.{Maps, without, without_leading, without_trailing}
use Rattle.swc_ecma_codegen_grammar.specs.Comments.{Side, Leading, Trailing, no_maps, taken_out}
use Rattle.swc_ecma_codegen_tokens.specs.Plain.{IsPlain}
use Rattle.swc_ecma_codegen_tokens.specs.Run.{Env, Step, Take, at_maps, after_step, maps_after}

either_none : {A : Type 0} (b : Bool) → ◌≡◌ {A = Option A} (cond b None None) None
either_none true = refl
either_none false = refl

none_without : {A : Type 0} (pos : ℕ) → ◌≡◌ {A = ℕ → Option A} (without pos (λ q. None)) (λ q. None)
unfolding without
none_without pos = λ i. λ q. either_none (pos == q) i

none_out : (side : Side) (pos : ℕ) → taken_out side pos no_maps ≡ no_maps
unfolding taken_out without_leading without_trailing
none_out Leading pos = ap (λ z. record { leading = z; trailing = λ q. None }) (none_without pos)
none_out Trailing pos = ap (λ z. record { leading = λ q. None; trailing = z }) (none_without pos)

pub none_after_step : (x : Step) → after_step x no_maps ≡ no_maps
unfolding after_step
none_after_step (Take side pos) = none_out side pos
none_after_step x = refl

none_after : (xs : List Step) → maps_after xs no_maps ≡ no_maps
unfolding maps_after
none_after [] = refl
none_after (x ∷ xs) = ap (maps_after xs) (none_after_step x) ∙ none_after xs

pub still_plain : (xs : List Step) (maps : Maps) (env : Env) → IsPlain (at_maps maps env) → IsPlain (at_maps (maps_after xs maps) env)
still_plain xs maps env h = record { no_comments = ap (maps_after xs) h.no_comments ∙ none_after xs; no_source = h.no_source }
