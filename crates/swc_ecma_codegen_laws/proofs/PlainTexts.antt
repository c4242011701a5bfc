-- What is written where there are neither comments nor a source text reads as the plain list.
use Rattle.std.proofs.Common.{◌≡◌, ℕ, false, true, List, [], ◌∷◌, ◌++◌, Result, OnOk, refl, sym, ap, ◌∙◌, subst}
use Rattle.std.proofs.lemmas.Bool.{not-false}
use Rattle.swc_ecma_codegen_common.specs.Refusals.{in_short}
use Rattle.swc_ecma_codegen_common.specs.declared.errors.Refusal.{Refusal}
use Rattle.swc_ecma_codegen_grammar.specs.CommentMaps.{Maps, listed}
use Rattle.swc_ecma_codegen_grammar.specs.Comments.{AreClosed, Side, Leading, Trailing, comments_at, no_maps, remarks_of}
use Rattle.swc_ecma_codegen_grammar.specs.PlainPhrases.{plain_phrase}
use Rattle.swc_ecma_codegen_grammar.specs.Trivia.{Remark}
use Rattle.swc_ecma_codegen_tokens.specs.Plain.{IsPlain}
use Rattle.swc_ecma_codegen_tokens.specs.Run.{Env, Part, State, Step, Follows, Take, after_step, is_bounded, nothing, steps_of, taken_by, taken_in}
use Rattle.swc_ecma_codegen_tokens.specs.Written.{AddsReading, taken_remarks}
use Rattle.swc_ecma_codegen_tokens.proofs.Emission.Short.{on_ok_in_short}
use Rattle.swc_ecma_codegen_tokens.proofs.Reading.Phrased.{printed_reads_plain}
use Rattle.swc_ecma_codegen_tokens.proofs.Reading.StillPlain.{none_after_step}
use Rattle.swc_ecma_codegen_emit.specs.Emission.{Outcome}
use Rattle.swc_ecma_codegen_emit.specs.Roots.{Root, MayBegin, root_hashbang, root_items, root_phrase, is_well_formed_root}
use Rattle.swc_ecma_codegen_emit.proofs.ByItself.{root_prints}
use Rattle.swc_ecma_codegen_laws.specs.PlainTexts.{ReadsPlainly}
use Rattle.swc_ecma_codegen_laws.proofs.ClosedMaps.{nowhere_closed}

-- without comments none are taken
none_at : (side : Side) (pos : ℕ) → comments_at side pos no_maps ≡ []
unfolding comments_at listed
none_at Leading pos = refl
none_at Trailing pos = refl

none_by : (x : Step) → taken_by x no_maps ≡ []
unfolding taken_by
none_by (Take side at) = none_at side at
none_by x = refl

none_in : (xs : List Step) → taken_in xs no_maps ≡ []
unfolding taken_in
none_in [] = refl
none_in (x ∷ xs) = ap (λ z. z ++ taken_in xs (after_step x no_maps)) (none_by x) ∙ ap (taken_in xs) (none_after_step x) ∙ none_in xs

none_taken : (p : Part) (env : Env) → env.maps ≡ no_maps → taken_remarks p env ≡ []
unfolding remarks_of
none_taken p env e = ap (λ m. remarks_of (taken_in (steps_of (p nothing env)) m)) e ∙ ap remarks_of (none_in (steps_of (p nothing env)))

closed_nowhere : (maps : Maps) → maps ≡ no_maps → AreClosed maps
closed_nowhere maps e = subst AreClosed (sym e) (nowhere_closed no_maps (λ pos. refl) (λ pos. refl))

reads_so : (n : Root) (a b : State) (r : Result (Unit {0}) Refusal) → is_well_formed_root n ≡ true → MayBegin n a → IsPlain a.env → is_bounded a.env ≡ false → Follows (root_items n nothing) a b r →
    OnOk r (AddsReading a.env.config (plain_phrase a.env.config.minify (root_phrase n)) [] a.sheet b.sheet)
reads_so n a b r w s plain bounded h =
    subst (λ (z : List Remark). OnOk r (AddsReading a.env.config (plain_phrase a.env.config.minify (root_phrase n)) z a.sheet b.sheet)) (none_taken (root_items n) a.env plain.no_comments)
    (printed_reads_plain _ (root_items n) (root_phrase n) a b r s.is_new (λ e. s.at_margin (not-false (root_hashbang n) e)) (closed_nowhere a.env.maps plain.no_comments) (root_prints a.env s.is_new.leaves_out n bounded) w plain h)

pub root_reads_plain : (n : Root) (a b : State) (r : Outcome) → Follows (root_items n nothing) a b (in_short r) → ReadsPlainly n a b r
root_reads_plain n a b r h = λ w s plain bounded. on_ok_in_short _ r (reads_so n a b (in_short r) w s plain bounded h)
