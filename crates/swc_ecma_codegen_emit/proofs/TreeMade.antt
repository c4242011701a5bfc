-- When the emission of a tree is made.
use Rattle.std.proofs.Common.{◌≡◌, ◌⊎◌, ◌&&◌, is_some, inl, inr, ℕ, ◌^◌, ◌<◌, true, false, not, [], refl, sym, ap, ◌∙◌, subst, List, ◌∷◌, Option, Some, None, Err, arith}
use Rattle.std.proofs.lemmas.Bool.{not-false, true≢false}
use Rattle.swc_ecma_codegen_common.specs.declared.errors.Error.{Error}
use Rattle.swc_ecma_codegen_common.specs.Refusals.{in_short, reason_of}
use Rattle.swc_ecma_codegen_common.specs.declared.errors.Error.TheVariants.{Writer, OutOfMemory, UnsupportedNode, BadShape, NameOutOfTarget, PositionTooLarge, Failed}
use Rattle.swc_ecma_codegen_settings.specs.declared.config.Config.{Config}
use Rattle.swc_ecma_codegen_settings.specs.Defaults.{default_config}
use Rattle.swc_ecma_codegen_text_writer.specs.View.{new_sheet}
use Rattle.swc_ecma_codegen_grammar.specs.SourceLines.{Lines, no_lines}
use Rattle.swc_ecma_codegen_grammar.specs.CommentMaps.{Maps}
use Rattle.swc_ecma_codegen_grammar.specs.Trivia.{Remark}
use Rattle.swc_ecma_codegen_grammar.specs.Comments.{AreClosed, no_maps, remarks_of}
use Rattle.swc_ecma_codegen_tokens.proofs.Commenting.NoneTaken.{none_taken, no_maps_bare, no_maps_closed}
use Rattle.swc_ecma_codegen_tokens.specs.Run.{Part, is_bounded, State, nothing, unprintable_in, Follows, HasCause, PassesLimit, IsTooFar, start, steps_in, steps_of}
use Rattle.swc_ecma_codegen_tokens.specs.declared.refusals.Unprintable.{Unprintable}
use Rattle.swc_ecma_codegen_tokens.specs.Targets.{is_out}
use Rattle.swc_ecma_codegen_tokens.specs.Ready.{token_count, IsReady}
use Rattle.swc_ecma_codegen_tokens.specs.Written.{ReadsAs, taken_remarks}
use Rattle.swc_ecma_codegen_tokens.proofs.Emission.Short.{is_ok_in_short}
use Rattle.swc_ecma_codegen_tokens.proofs.Reading.Phrased.{steps_read, whole_reads}
use Rattle.swc_ecma_codegen_tokens.proofs.Emission.Made.{plain_made, printable, within}
use Rattle.swc_ecma_codegen_tokens.proofs.NameTokens.Targets.{bare_not_out}
use Rattle.swc_ecma_codegen_tokens.proofs.Emission.Fronts.{follows_cause}
use Rattle.swc_ecma_codegen_emit.specs.Emission.{Outcome, MakesPlainTrees}
use Rattle.swc_ecma_codegen_emit.specs.Texts.{blank_sheet, text_of, text_over, IsOfWriter, GivesCause}
use Rattle.swc_ecma_codegen_emit.specs.Roots.{Root, root_items, root_phrase, is_well_formed_root, root_hashbang}
use Rattle.swc_ecma_codegen_emit.proofs.TreeReads.{new_begins, stands_plain}
use Rattle.swc_ecma_codegen_emit.proofs.ByItself.{root_prints}

pub root_made : (n : Root) (a b : State) (r : Outcome) → Follows (root_items n nothing) a b (in_short r) → MakesPlainTrees n a b r
root_made n a b r h = λ t s e. is_ok_in_short r (plain_made (root_items n) (root_phrase n) a b (in_short r) (root_prints a.env s.leaves_out n s.unbounded) t s e h)

-- a new emitter over a new writer, whose lines aren't bounded
pub new_is_ready : (lines : Lines) (maps : Maps) (config : Config) (bytes line_end : List ℕ) → (is_some config.max_line && config.minify) ≡ false → IsReady (start lines maps config (new_sheet bytes line_end))
new_is_ready lines maps config bytes line_end b = record { none_failed = refl; none_refused = refl; no_memory = refl; no_positions = refl; unbounded = b; leaves_out = refl; can_count = omega arith }

-- ---- a text in memory

-- all names can be written as they are
default_not_out : (n : Root) → is_out default_config (root_phrase n) ≡ false
default_not_out n = bare_not_out default_config (root_phrase n) refl

-- where its emission begins
abbrev begun : Lines → Maps → State
begun lines maps = start lines maps default_config blank_sheet

-- with comments that can be read back
pub code_reads_over : (lines : Lines) (maps : Maps) (n : Root) (p : Part) → p ≡ root_items n → is_well_formed_root n ≡ true → AreClosed maps → ReadsAs default_config false (root_phrase n) (taken_remarks p (begun lines maps).env) (text_over lines maps p)
code_reads_over lines maps n p same w closed =
    let a : State = begun lines maps in
    let s = new_begins n lines maps default_config [] (10 ∷ []) (inl refl) in
    whole_reads default_config false (root_phrase n) (taken_remarks p a.env) (text_over lines maps p) (steps_read (not (root_hashbang n)) p (root_phrase n) a s.is_new (λ e. s.at_margin (not-false (root_hashbang n) e)) closed (stands_plain n p a.env refl refl same) w (default_not_out n))

-- without comments none stand between the tokens
pub code_reads : (n : Root) (p : Part) → p ≡ root_items n → is_well_formed_root n ≡ true → ReadsAs default_config false (root_phrase n) [] (text_of p)
unfolding remarks_of
code_reads n p same w =
    let P : List Remark → Type 0 = λ rs. ReadsAs default_config false (root_phrase n) rs (text_of p) in
    subst P (ap remarks_of (none_taken (steps_of (p nothing (begun no_lines no_maps).env)) no_maps no_maps_bare)) (code_reads_over no_lines no_maps n p same w no_maps_closed)

root_printable : (a : State) (n : Root) (p : Part) → a.env.config ≡ default_config → a.env.keeps_invalid ≡ false → is_bounded a.env ≡ false → p ≡ root_items n → is_well_formed_root n ≡ true → unprintable_in (steps_in p a) ≡ None
root_printable a n p settings leaves b same w =
    let P : Config → Type 0 = λ z. is_out z (root_phrase n) ≡ false in
    printable p (root_phrase n) a.env (stands_plain n p a.env leaves b same) w (subst P (sym settings) (default_not_out n))

no_refusal : (r : Unprintable) → ◌≡◌ {A = Option Unprintable} (Some r) None → ⊥
no_refusal r h = absurd (cc)

module _ (lines : Lines) (maps : Maps) (n : Root) (p : Part) (same : p ≡ root_items n) (w : is_well_formed_root n ≡ true) where
  is_printable : unprintable_in (steps_in p (begun lines maps)) ≡ None
  is_printable = root_printable (begun lines maps) n p refl refl refl same w

  -- it comes to no limit, and keeps no position
  no_limit : token_count (root_phrase n) < 2 ^ 32 → (b : State) → PassesLimit (steps_of (steps_in p (begun lines maps))) (begun lines maps) ⊎ IsTooFar (begun lines maps) b → ⊥
  no_limit room b (inl h) = within p (root_phrase n) (begun lines maps) (stands_plain n p _ refl refl same) w (default_not_out n) (omega (arith, room)) h
  no_limit room b (inr h) = true≢false (sym h.0)

  by_cause : (error : Error) → token_count (root_phrase n) < 2 ^ 32 → (b : State) → HasCause (steps_in p (begun lines maps)) (reason_of error) (begun lines maps) b → (IsOfWriter error → ⊥) → error ≡ OutOfMemory
  unfolding HasCause
  by_cause (Writer x) room b h not_writer = absurd (not_writer tt)
  by_cause OutOfMemory room b h not_writer = refl
  by_cause UnsupportedNode room b h not_writer = absurd (no_refusal _ (sym h.refusal ∙ is_printable))
  by_cause BadShape room b h not_writer = absurd (no_refusal _ (sym h.refusal ∙ is_printable))
  by_cause NameOutOfTarget room b h not_writer = absurd (no_refusal _ (sym h.refusal ∙ is_printable))
  by_cause PositionTooLarge room b h not_writer = absurd (no_limit room b h)
  by_cause Failed room b h not_writer = absurd (true≢false (sym h))

  -- of a well-formed tree memory alone can be wanting, besides the writer
  pub code_cause : (error : Error) → token_count (root_phrase n) < 2 ^ 32 → GivesCause p (begun lines maps) error → (IsOfWriter error → ⊥) → error ≡ OutOfMemory
  code_cause error room h not_writer = by_cause error room h.0 (follows_cause (p nothing) (begun lines maps) h.0 (Err (reason_of error)) h.1) not_writer
