-- The text of an emission is UTF-8.
use Rattle.std.proofs.Common.{◌≡◌, ◌∙◌, Bool, true, false, []}
use Rattle.std.proofs.lemmas.Str.{is_utf8-from_IsUtf8, IsUtf8-nil}
use Rattle.swc_ecma_codegen_settings.specs.declared.config.Config.{Config}
use Rattle.swc_ecma_codegen_grammar.specs.CommentMaps.{Maps}
use Rattle.swc_ecma_codegen_grammar.specs.SourceLines.{Lines}
use Rattle.swc_ecma_codegen_tokens.specs.Run.{Part, printed, steps_in, steps_of}
use Rattle.swc_ecma_codegen_tokens.proofs.Emission.Fronts.{run_whole}
use Rattle.swc_ecma_codegen_emit.specs.Texts.{held_by, start_on}
use Rattle.swc_ecma_codegen_requests.specs.Sheets.{sheet_by}
use Rattle.swc_ecma_codegen_requests.specs.declared.layouts.Layout.{Layout}

whole_at : (b : Bool) (layout : Layout) → (held_by b (sheet_by layout)).whole ≡ true
unfolding held_by sheet_by
whole_at true layout = is_utf8-from_IsUtf8 [] IsUtf8-nil
whole_at false layout = is_utf8-from_IsUtf8 [] IsUtf8-nil

-- as no bytes are
pub printed_whole : (layout : Layout) (lines : Lines) (maps : Maps) (config : Config) (part : Part) → (printed part (start_on (sheet_by layout) lines maps config)).sheet.whole ≡ true
printed_whole layout lines maps config part =
    let a = start_on (sheet_by layout) lines maps config in
    run_whole (steps_of (steps_in part a)) a ∙ whole_at config.minify layout
