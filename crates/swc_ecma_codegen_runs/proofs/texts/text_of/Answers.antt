use Rattle.std.proofs.Common.{◌≡◌, refl, sym, ap, ◌∙◌, subst, Bool, true, false}
use Rattle.std.proofs.lemmas.Result.{err_from_is_err_and}
use Rattle.swc_ecma_codegen_settings.specs.declared.config.Config.{Config}
use Rattle.swc_ecma_codegen_text_writer.specs.Contents.{or_empty}
use Rattle.swc_ecma_codegen_text_writer.specs.Sheet.{Sheet, HoldsNone, holds_semicolons}
use Rattle.swc_ecma_codegen_text_writer.specs.PendingSemi.{with_held}
use Rattle.swc_ecma_codegen_text_writer.specs.View.{sheet_of}
use Rattle.swc_ecma_codegen_grammar.specs.Comments.{no_maps}
use Rattle.swc_ecma_codegen_grammar.specs.SourceLines.{no_lines}
use Rattle.swc_ecma_codegen_tokens.specs.Run.{Part, State, printed, start}
use Rattle.swc_ecma_codegen_emit.specs.Texts.{blank_sheet}
use Rattle.swc_ecma_codegen_runs.specs.Faults.{EndsWithFault, GivesFault}
use Rattle.swc_ecma_codegen_runs.specs.declared.faults.Fault.{Fault}
use Rattle.swc_ecma_codegen_runs.specs.declared.words.Options.{Options}
use Rattle.swc_ecma_codegen_runs.specs.Prints.{sheet_for, text_with, with_positions, with_semicolons}
use Rattle.swc_ecma_codegen_runs.specs.Words.{settings_of}
use Rattle.swc_ecma_codegen_runs.proofs.texts.text_of.Goals as goal

-- a `JsWriter` writes each semicolon at once, with positions and without
at_once : (positions : Bool) → holds_semicolons (with_positions positions blank_sheet).semicolons ≡ false
unfolding with_positions
at_once true = refl
at_once false = refl

pub omit_trailing_semi-requires : goal.omit_trailing_semi-requires
omit_trailing_semi-requires g c = ap (λ (s : Sheet). holds_semicolons s.semicolons) c.new_writer-writer.ensures ∙ at_once c.args.options.positions

-- the vector has the text of the writer under the one that held semicolons, and that is its text too
pub returns-in_ok-writer-clause-text : goal.returns-in_ok-writer-clause-text
unfolding with_held with_semicolons text_with
returns-in_ok-writer-clause-text g c =
    let part = g.P.Node.part c.args.tree.now in
    let options = c.args.options in
    let all : c.into_inner-then-options.result.items ≡ (sheet_of c.into_inner.result).text = ap or_empty (c.into_inner-then-options.ensures.text refl) in
    let under : (sheet_of c.into_inner.result).text ≡ (sheet_of c.in_ok-writer.writer.inner).text = ap (λ (s : Sheet). s.text) c.into_inner.ensures.sheet in
    let held : Sheet = with_held c.omit_trailing_semi.result.pending (sheet_of c.omit_trailing_semi.result.inner) in
    let begun : held ≡ sheet_for options =
    c.omit_trailing_semi.ensures ∙ ap (λ (s : Sheet). record s { semicolons = HoldsNone }) c.new_writer-writer.ensures ∙ ap (λ minify. with_semicolons minify (with_positions options.positions blank_sheet)) (sym c.if-options.true) in
    let end : (sheet_of c.in_ok-writer.writer.inner).text ≡ (printed part (start no_lines no_maps c.settings-config.result held)).sheet.text = ap (λ (s : Sheet). s.text) c.in_ok-writer.ensures.sheet in
    all ∙ under ∙ end ∙ ap (λ config. (printed part (start no_lines no_maps config held)).sheet.text) c.settings-config.ensures ∙ ap (λ s. (printed part (start no_lines no_maps (settings_of options) s)).sheet.text) begun

-- an emission with these settings from this sheet is the one that the options ask for
gives_fault : (options : Options) (part : Part) (config : Config) (s : Sheet) (fault : Fault) → config ≡ settings_of options → s ≡ sheet_for options → ((ended : State) × EndsWithFault part (start no_lines no_maps config s) ended fault) → GivesFault options part fault
gives_fault options part config s fault asked begun (ended, cause) =
    (ended, subst (λ a. EndsWithFault part a ended fault) (ap (λ k. start no_lines no_maps k s) asked ∙ ap (start no_lines no_maps (settings_of options)) begun) cause)

pub returns-in_err-writer-clause-cause : goal.returns-in_err-writer-clause-cause
unfolding with_held with_semicolons
returns-in_err-writer-clause-cause g c =
    let options = c.args.options in
    let begun : with_held c.omit_trailing_semi.result.pending (sheet_of c.omit_trailing_semi.result.inner) ≡ sheet_for options =
    c.omit_trailing_semi.ensures ∙ ap (λ (s : Sheet). record s { semicolons = HoldsNone }) c.new_writer-writer.ensures ∙ ap (λ minify. with_semicolons minify (with_positions options.positions blank_sheet)) (sym c.if-options.true) in
    let p = err_from_is_err_and c.from_residual.result c.from_residual.ensures.1 in
    rw (p.1, p.2) (gives_fault options (g.P.Node.part c.args.tree.now) c.settings-config.result _ _ c.settings-config.ensures begun c.in_err-writer.ensures.cause)

pub returns-in_err-writer-2-clause-cause : goal.returns-in_err-writer-2-clause-cause
unfolding with_semicolons
returns-in_err-writer-2-clause-cause g c =
    let options = c.args.options in
    let begun : sheet_of c.new_writer-writer.result ≡ sheet_for options = c.new_writer-writer.ensures ∙ ap (λ minify. with_semicolons minify (with_positions options.positions blank_sheet)) (sym c.if-options.false) in
    let p = err_from_is_err_and c.from_residual-in_err-writer-2.result c.from_residual-in_err-writer-2.ensures.1 in
    rw (p.1, p.2) (gives_fault options (g.P.Node.part c.args.tree.now) c.settings-config.result _ _ c.settings-config.ensures begun c.in_err-writer-2.ensures.cause)
