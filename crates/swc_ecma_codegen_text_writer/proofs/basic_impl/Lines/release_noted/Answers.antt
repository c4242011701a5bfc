use Rattle.std.proofs.Common.{◌∙◌, ap}
use Rattle.std.proofs.lemmas.Result.{err_from_is_err_and}
use Rattle.swc_ecma_codegen_text_writer.specs.Sheet.{Sheet, released, noted}
use Rattle.swc_ecma_codegen_text_writer.specs.View.{sheet_of, Reaches}
use Rattle.swc_ecma_codegen_text_writer.proofs.Sheets.{alike_same, released_alike, noted_alike}
use Rattle.swc_ecma_codegen_text_writer.proofs.Stays.{released_stays}
use Rattle.swc_ecma_codegen_text_writer.proofs.Steps.{first_halted, reached, reaches_to, reaches_then}
use Rattle.swc_ecma_codegen_text_writer.proofs.basic_impl.Lines.release_noted.Goals as goal

pub returns-in_err-release : goal.returns-in_err-release
unfolding Reaches
returns-in_err-release g c =
    let p = err_from_is_err_and c.from_residual.result c.from_residual.ensures.1 in
    rw (p.1, p.2) (first_halted _ _ _ _ _ (noted_alike c.args.pos (released c.args.text.now (sheet_of c.args.self.now))) c.in_err-release.ensures)

pub note-requires-clause-fresh : goal.note-requires-clause-fresh
unfolding Reaches
note-requires-clause-fresh g c = ap (λ (s : Sheet). s.refused) c.in_ok-release.ensures ∙ (alike_same _ _ (released_alike c.args.text.now (sheet_of c.args.self.now))).refused ∙ c.requires.fresh

pub note-requires-clause-keeps : goal.note-requires-clause-keeps
unfolding Reaches
note-requires-clause-keeps g c = ap (λ (s : Sheet). s.keeps_positions) c.in_ok-release.ensures ∙ (alike_same _ _ (released_alike c.args.text.now (sheet_of c.args.self.now))).keeps_positions ∙ c.requires.keeps

pub returns : goal.returns
returns g c =
    reaches_then _ _ _ _ _ _ (reached _ _ _ _ c.in_ok-release.ensures) (released_alike c.args.text.now _) (released_stays c.args.text.now _)
    (λ e. reaches_to _ _ _ _ _ (ap (noted c.args.pos) e) c.note.ensures)
