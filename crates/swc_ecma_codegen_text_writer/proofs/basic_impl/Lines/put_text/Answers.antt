use Rattle.std.proofs.Common.{◌∙◌, ap, None}
use Rattle.std.proofs.lemmas.Result.{err_from_is_err_and}
use Rattle.swc_ecma_codegen_text_writer.specs.Sheet.{Sheet, appended, start_recorded, end_recorded}
use Rattle.swc_ecma_codegen_text_writer.specs.View.{sheet_of, Reaches}
use Rattle.swc_ecma_codegen_text_writer.proofs.Sheets.{started_alike, started_same}
use Rattle.swc_ecma_codegen_text_writer.proofs.Stays.{started_stays}
use Rattle.swc_ecma_codegen_text_writer.proofs.Steps.{first_halted, reached, reaches_to, reaches_then, written_some, started_written}
use Rattle.swc_ecma_codegen_text_writer.proofs.basic_impl.Lines.put_text.Goals as goal

pub returns-in_err-start_line : goal.returns-in_err-start_line
unfolding Reaches
returns-in_err-start_line g c =
    let p = err_from_is_err_and c.from_residual.result c.from_residual.ensures.1 in
    rw (p.1, p.2) (first_halted _ _ _ _ _ (started_written None _ _ c.requires.some) c.in_err-start_line.ensures)

pub send_begun-requires : goal.send_begun-requires
unfolding Reaches
send_begun-requires g c = ap (λ (s : Sheet). s.refused) c.in_ok-start_line.ensures ∙ (started_same (sheet_of c.args.self.now)).refused ∙ c.requires.fresh

pub returns : goal.returns
unfolding start_recorded end_recorded
returns g c =
    reaches_then _ _ _ _ _ _ (reached _ _ _ _ c.in_ok-start_line.ensures) (started_alike _) (started_stays _)
    (λ e. reaches_to _ _ _ _ _ (ap (λ (s : Sheet). appended c.args.text.now s) e ∙ written_some None c.args.text.now _ c.requires.some) c.send_begun.ensures)
