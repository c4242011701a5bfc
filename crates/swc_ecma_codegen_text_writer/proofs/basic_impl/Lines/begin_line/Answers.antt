use Rattle.std.proofs.Common.{◌≡◌, false, sym, ◌∙◌, ap}
use Rattle.std.proofs.lemmas.Result.{err_from_is_err_and}
use Rattle.swc_ecma_codegen_text_writer.specs.Sheet.{Sheet, pending_recorded}
use Rattle.swc_ecma_codegen_text_writer.specs.View.{sheet_of, Reaches}
use Rattle.swc_ecma_codegen_text_writer.proofs.Sheets.{alike_same, indented_alike}
use Rattle.swc_ecma_codegen_text_writer.proofs.Steps.{started_true, first_halted, reached, reaches_to, reaches_then, begun_sheet, begun_sheet_alike, begun_sheet_stays, begun_sheet_pending, begun_on}
use Rattle.swc_ecma_codegen_text_writer.proofs.basic_impl.Lines.begin_line.Goals as goal

pub returns-in_err-indent : goal.returns-in_err-indent
unfolding Reaches
returns-in_err-indent g c =
    let p = err_from_is_err_and c.from_residual.result c.from_residual.ensures.1 in
    rw (p.1, p.2) (first_halted _ _ _ _ _ (begun_on _ c.requires.start) c.in_err-indent.ensures)

pub set_in_line-requires : goal.set_in_line-requires
unfolding Reaches
set_in_line-requires g c = ap (λ (s : Sheet). s.refused) c.in_ok-indent.ensures ∙ (alike_same _ _ (indented_alike (sheet_of c.args.self.now).indentation (sheet_of c.args.self.now))).refused ∙ c.requires.fresh

pub record_pending-requires : goal.record_pending-requires
unfolding Reaches
record_pending-requires g c =
    ap (λ (s : Sheet). s.refused) (c.set_in_line.ensures ∙ ap (λ (s : Sheet). record s { at_line_start = false }) c.in_ok-indent.ensures)
    ∙ (alike_same _ _ (begun_sheet_alike (sheet_of c.args.self.now))).refused ∙ c.requires.fresh

pub returns : goal.returns
returns g c =
    let there : sheet_of c.set_in_line.new.self ≡ begun_sheet (sheet_of c.args.self.now) = c.set_in_line.ensures ∙ ap (λ (s : Sheet). record s { at_line_start = false }) (reached _ _ _ _ c.in_ok-indent.ensures) in
    reaches_then _ _ _ _ _ _ there (begun_sheet_alike _) (begun_sheet_stays _) (λ e. reaches_to _ _ _ _ _ (ap (λ (s : Sheet). pending_recorded s.pending s) e ∙ ap (λ p. pending_recorded p (begun_sheet (sheet_of c.args.self.now))) (begun_sheet_pending (sheet_of c.args.self.now)) ∙ sym (started_true (sheet_of c.args.self.now) c.requires.start)) c.record_pending.ensures)
