use Rattle.std.proofs.Common.{sym, ◌∙◌, ap, subst, Err}
use Rattle.std.proofs.lemmas.Result.{err_from_is_err_and}
use Rattle.swc_ecma_codegen_text_writer.specs.Sheet.{Sheet, appended, start_recorded, end_recorded}
use Rattle.swc_ecma_codegen_text_writer.specs.View.{sheet_of, Reaches}
use Rattle.swc_ecma_codegen_text_writer.proofs.Sheets.{Alike, alike_trans, alike_same, start_alike, appended_alike, end_alike}
use Rattle.swc_ecma_codegen_text_writer.proofs.Stays.{start_stays, stays_trans, appended_stays}
use Rattle.swc_ecma_codegen_text_writer.proofs.Steps.{first_halted, reached, reaches_to, reaches_then}
use Rattle.swc_ecma_codegen_text_writer.proofs.basic_impl.Lines.put_in_line.Goals as goal

pub returns-in_err-record_start : goal.returns-in_err-record_start
unfolding Reaches
returns-in_err-record_start g c =
    let p = err_from_is_err_and c.from_residual.result c.from_residual.ensures.1 in
    rw (p.1, p.2) (first_halted _ _ _ _ _ (alike_trans _ _ _ (appended_alike c.args.text.now _) (end_alike c.args.span _)) c.in_err-record_start.ensures)

pub hand_on-requires : goal.hand_on-requires
unfolding Reaches
hand_on-requires g c = ap (λ (s : Sheet). s.refused) c.in_ok-record_start.ensures ∙ (alike_same _ _ (start_alike c.args.span (sheet_of c.args.self.now))).refused ∙ c.requires

pub returns-in_err-hand_on : goal.returns-in_err-hand_on
unfolding Reaches
returns-in_err-hand_on g c =
    let p = err_from_is_err_and c.from_residual-in_err-hand_on.result c.from_residual-in_err-hand_on.ensures.1 in
    rw (p.1, p.2)
    (reaches_then _ _ _ _ _ (Err _) c.in_ok-record_start.ensures (start_alike c.args.span _) (start_stays c.args.span _)
    (λ e. first_halted _ _ _ _ _ (subst (λ (z : Sheet). Alike (appended c.args.text.now z) (end_recorded c.args.span (appended c.args.text.now (start_recorded c.args.span (sheet_of c.args.self.now))))) (sym e) (end_alike c.args.span _)) c.in_err-hand_on.ensures))

pub record_end-requires : goal.record_end-requires
unfolding Reaches
record_end-requires g c =
    ap (λ (s : Sheet). s.refused) (c.in_ok-hand_on.ensures ∙ ap (appended c.args.text.now) c.in_ok-record_start.ensures)
    ∙ (alike_same _ _ (alike_trans _ _ _ (start_alike c.args.span (sheet_of c.args.self.now)) (appended_alike c.args.text.now _))).refused ∙ c.requires

pub returns : goal.returns
returns g c =
    reaches_then _ _ _ _ _ _ (reached _ _ _ _ c.in_ok-hand_on.ensures ∙ ap (appended c.args.text.now) (reached _ _ _ _ c.in_ok-record_start.ensures)) (alike_trans _ _ _ (start_alike c.args.span _) (appended_alike c.args.text.now _)) (stays_trans _ _ _ (start_stays c.args.span _) (appended_stays c.args.text.now _))
    (λ e. reaches_to _ _ _ _ _ (ap (end_recorded c.args.span) e) c.record_end.ensures)
