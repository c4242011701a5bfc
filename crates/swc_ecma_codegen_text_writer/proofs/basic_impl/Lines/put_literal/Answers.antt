use Rattle.std.proofs.Common.{sym, ◌∙◌, ap, subst, None, Err}
use Rattle.std.proofs.lemmas.Result.{err_from_is_err_and}
use Rattle.swc_ecma_codegen_text_writer.specs.Sheet.{Sheet, recorded, written, literal_written}
use Rattle.swc_ecma_codegen_text_writer.specs.View.{sheet_of, Reaches}
use Rattle.swc_ecma_codegen_text_writer.proofs.Sheets.{Alike, alike_trans, alike_same, recorded_alike, written_alike}
use Rattle.swc_ecma_codegen_text_writer.proofs.Stays.{recorded_stays, stays_trans, written_stays}
use Rattle.swc_ecma_codegen_text_writer.proofs.Steps.{first_halted, reached, reaches_to, reaches_then, literal_some}
use Rattle.swc_ecma_codegen_text_writer.proofs.basic_impl.Lines.put_literal.Goals as goal

pub returns-in_err-record : goal.returns-in_err-record
unfolding Reaches
returns-in_err-record g c =
    let p = err_from_is_err_and c.from_residual.result c.from_residual.ensures.1 in
    rw (p.1, p.2) (first_halted _ _ _ _ _ (subst (λ (z : Sheet). Alike (recorded c.args.span.lo (sheet_of c.args.self.now)) z) (literal_some c.args.span c.args.text.now _ c.requires.some) (alike_trans _ _ _ (written_alike None c.args.text.now _) (recorded_alike c.args.span.hi _))) c.in_err-record.ensures)

pub put-requires-clause-fresh : goal.put-requires-clause-fresh
unfolding Reaches
put-requires-clause-fresh g c = ap (λ (s : Sheet). s.refused) c.in_ok-record.ensures ∙ (alike_same _ _ (recorded_alike c.args.span.lo (sheet_of c.args.self.now))).refused ∙ c.requires.fresh

pub returns-in_err-put : goal.returns-in_err-put
unfolding Reaches
returns-in_err-put g c =
    let p = err_from_is_err_and c.from_residual-in_err-put.result c.from_residual-in_err-put.ensures.1 in
    rw (p.1, p.2)
    (reaches_then _ _ _ _ _ (Err _) c.in_ok-record.ensures (recorded_alike c.args.span.lo _) (recorded_stays c.args.span.lo _)
    (λ e. first_halted _ _ _ _ _ (subst (λ (z : Sheet). Alike (written None c.args.text.now z) (literal_written c.args.span c.args.text.now (sheet_of c.args.self.now))) (sym e) (subst (λ (z : Sheet). Alike (written None c.args.text.now (recorded c.args.span.lo (sheet_of c.args.self.now))) z) (literal_some c.args.span c.args.text.now _ c.requires.some) (recorded_alike c.args.span.hi _))) c.in_err-put.ensures))

pub record-requires-2 : goal.record-requires-2
unfolding Reaches
record-requires-2 g c =
    ap (λ (s : Sheet). s.refused) (c.in_ok-put.ensures ∙ ap (written None c.args.text.now) c.in_ok-record.ensures)
    ∙ (alike_same _ _ (alike_trans _ _ _ (recorded_alike c.args.span.lo (sheet_of c.args.self.now)) (written_alike None c.args.text.now _))).refused ∙ c.requires.fresh

pub returns : goal.returns
returns g c =
    reaches_then _ _ _ _ _ _ (reached _ _ _ _ c.in_ok-put.ensures ∙ ap (written None c.args.text.now) (reached _ _ _ _ c.in_ok-record.ensures)) (alike_trans _ _ _ (recorded_alike c.args.span.lo _) (written_alike None c.args.text.now _)) (stays_trans _ _ _ (recorded_stays c.args.span.lo _) (written_stays None c.args.text.now _))
    (λ e. reaches_to _ _ _ _ _ (ap (recorded c.args.span.hi) e ∙ literal_some c.args.span c.args.text.now _ c.requires.some) c.record-2.ensures)
