use Rattle.std.proofs.Common.{refl, true, Err, sym, ◌∙◌, ap}
use Rattle.std.proofs.lemmas.Result.{err_from_is_err_and}
use Rattle.swc_ecma_codegen_text_writer.specs.Sheet.{Sheet}
use Rattle.swc_ecma_codegen_text_writer.specs.View.{sheet_of, Reaches}
use Rattle.swc_ecma_codegen_text_writer.proofs.Steps.{writes_failed, writes_ok, writes_way, ended_true, ended_false, line_halted}
use Rattle.swc_ecma_codegen_text_writer.proofs.basic_impl.Lines.end_any_line.Goals as goal

pub returns-then-self : goal.returns-then-self
unfolding sheet_of
returns-then-self g c x e = writes_failed x _ c.if-self.true

pub returns-then-self-2 : goal.returns-then-self-2
unfolding sheet_of
returns-then-self-2 g c x e = writes_ok x _ _ c.if-self.false (c.drop_pending.ensures ∙ ended_true _ c.if-self-2.true ∙ sym (e refl))

pub send_line_end-requires : goal.send_line_end-requires
unfolding sheet_of
send_line_end-requires g c = c.if-self.false

pub returns-in_err-send_line_end : goal.returns-in_err-send_line_end
unfolding sheet_of Reaches
returns-in_err-send_line_end g c x e =
    let p = err_from_is_err_and c.from_residual.result c.from_residual.ensures.1 in
    rw (p.1, p.2) (writes_way x _ _ _ (Err _) (sym (e refl)) refl refl c.if-self.false (line_halted _ _ _ c.if-self-2.false c.in_err-send_line_end.ensures))

pub returns : goal.returns
unfolding sheet_of Reaches
returns g c x e =
    writes_ok x _ _ c.if-self.false (c.set_line_start.ensures ∙ ap (λ (s : Sheet). record s { at_line_start = true }) c.in_ok-send_line_end.ensures ∙ ended_false _ c.if-self-2.false ∙ sym (e refl))
