use Rattle.std.proofs.Common.{◌≡◌, refl, true, Err, sym, ◌∙◌, ap, rules}
use Rattle.std.proofs.lemmas.Result.{err_from_is_err_and}
use Rattle.swc_ecma_codegen_text_writer.specs.Sheet.{Sheet}
use Rattle.swc_ecma_codegen_text_writer.specs.View.{sheet_of, Reaches}
use Rattle.swc_ecma_codegen_text_writer.proofs.Steps.{writes_ok, writes_way, ended_false, line_halted}
use Rattle.swc_ecma_codegen_text_writer.proofs.basic_impl.Lines.end_line.Goals as goal

pub returns-in_err-send_plainly : goal.returns-in_err-send_plainly
unfolding sheet_of Reaches
returns-in_err-send_plainly g c x e =
    let plain : c.args.self.now.plain ≡ true = search rules in
    let p = err_from_is_err_and c.from_residual.result c.from_residual.ensures.1 in
    rw (p.1, p.2) (writes_way x _ _ _ (Err _) (sym (e refl)) refl refl (c.args.self.now.plain_fresh plain) (line_halted _ _ _ (c.args.self.now.plain_in_line plain) c.in_err-send_plainly.ensures))

pub returns : goal.returns
unfolding sheet_of Reaches
returns g c x e =
    let plain : c.args.self.now.plain ≡ true = search rules in
    writes_ok x _ _ (c.args.self.now.plain_fresh plain) (c.set_line_start.ensures ∙ ap (λ (s : Sheet). record s { at_line_start = true }) c.in_ok-send_plainly.ensures ∙ ended_false _ (c.args.self.now.plain_in_line plain) ∙ sym (e refl))
