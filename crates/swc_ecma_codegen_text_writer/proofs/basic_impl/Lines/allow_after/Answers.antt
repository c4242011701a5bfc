use Rattle.std.proofs.Common.{false, ap, ◌∙◌}
use Rattle.std.proofs.lemmas.Result.{err_from_is_err_and}
use Rattle.swc_ecma_codegen_text_writer.specs.Held.{segment_in}
use Rattle.swc_ecma_codegen_text_writer.specs.Sheet.{Sheet, Segment, Filling, allowed_by, segment_released}
use Rattle.swc_ecma_codegen_text_writer.specs.View.{sheet_of, Reaches}
use Rattle.swc_ecma_codegen_text_writer.proofs.Sheets.{other_lines}
use Rattle.swc_ecma_codegen_text_writer.proofs.Steps.{first_halted}
use Rattle.swc_ecma_codegen_text_writer.proofs.basic_impl.Lines.allow_after.Goals as goal

pub returns-in_err-flush : goal.returns-in_err-flush
unfolding Reaches allowed_by
returns-in_err-flush g c =
    let p = err_from_is_err_and c.from_residual.result c.from_residual.ensures.1 in rw (p.1, p.2) (first_halted _ _ _ _ _ (other_lines _ _) c.in_err-flush.ensures)

pub returns : goal.returns
unfolding sheet_of Reaches allowed_by
returns g c =
    let h = c.args.held in
    let s : Sheet = sheet_of c.args.self.now in
    let a : Sheet = segment_released h.max h.first (segment_in h.segment) s in
    ap (λ (z : Sheet). record z { lines = Filling h.max false (segment_in c.clear.new.self) }) c.in_ok-flush.ensures
    ∙ ap (λ (x : Segment). record a { lines = Filling h.max false x }) c.clear.ensures.segment
