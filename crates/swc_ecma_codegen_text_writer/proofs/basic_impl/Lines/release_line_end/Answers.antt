use Rattle.std.proofs.Common.{ap, sym}
use Rattle.swc_ecma_codegen_text_writer.specs.Sheet.{Sheet, line_ended}
use Rattle.swc_ecma_codegen_text_writer.specs.View.{sheet_of}
use Rattle.swc_ecma_codegen_text_writer.proofs.Steps.{reaches_to}
use Rattle.swc_ecma_codegen_text_writer.proofs.basic_impl.Lines.release_line_end.Goals as goal

pub returns : goal.returns
unfolding sheet_of line_ended
returns g c =
    let s : Sheet = sheet_of c.args.self.now in
    reaches_to _ _ _ _ _ (sym (ap (λ b. line_ended b s) c.if-not-due.false)) c.release.ensures
