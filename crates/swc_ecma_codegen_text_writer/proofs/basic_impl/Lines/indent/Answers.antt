use Rattle.std.proofs.Common.{◌∙◌, ap, sym}
use Rattle.swc_ecma_codegen_text_writer.specs.Sheet.{indented}
use Rattle.swc_ecma_codegen_text_writer.specs.View.{sheet_of, Reaches}
use Rattle.swc_ecma_codegen_text_writer.proofs.Steps.{indented_zero}
use Rattle.swc_ecma_codegen_text_writer.proofs.basic_impl.Lines.indent.Goals as goal

-- no level is sent as nothing
pub returns-then-self-eq0 : goal.returns-then-self-eq0
unfolding sheet_of Reaches
returns-then-self-eq0 g c =
    let s = sheet_of c.args.self.now in
    indented_zero s ∙ ap (λ n. indented n s) (sym c.if-self-eq0.true)
