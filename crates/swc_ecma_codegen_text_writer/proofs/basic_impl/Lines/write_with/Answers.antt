use Rattle.std.proofs.Common.{◌∙◌}
use Rattle.swc_ecma_codegen_text_writer.specs.View.{sheet_of}
use Rattle.swc_ecma_codegen_text_writer.proofs.Steps.{written_nowhere}
use Rattle.swc_ecma_codegen_text_writer.proofs.basic_impl.Lines.write_with.Goals as goal

pub returns-then-is_nowhere : goal.returns-then-is_nowhere
returns-then-is_nowhere g c x e =
    let p = c.is_nowhere.ensures c.if-is_nowhere.true in
    c.write_bytes.ensures x (λ h. e h ∙ written_nowhere c.args.span c.args.text.now (sheet_of c.args.self.now) p.0 p.1)
