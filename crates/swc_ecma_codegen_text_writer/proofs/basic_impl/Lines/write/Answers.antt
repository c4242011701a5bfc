use Rattle.std.proofs.Common.{◌∙◌, ap, Option}
use Rattle.swc_ecma_codegen_common.specs.declared.positions.Span.{Span}
use Rattle.swc_ecma_codegen_text_writer.specs.Sheet.{written}
use Rattle.swc_ecma_codegen_text_writer.specs.View.{sheet_of}
use Rattle.swc_ecma_codegen_text_writer.proofs.basic_impl.Lines.write.Goals as goal

pub returns-in-None : goal.returns-in-None
returns-in-None g c x e =
    c.write_plain.ensures x (λ h. e h ∙ ap (λ (z : Option Span). written z c.args.text.now (sheet_of c.args.self.now)) c.in-None.is)

pub returns-in-Some : goal.returns-in-Some
returns-in-Some g c x e =
    c.write_with.ensures x (λ h. e h ∙ ap (λ (z : Option Span). written z c.args.text.now (sheet_of c.args.self.now)) c.in-Some.is)
