use Rattle.std.proofs.Common.{refl, sym}
use Rattle.swc_ecma_codegen_text_writer.specs.View.{sheet_of}
use Rattle.swc_ecma_codegen_text_writer.proofs.Steps.{writes_way}
use Rattle.swc_ecma_codegen_text_writer.proofs.basic_impl.Lines.writes_first_bytes.Goals as goal

pub returns : goal.returns
returns g c x e = writes_way x _ _ _ _ (sym (e (unfold sheet_of in refl))) (unfold sheet_of in refl) (unfold sheet_of in refl) (unfold sheet_of in c.if-self.false) c.starts_line_by.ensures
