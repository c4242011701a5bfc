use Rattle.std.proofs.Common.{refl, sym}
use Rattle.swc_ecma_codegen_text_writer.specs.View.{sheet_of}
use Rattle.swc_ecma_codegen_text_writer.proofs.Steps.{writes_failed, writes_ok}
use Rattle.swc_ecma_codegen_text_writer.proofs.basic_impl.Lines.nothing.Goals as goal

pub returns-then-self : goal.returns-then-self
unfolding sheet_of
returns-then-self g c x e = writes_failed x _ c.if-self.true

pub returns : goal.returns
unfolding sheet_of
returns g c x e = writes_ok x _ _ c.if-self.false (sym (e refl))
