use Rattle.std.proofs.Common.{refl}
use Rattle.swc_ecma_codegen_text_writer.specs.Sheet.{Writes, Deeper, effect, settled_by}
use Rattle.swc_ecma_codegen_text_writer.specs.View.{sheet_of}
use Rattle.swc_ecma_codegen_text_writer.proofs.Steps.{writes_failed, deeper_refused}
use Rattle.swc_ecma_codegen_text_writer.proofs.basic_impl.Lines.deepen.Goals as goal

pub returns-then-self : goal.returns-then-self
unfolding sheet_of
returns-then-self g c = writes_failed Deeper _ c.if-self.true

pub returns-then-indent : goal.returns-then-indent
unfolding sheet_of
returns-then-indent g c = deeper_refused _ _ refl c.if-self.false c.if-indent.true refl

pub returns : goal.returns
unfolding sheet_of Writes effect settled_by
returns g c = (c.if-self.false, refl)
