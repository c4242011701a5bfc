use Rattle.std.proofs.Common.{sym}
use Rattle.swc_ecma_codegen_text_writer.specs.View.{sheet_of, Reaches}
use Rattle.swc_ecma_codegen_text_writer.proofs.Steps.{started_false}
use Rattle.swc_ecma_codegen_text_writer.proofs.basic_impl.Lines.start_line.Goals as goal

pub returns-then-not-self : goal.returns-then-not-self
unfolding sheet_of Reaches
returns-then-not-self g c = sym (started_false _ c.if-not-self.true)

pub begin_line-requires-clause-start : goal.begin_line-requires-clause-start
unfolding sheet_of
begin_line-requires-clause-start g c = c.if-not-self.false
