use Rattle.std.proofs.Common.{sym, ◌∙◌}
use Rattle.swc_ecma_codegen_text_writer.proofs.Counting.{stands_in_line}
use Rattle.swc_ecma_codegen_text_writer.proofs.columns.Column.pass_known.Goals as goal

pub returns-then-stays_in_line : goal.returns-then-stays_in_line
returns-then-stays_in_line c = λ p s. stands_in_line _ _ c.args.text.now p (sym c.requires ∙ c.if-stays_in_line.true) c.sum-self.ensures.value s
