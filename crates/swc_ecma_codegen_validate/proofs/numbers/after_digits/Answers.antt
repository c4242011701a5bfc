use Rattle.std.proofs.Common.{◌∙◌}
use Rattle.swc_ecma_codegen_validate.proofs.DigitCounts.{zeros_all}
use Rattle.swc_ecma_codegen_validate.proofs.numbers.after_digits.Goals as goal

pub returns-then-is_empty-clause-some : goal.returns-then-is_empty-clause-some
returns-then-is_empty-clause-some c = c.loop-c.invariant.goes ∙ zeros_all _ _ c.if-is_empty.ensures

pub returns-then-is_empty-2-clause-some : goal.returns-then-is_empty-2-clause-some
returns-then-is_empty-2-clause-some c = c.loop-c.invariant.goes ∙ zeros_all _ _ c.if-is_empty-2.ensures
