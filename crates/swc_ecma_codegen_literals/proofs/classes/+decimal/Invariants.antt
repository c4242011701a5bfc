use Rattle.std.proofs.Common.{length}
use Rattle.swc_ecma_codegen_literals.proofs.classes.+decimal.Given as goal

abbrev pub decreases-decimal : goal.decreases-decimal
decreases-decimal l = length l.text.now
