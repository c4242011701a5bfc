use Rattle.std.proofs.Common.{length}
use Rattle.swc_ecma_codegen_literals.proofs.classes.+digits.Given as goal

abbrev pub decreases-digits : goal.decreases-digits
decreases-digits l = length l.text.now
