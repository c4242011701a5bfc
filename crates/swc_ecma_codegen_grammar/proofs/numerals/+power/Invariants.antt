use Rattle.std.proofs.Common.{length}
use Rattle.swc_ecma_codegen_grammar.proofs.numerals.+power.Given as goal

abbrev pub decreases-power : goal.decreases-power
decreases-power l = length l.text.now
