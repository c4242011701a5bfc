use Rattle.std.proofs.Common.{length}
use Rattle.swc_ecma_codegen_grammar.proofs.numerals.+fraction.Given as goal

abbrev pub decreases-fraction : goal.decreases-fraction
decreases-fraction l = length l.text.now
