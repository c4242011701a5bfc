use Rattle.std.proofs.Common.{length}
use Rattle.swc_ecma_codegen_grammar.proofs.numerals.+integer.Given as goal

abbrev pub decreases-integer : goal.decreases-integer
decreases-integer l = length l.text.now
