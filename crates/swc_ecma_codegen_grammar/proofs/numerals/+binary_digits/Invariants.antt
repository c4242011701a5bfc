use Rattle.std.proofs.Common.{length}
use Rattle.swc_ecma_codegen_grammar.proofs.numerals.+binary_digits.Given as goal

abbrev pub decreases-binary_digits : goal.decreases-binary_digits
decreases-binary_digits l = length l.text.now
