use Rattle.std.proofs.Common.{length}
use Rattle.swc_ecma_codegen_grammar.proofs.numerals.+hex_digits.Given as goal

abbrev pub decreases-hex_digits : goal.decreases-hex_digits
decreases-hex_digits l = length l.text.now
