use Rattle.std.proofs.Common.{length}
use Rattle.swc_ecma_codegen_grammar.proofs.numerals.+octal_digits.Given as goal

abbrev pub decreases-octal_digits : goal.decreases-octal_digits
decreases-octal_digits l = length l.text.now
