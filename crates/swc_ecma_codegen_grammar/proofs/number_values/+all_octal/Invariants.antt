use Rattle.std.proofs.Common.{length}
use Rattle.swc_ecma_codegen_grammar.proofs.number_values.+all_octal.Given as goal

abbrev pub decreases-all_octal : goal.decreases-all_octal
decreases-all_octal l = length l.text.now
