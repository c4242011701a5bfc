use Rattle.std.proofs.Common.{length}
use Rattle.swc_ecma_codegen_grammar.proofs.number_values.+decimal_value.Given as goal

abbrev pub decreases-decimal_value : goal.decreases-decimal_value
decreases-decimal_value l = length l.text.now
