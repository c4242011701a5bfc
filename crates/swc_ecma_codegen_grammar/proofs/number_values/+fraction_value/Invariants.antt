use Rattle.std.proofs.Common.{length}
use Rattle.swc_ecma_codegen_grammar.proofs.number_values.+fraction_value.Given as goal

abbrev pub decreases-fraction_value : goal.decreases-fraction_value
decreases-fraction_value l = length l.text.now
