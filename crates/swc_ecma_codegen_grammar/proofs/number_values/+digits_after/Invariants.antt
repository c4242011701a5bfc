use Rattle.std.proofs.Common.{length}
use Rattle.swc_ecma_codegen_grammar.proofs.number_values.+digits_after.Given as goal

abbrev pub decreases-digits_after : goal.decreases-digits_after
decreases-digits_after l = length l.text.now
