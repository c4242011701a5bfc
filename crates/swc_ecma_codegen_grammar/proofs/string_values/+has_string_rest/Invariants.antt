use Rattle.std.proofs.Common.{length}
use Rattle.swc_ecma_codegen_grammar.proofs.string_values.+has_string_rest.Given as goal

abbrev pub decreases-has_string_rest : goal.decreases-has_string_rest
decreases-has_string_rest l = length l.text.now
