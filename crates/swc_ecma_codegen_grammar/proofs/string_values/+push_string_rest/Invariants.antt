use Rattle.std.proofs.Common.{length}
use Rattle.swc_ecma_codegen_grammar.proofs.string_values.+push_string_rest.Given as goal

abbrev pub decreases-push_string_rest : goal.decreases-push_string_rest
decreases-push_string_rest l = length l.text.now
