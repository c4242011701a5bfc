use Rattle.std.proofs.Common.{length}
use Rattle.swc_ecma_codegen_grammar.proofs.template_values.+push_cooked_rest.Given as goal

abbrev pub decreases-push_cooked_rest : goal.decreases-push_cooked_rest
decreases-push_cooked_rest l = length l.text.now
