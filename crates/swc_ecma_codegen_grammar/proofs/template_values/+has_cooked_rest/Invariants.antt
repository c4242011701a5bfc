use Rattle.std.proofs.Common.{length}
use Rattle.swc_ecma_codegen_grammar.proofs.template_values.+has_cooked_rest.Given as goal

abbrev pub decreases-has_cooked_rest : goal.decreases-has_cooked_rest
decreases-has_cooked_rest l = length l.text.now
