use Rattle.std.proofs.Common.{length}
use Rattle.swc_ecma_codegen_grammar.proofs.names.+push_rest.Given as goal

abbrev pub decreases-push_rest : goal.decreases-push_rest
decreases-push_rest l = length l.text.now
