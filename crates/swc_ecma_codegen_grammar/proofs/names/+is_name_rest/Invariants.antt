use Rattle.std.proofs.Common.{length}
use Rattle.swc_ecma_codegen_grammar.proofs.names.+is_name_rest.Given as goal

abbrev pub decreases-is_name_rest : goal.decreases-is_name_rest
decreases-is_name_rest l = length l.text.now
