use Rattle.std.proofs.Common.{length}
use Rattle.swc_ecma_codegen_grammar.proofs.names.+all_part.Given as goal

abbrev pub decreases-all_part : goal.decreases-all_part
decreases-all_part l = length l.text.now
