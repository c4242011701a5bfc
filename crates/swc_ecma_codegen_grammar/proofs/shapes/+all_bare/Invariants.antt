use Rattle.std.proofs.Common.{length}
use Rattle.swc_ecma_codegen_grammar.proofs.shapes.+all_bare.Given as goal

abbrev pub decreases-all_bare : goal.decreases-all_bare
decreases-all_bare l = length l.text.now
