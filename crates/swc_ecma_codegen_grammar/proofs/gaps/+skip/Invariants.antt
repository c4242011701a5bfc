use Rattle.std.proofs.Common.{length}
use Rattle.swc_ecma_codegen_grammar.proofs.gaps.+skip.Given as goal

abbrev pub decreases-skip : goal.decreases-skip
decreases-skip l = length l.text.now
