use Rattle.std.proofs.Common.{length}
use Rattle.swc_ecma_codegen_grammar.proofs.gaps.+after_line.Given as goal

abbrev pub decreases-after_line : goal.decreases-after_line
decreases-after_line l = length l.text.now
