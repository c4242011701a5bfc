use Rattle.std.proofs.Common.{length}
use Rattle.swc_ecma_codegen_grammar.proofs.gaps.+after_block.Given as goal

abbrev pub decreases-after_block : goal.decreases-after_block
decreases-after_block l = length l.text.now
