use Rattle.std.proofs.Common.{length}
use Rattle.swc_ecma_codegen_emit.proofs.commented.+all_tame.Given as goal

abbrev pub decreases-all_tame : goal.decreases-all_tame
decreases-all_tame l = length l.nodes.now
