use Rattle.std.proofs.Common.{ℕ, List, drop}
use Rattle.swc_ecma_codegen_validate.specs.Rules.{Place, in_each}
use Rattle.swc_ecma_codegen_validate.proofs.faults.VecFindsFault.fault.Given as goal

-- what is found in those that weren't looked at yet is what is found in all
abbrev pub invariant-loop-index : goal.invariant-loop-index
invariant-loop-index g l =
    ((path : List Place) (words : List ℕ) → (in_each g.T.FindsFault.found l.index (drop l.index l.node-items)).first path words → (in_each g.T.FindsFault.found 0 l.node-items).first path words)
    × ((in_each g.T.FindsFault.found l.index (drop l.index l.node-items)).none → (in_each g.T.FindsFault.found 0 l.node-items).none)
