use Rattle.std.proofs.Common.{ℕ, List, drop}
use Rattle.swc_ecma_codegen_validate.specs.ExprRules.{element}
use Rattle.swc_ecma_codegen_validate.specs.Rules.{Place, in_each}
use Rattle.swc_ecma_codegen_validate.proofs.faults.exprs.quasis_fault.Given as goal

-- what is found in those that weren't looked at yet is what is found in all
abbrev pub invariant-loop-index : goal.invariant-loop-index
invariant-loop-index l =
    ((path : List Place) (words : List ℕ) → (in_each (element l.tagged) l.index (drop l.index l.quasis)).first path words → (in_each (element l.tagged) 0 l.quasis).first path words)
    × ((in_each (element l.tagged) l.index (drop l.index l.quasis)).none → (in_each (element l.tagged) 0 l.quasis).none)
