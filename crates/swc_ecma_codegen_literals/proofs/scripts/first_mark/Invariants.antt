use Rattle.std.proofs.Common.{◌≡◌, ◌++◌, ◌≤◌, take, drop}
use Rattle.swc_ecma_codegen_literals.specs.InlineScripts.{marked}
use Rattle.swc_ecma_codegen_literals.proofs.scripts.first_mark.Given as goal

abbrev pub invariant-loop-at : goal.invariant-loop-at
invariant-loop-at l = (l.dashes ≤ l.at) × (marked 0 l.literal ≡ take l.at l.literal ++ marked l.dashes (drop l.at l.literal))
