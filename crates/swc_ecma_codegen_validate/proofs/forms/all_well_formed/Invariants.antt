use Rattle.std.proofs.Common.{◌≡◌, drop}
use Rattle.swc_ecma_codegen_validate.specs.Possible.{all_possible}
use Rattle.swc_ecma_codegen_validate.proofs.forms.all_well_formed.Given as goal

abbrev pub invariant-loop-node : goal.invariant-loop-node
invariant-loop-node g l = all_possible g.T.WellFormed.phrase l.nodes ≡ all_possible g.T.WellFormed.phrase (drop l.node-index l.nodes)
