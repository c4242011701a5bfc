use Rattle.std.proofs.Common.{rules, sym}
use Rattle.swc_ecma_codegen_parentheses.specs.Lists.{nothing}
use Rattle.swc_ecma_codegen_parentheses.proofs.InPlace.{one_more}
use Rattle.swc_ecma_codegen_parentheses.proofs.mends.VecMend.mend.Goals as goal

pub loop-node-init : goal.loop-node-init
loop-node-init g c = record { done = nothing; rest = sym c.deref_mut-node-items.ensures.value }

pub loop-node-preserved : goal.loop-node-preserved
loop-node-preserved g c =
    let R = g.T.Mend.same (g.M.Mends.mended c.args.mender.now) in
    let both = one_more R c.args.self.now.items c.loop-node.node-items c.loop-node.node-index c.node-item.result c.mend.new.self (search rules) c.loop-node.invariant.rest c.loop-node.invariant.done c.in_ok-mend.ensures in
    record { done = both.0; rest = both.1 }
