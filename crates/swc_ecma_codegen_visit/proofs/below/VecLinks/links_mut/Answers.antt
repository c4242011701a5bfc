use Rattle.std.proofs.Common.{rules, ◌≡◌, sym, ap, ◌∙◌, length}
use Rattle.swc_ecma_codegen_visit.specs.Pairs.{nothing}
use Rattle.swc_ecma_codegen_visit.proofs.InPlace.{one_more, all_mapped}
use Rattle.swc_ecma_codegen_visit.proofs.below.VecLinks.links_mut.Goals as goal

pub loop-node-init : goal.loop-node-init
loop-node-init g c = record { done = nothing; rest = sym c.deref_mut-node-items.ensures.value }

pub loop-node-preserved : goal.loop-node-preserved
loop-node-preserved g c =
    let R : g.row.T.Denot → g.row.T.Denot → Type 0 = λ a b. g.T.Links.mapped g.B.Below.ident_before g.B.Below.before a ≡ g.T.Links.mapped g.B.Below.ident_after g.B.Below.after b in
    let both = one_more R c.args.self.now.items c.loop-node.node-items c.loop-node.node-index c.node-item.result c.links_mut.new.self (search rules) c.loop-node.invariant.rest c.loop-node.invariant.done c.in_ok-links_mut.ensures in
    record { done = both.0; rest = both.1 }

pub returns : goal.returns
returns g c =
    let same = c.loop-node.auto.node-items ∙ ap length c.deref_mut-node-items.ensures.value in
    all_mapped (g.T.Links.mapped g.B.Below.ident_before g.B.Below.before) (g.T.Links.mapped g.B.Below.ident_after g.B.Below.after) c.args.self.now c.loop-node.node-items c.loop-node.node-index same (search rules) c.loop-node.invariant.rest c.loop-node.invariant.done
