use Rattle.std.proofs.Common.{rules, ◌≡◌, refl, sym, ap, ◌∙◌, length}
use Rattle.std.specs.Vec.{with_items}
use Rattle.swc_ecma_codegen_visit.specs.Pairs.{nothing}
use Rattle.swc_ecma_codegen_visit.proofs.InPlace.{one_more, all_mapped}
use Rattle.swc_ecma_codegen_visit.proofs.Rules.{vec_kept}
use Rattle.swc_ecma_codegen_parentheses.proofs.bare.open_each.Goals as goal

pub loop-node-init : goal.loop-node-init
loop-node-init g c = record { done = nothing; rest = sym c.deref_mut-node-items.ensures.value }

pub loop-node-preserved : goal.loop-node-preserved
loop-node-preserved g c =
    let R : g.row.T.Denot → g.row.T.Denot → Type 0 = λ a b. g.T.InList.opened a ≡ b in
    let both = one_more R c.args.list.now.items c.loop-node.node-items c.loop-node.node-index c.node-item.result c.open_links.new.self (search rules) c.loop-node.invariant.rest c.loop-node.invariant.done (sym c.in_ok-open_links.ensures) in
    record { done = both.0; rest = both.1 }

pub returns : goal.returns
returns g c =
    let same = c.loop-node.auto.node-items ∙ ap length c.deref_mut-node-items.ensures.value in
    let whole = all_mapped g.T.InList.opened (λ x. x) c.args.list.now c.loop-node.node-items c.loop-node.node-index same (search rules) c.loop-node.invariant.rest c.loop-node.invariant.done in
    sym (whole ∙ vec_kept (λ x. refl) (with_items c.args.list.now c.loop-node.node-items))
