use Rattle.std.proofs.Common.{sym}
use Rattle.swc_ecma_codegen_tree.specs.declared.links.Link.{Link}
use Rattle.swc_ecma_codegen_parentheses.specs.Lent.{lent}
use Rattle.swc_ecma_codegen_parentheses.specs.Lists.{where_found}
use Rattle.swc_ecma_codegen_parentheses.proofs.InPlace.{lent_changed}
use Rattle.swc_ecma_codegen_parentheses.proofs.linked.mend_linked.Goals as goal

pub returns-in_ok-mend-in-Some : goal.returns-in_ok-mend-in-Some
unfolding where_found
returns-in_ok-mend-in-Some g c =
    let node_in = λ (link : Link g.row.K.Denot g.row.N.Denot). g.K.LinkSort.linked (g.N.Holds.node_in link.node.value) in
    let both = lent_changed node_in c.args.link.now c.get_mut.result c.in-Some.node c.get_mut.follows.lender c.in-Some.is c.get_mut.ensures.node c.get_mut.follows.holds c.mend.new.self in
    lent both.0 both.1 c.in_ok-mend-in-Some.ensures

pub returns-in-None : goal.returns-in-None
unfolding where_found
returns-in-None g c = sym c.get_mut.follows.holds-at-none
