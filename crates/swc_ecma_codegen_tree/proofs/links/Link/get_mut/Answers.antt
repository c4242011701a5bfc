use Rattle.std.proofs.Common.{refl, ◌∙◌, ap, Option}
use Rattle.swc_ecma_codegen_tree.specs.declared.links.Link.{Link}
use Rattle.std.specs.Box.{with_value}
use Rattle.swc_ecma_codegen_tree.proofs.Lending.{in_field}
use Rattle.swc_ecma_codegen_tree.proofs.links.Link.get_mut.Goals as goal

pub returns : goal.returns
returns g c =
    let link = c.args.self.now in
    let node_in : g.row.N.Denot → Option g.row.K-Node.Denot = λ n. g.K.LinkSort.linked (g.N.Holds.node_in n) in
    let with_node : g.row.N.Denot → Link g.row.K.Denot g.row.N.Denot = λ n. record link { node = with_value link.node n } in
    let same = c.deref_mut-node.ensures.value in (
      (
        refl,
        in_field with_node node_in c.node_mut.result _ _ c.node_mut.follows.lender same c.node_mut.follows.holds,
        ap with_node (c.node_mut.follows.holds-at-none ∙ same),
      ),
      record { lends = tt; node = c.node_mut.ensures.node ∙ ap node_in same },
    )
