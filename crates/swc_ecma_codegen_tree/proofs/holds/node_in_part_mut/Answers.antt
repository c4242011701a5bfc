use Rattle.std.proofs.Common.{◌≡◌, refl, sym, ◌∙◌, ap, Some}
use Rattle.std.specs.Option.{option_and_then, option_copied_mut}
use Rattle.swc_ecma_codegen_tree.proofs.Lending.{in_part, as_it_was}
use Rattle.swc_ecma_codegen_tree.proofs.holds.node_in_part_mut.Goals as goal

pub returns-in-Some : goal.returns-in-Some
returns-in-Some g c =
    let part_in = g.N.Holds.node_in in
    let node_in = g.P.Holds.node_in in
    let lent = c.node_mut.result in
    let held : part_in c.args.holder.now ≡ Some c.in-Some.part.now = sym c.node_mut.ensures.node ∙ ap option_copied_mut c.in-Some.is in (
      (
        refl,
        in_part part_in node_in c.args.holder.now lent c.in-Some.part c.in-Some.is held c.node_mut.follows.lender c.node_mut.follows.holds c.node_mut-in-Some.result c.node_mut-in-Some.follows.lender c.node_mut-in-Some.follows.holds,
        as_it_was part_in node_in c.args.holder.now lent c.in-Some.part c.in-Some.is held c.node_mut.follows.lender c.node_mut.follows.holds _ c.node_mut-in-Some.follows.holds-at-none,
      ),
      record { lends = tt; node = c.node_mut-in-Some.ensures.node ∙ ap (option_and_then node_in) (sym held) },
    )
