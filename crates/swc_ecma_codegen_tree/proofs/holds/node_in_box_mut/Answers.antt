use Rattle.std.proofs.Common.{◌≡◌, refl, sym, ◌∙◌, ap, Some}
use Rattle.std.specs.Option.{option_map, option_copied_mut}
use Rattle.swc_ecma_codegen_tree.proofs.Lending.{in_box}
use Rattle.swc_ecma_codegen_tree.proofs.holds.node_in_box_mut.Goals as goal

pub returns-in-Some : goal.returns-in-Some
returns-in-Some g c =
    let box = c.in-Some.node in
    let node_in = g.P.Holds.node_in in
    let box_in = g.P.HoldsBox.box_in in
    let boxed = g.met.P.HoldsBox.node_is_boxed in
    let held : box_in c.args.holder.now ≡ Some box.now = sym c.box_mut.ensures.node ∙ ap option_copied_mut c.in-Some.is in (
      (
        refl,
        in_box node_in box_in boxed c.args.holder.now c.box_mut.result box c.in-Some.is held c.box_mut.follows.lender c.box_mut.follows.holds,
        refl,
      ),
      record { lends = tt; node = ap Some c.as_mut.ensures.value ∙ sym (boxed c.args.holder.now ∙ ap (option_map (λ b. b.value)) held) },
    )
