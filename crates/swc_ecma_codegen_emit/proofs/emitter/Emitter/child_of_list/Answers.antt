use Rattle.std.proofs.Common.{ap, ◌∙◌}
use Rattle.swc_ecma_codegen_emit.specs.Lists.{as_asked}
use Rattle.swc_ecma_codegen_emit.proofs.ListPlaces.{asked_again}
use Rattle.swc_ecma_codegen_emit.proofs.emitter.Emitter.child_of_list.Goals as goal

pub first_child-requires : goal.first_child-requires
first_child-requires g c = ap (as_asked c.args.format.0) c.asked_place-place.ensures ∙ asked_again c.args.format.0 (g.T.Child.stands c.args.child.now)

pub returns-clause-place : goal.returns-clause-place
returns-clause-place g c = ap (as_asked c.args.format.0) c.asked_place-place.ensures ∙ asked_again c.args.format.0 (g.T.Child.stands c.args.child.now)
