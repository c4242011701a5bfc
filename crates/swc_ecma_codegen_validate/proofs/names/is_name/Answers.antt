use Rattle.std.proofs.Common.{sym, ◌∙◌, ap}
use Rattle.swc_ecma_codegen_validate.specs.NameStates.{goes_on}
use Rattle.swc_ecma_codegen_validate.proofs.Turned.{name_by_characters}
use Rattle.swc_ecma_codegen_validate.proofs.names.is_name.Goals as goal

pub returns-in-None : goal.returns-in-None
returns-in-None c = sym (name_by_characters c.args.name.now c.utf8.name ∙ c.loop-c.invariant.goes ∙ ap (goes_on c.loop-c.state) c.in-Some.ensures.some ∙ c.in-None.ensures.none _)

pub returns : goal.returns
returns c = c.may_end.ensures ∙ sym (name_by_characters c.args.name.now c.utf8.name ∙ c.loop-c.invariant.goes ∙ ap (goes_on c.loop-c.state) c.in_default.ensures.none)
