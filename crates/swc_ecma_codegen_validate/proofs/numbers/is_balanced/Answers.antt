use Rattle.std.proofs.Common.{◌∙◌}
use Rattle.swc_ecma_codegen_validate.proofs.MantissaLaws.{negative_power, positive_power}
use Rattle.swc_ecma_codegen_validate.proofs.numbers.is_balanced.Goals as goal

pub returns-in-Some : goal.returns-in-Some
returns-in-Some c = c.exceeds.ensures ∙ negative_power _ _ _ _ c.in-Some.ensures.some.0 c.in-Some.ensures.some.1

pub returns-in-None : goal.returns-in-None
returns-in-None c = c.exceeds-in-None.ensures ∙ positive_power _ _ _ c.in-None.ensures.none
