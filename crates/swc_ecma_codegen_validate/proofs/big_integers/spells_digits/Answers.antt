use Rattle.std.proofs.Common.{sym, ◌∙◌}
use Rattle.swc_ecma_codegen_validate.proofs.BigSpellings.{spells_zero, follows_digits, spells_with_prefix}
use Rattle.swc_ecma_codegen_validate.proofs.big_integers.spells_digits.Goals as goal

pub returns-in-Some : goal.returns-in-Some
returns-in-Some c = c.is_zero.ensures ∙ sym (spells_zero _ _ _ c.in-Decimal.is c.requires c.in-Some.ensures.some.0)

pub returns-in-None : goal.returns-in-None
returns-in-None c = c.digits_follow.ensures ∙ sym (follows_digits _ _ _ c.in-Decimal.is c.requires c.in-None.ensures.none)

pub returns-in_default : goal.returns-in_default
returns-in_default c = c.digits_follow_prefix.ensures ∙ sym (spells_with_prefix _ _ _ c.in_default.not-Decimal)
