use Rattle.std.proofs.Common.{sym, ◌∙◌}
use Rattle.swc_ecma_codegen_validate.proofs.WholeSizes.{compared_radix, compared_zero, compared_decimal}
use Rattle.swc_ecma_codegen_validate.proofs.numbers.has_size.Goals as goal

pub returns-in-Some-radix_digits : goal.returns-in-Some-radix_digits
returns-in-Some-radix_digits c = let r = c.in-Some-radix_digits.ensures.some in c.radix_has_size.ensures ∙ sym (compared_radix _ _ _ _ c.in-Some.ensures.some.0 c.in-Some.ensures.some.1 r.0 r.2)

pub returns-in-None-radix_digits : goal.returns-in-None-radix_digits
returns-in-None-radix_digits c = let r = c.in-None-radix_digits.ensures.none in c.decimal_has_size.ensures ∙ sym (compared_zero _ _ _ c.in-Some.ensures.some.0 c.in-Some.ensures.some.1 r.0 r.1)

pub returns-in-None : goal.returns-in-None
returns-in-None c = c.decimal_has_size-in-None.ensures ∙ sym (compared_decimal _ _ c.in-None.ensures.none)
