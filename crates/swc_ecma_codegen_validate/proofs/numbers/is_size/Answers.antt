use Rattle.std.proofs.Common.{◌≤◌, ◌*◌, ◌^◌, refl, sym, arith}
use Rattle.std.specs.Str.Parse.{digits_value}
use Rattle.swc_ecma_codegen_grammar.specs.DecimalValues.{decimal_digits, exact_size, size_value}
use Rattle.swc_ecma_codegen_validate.proofs.WholeSizes.{digits_over, over_size, part_size, size_found, whole_size}
use Rattle.swc_ecma_codegen_validate.proofs.numbers.is_size.Goals as goal

pub returns-then-tenths-gt0-clause-size : goal.returns-then-tenths-gt0-clause-size
unfolding exact_size
returns-then-tenths-gt0-clause-size c = sym (part_size _ _ _ _ c.args.number.now.normal c.tenths.ensures c.if-tenths-gt0.true)

pub returns-in-Some-times_power-clause-size : goal.returns-in-Some-times_power-clause-size
unfolding exact_size
returns-in-Some-times_power-clause-size c =
    let size = size_found _ _ _ _ _ _ c.args.number.now.normal c.in-Some-times_power.ensures.some c.in-Some.ensures.value c.digits.ensures c.tens.ensures in
    sym (whole_size _ _ _ _ _ c.tenths.ensures c.if-tenths-gt0.false size)

pub returns-in-None-times_power-clause-size : goal.returns-in-None-times_power-clause-size
unfolding exact_size
returns-in-None-times_power-clause-size c =
    let size = size_found _ _ _ (c.in-Some.digits * 10 ^ c.tens.result) _ _ c.args.number.now.normal refl c.in-Some.ensures.value c.digits.ensures c.tens.ensures in
    let large : 340282366920938463463374607431768211456 ≤ digits_value 10 (decimal_digits c.args.number.now) * 10 ^ (size_value (decimal_digits c.args.number.now) c.args.number.now.exponent).tens = omega (arith, c.in-None-times_power.ensures.none, size) in
    sym (over_size _ _ _ _ _ c.tenths.ensures c.if-tenths-gt0.false (omega arith) large)

pub returns-in-None-clause-size : goal.returns-in-None-clause-size
unfolding exact_size
returns-in-None-clause-size c = sym (over_size _ _ _ _ _ c.tenths.ensures c.if-tenths-gt0.false (omega arith) (digits_over _ _ _ _ c.args.number.now.normal c.in-None.ensures.none c.digits.ensures))
