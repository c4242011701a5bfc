use Rattle.std.proofs.Common.{arith, ◌≤◌, ◌*◌}
use Rattle.swc_ecma_codegen_validate.proofs.WholeSizes.{too_large}
use Rattle.swc_ecma_codegen_validate.proofs.numbers.times_power.Goals as goal

pub returns-in-None-clause-none : goal.returns-in-None-clause-none
returns-in-None-clause-none c =
    let large : 340282366920938463463374607431768211456 ≤ c.loop-left.value * 10 = omega (arith, c.in-None.ensures) in
    too_large _ _ _ 340282366920938463463374607431768211456 c.loop-left.invariant c.loop-left-test.true large
