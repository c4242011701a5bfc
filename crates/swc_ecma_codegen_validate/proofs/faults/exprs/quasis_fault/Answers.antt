use Rattle.std.proofs.Common.{◌∷◌}
use Rattle.swc_ecma_codegen_validate.specs.ExprRules.{element}
use Rattle.swc_ecma_codegen_validate.specs.Rules.{Indexed, in_each, path_of}
use Rattle.swc_ecma_codegen_validate.proofs.Each.{none_here, first_later, first_here, none_left}
use Rattle.swc_ecma_codegen_validate.proofs.faults.exprs.quasis_fault.Goals as goal

pub returns-in-Some : goal.returns-in-Some
unfolding in_each
returns-in-Some c =
    let found : (element c.args.tagged c.index-quasis-index.result).first (path_of c.in-Some.broken) c.in-Some.broken.rule.now = rw c.in-Some.is at c.in_ok-broken.ensures in
    let here = first_here (element c.args.tagged) c.args.quasis.now c.loop-index.index c.index-quasis-index.result c.loop-index-test.true c.index-quasis-index.is (path_of c.in-Some.broken) c.in-Some.broken.rule.now found in
    rw (c.in_ok-below.ensures.path, c.in_ok-below.ensures.rule) (c.loop-index.invariant.0 (Indexed c.loop-index.index ∷ path_of c.in-Some.broken) c.in-Some.broken.rule.now here)

pub loop-index-preserved : goal.loop-index-preserved
loop-index-preserved c =
    let none : (element c.args.tagged c.index-quasis-index.result).none = rw c.in_default.is at c.in_ok-broken.ensures in (
      (λ path words h. c.loop-index.invariant.0 path words (first_later (element c.args.tagged) c.args.quasis.now c.loop-index.index c.index-quasis-index.result c.loop-index-test.true c.index-quasis-index.is none path words h)),
      (λ h. c.loop-index.invariant.1 (none_here (element c.args.tagged) c.args.quasis.now c.loop-index.index c.index-quasis-index.result c.loop-index-test.true c.index-quasis-index.is none h)),
    )

pub returns : goal.returns
returns c = c.loop-index.invariant.1 (none_left (element c.args.tagged) c.args.quasis.now c.loop-index.index c.loop-index-test.false)
