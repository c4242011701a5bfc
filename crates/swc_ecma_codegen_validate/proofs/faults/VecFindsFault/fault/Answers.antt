use Rattle.std.proofs.Common.{◌∷◌}
use Rattle.swc_ecma_codegen_validate.specs.Rules.{Indexed, in_each, path_of}
use Rattle.swc_ecma_codegen_validate.proofs.Each.{none_here, first_later, first_here, none_left}
use Rattle.swc_ecma_codegen_validate.proofs.faults.VecFindsFault.fault.Goals as goal

pub returns-in-Some : goal.returns-in-Some
unfolding in_each
returns-in-Some g c =
    let found : (g.T.FindsFault.found c.node-item.result).first (path_of c.in-Some.broken) c.in-Some.broken.rule.now = rw c.in-Some.is at c.in_ok-broken.ensures in
    let here = first_here g.T.FindsFault.found c.deref-node-items.result.now c.loop-index.index c.node-item.result c.loop-index-test.true c.node-item.is (path_of c.in-Some.broken) c.in-Some.broken.rule.now found in
    rw (← c.deref-node-items.ensures.value, c.in_ok-below.ensures.path, c.in_ok-below.ensures.rule) (c.loop-index.invariant.0 (Indexed c.loop-index.index ∷ path_of c.in-Some.broken) c.in-Some.broken.rule.now here)

pub loop-index-preserved : goal.loop-index-preserved
loop-index-preserved g c =
    let none : (g.T.FindsFault.found c.node-item.result).none = rw c.in_default.is at c.in_ok-broken.ensures in (
      (λ path words h. c.loop-index.invariant.0 path words (first_later g.T.FindsFault.found c.deref-node-items.result.now c.loop-index.index c.node-item.result c.loop-index-test.true c.node-item.is none path words h)),
      (λ h. c.loop-index.invariant.1 (none_here g.T.FindsFault.found c.deref-node-items.result.now c.loop-index.index c.node-item.result c.loop-index-test.true c.node-item.is none h)),
    )

pub returns : goal.returns
returns g c = rw (← c.deref-node-items.ensures.value) (c.loop-index.invariant.1 (none_left g.T.FindsFault.found c.deref-node-items.result.now c.loop-index.index c.loop-index-test.false))
