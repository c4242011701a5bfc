use Rattle.std.proofs.Common.{◌≡◌, arith, slice_index, subst, refl, Some, None}
use Rattle.swc_ecma_codegen_literals.specs.InlineScripts.{mark_text}
use Rattle.swc_ecma_codegen_literals.proofs.InlineMarks.{mark_ascii, mark_step, stands_step, all_stand, dashes_small, whole_rest}
use Rattle.swc_ecma_codegen_literals.proofs.scripts.first_mark.Goals as goal

pub returns-in-Some-clause-ascii : goal.returns-in-Some-clause-ascii
returns-in-Some-clause-ascii c = mark_ascii _ _ _ _ c.in-Some.ensures.some

pub returns-in-Some-clause-parts : goal.returns-in-Some-clause-parts
returns-in-Some-clause-parts c =
    let all = c.args.literal.now in
    let at = c.loop-at.at in
    let d = c.loop-at.dashes in
    mark_step all _ at d c.loop-at-test.true c.loop-at.invariant.1 (subst (λ x. mark_text d (slice_index all at) x ≡ Some c.in-Some.escape.now) (whole_rest all at) c.in-Some.ensures.some)

pub loop-at-preserved : goal.loop-at-preserved
loop-at-preserved c =
    let all = c.args.literal.now in
    let at = c.loop-at.at in
    let d = c.loop-at.dashes in
    let s = dashes_small d (slice_index all at) in
    let n = subst (λ x. mark_text d (slice_index all at) x ≡ None) (whole_rest all at) (c.in_default.ensures.none refl) in
    rw c.dashes_after-dashes.ensures (omega (arith, s), stands_step all at d c.loop-at-test.true c.loop-at.invariant.1 n)

pub returns-clause-none : goal.returns-clause-none
returns-clause-none c = λ _. all_stand _ c.loop-at.at _ c.loop-at-test.false c.loop-at.invariant.1
