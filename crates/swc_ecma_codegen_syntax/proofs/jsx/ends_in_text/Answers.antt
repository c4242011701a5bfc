use Rattle.std.proofs.Common.{◌∙◌}
use Rattle.swc_ecma_codegen_syntax.proofs.JsxJudged.{ends_next}
use Rattle.swc_ecma_codegen_syntax.proofs.jsx.ends_in_text.Goals as goal

pub loop-child-preserved : goal.loop-child-preserved
loop-child-preserved g c =
    c.loop-child.invariant
    ∙ ends_next c.loop-child.after_text c.is_text-after_text.result c.args.children.now c.loop-child.child-index c.child-item.result c.loop-child-test.true c.child-item.is c.is_text-after_text.ensures
