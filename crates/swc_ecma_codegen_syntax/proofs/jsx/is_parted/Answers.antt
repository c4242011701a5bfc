use Rattle.std.proofs.Common.{◌∙◌}
use Rattle.swc_ecma_codegen_syntax.proofs.JsxJudged.{parted_next}
use Rattle.swc_ecma_codegen_syntax.proofs.jsx.is_parted.Goals as goal

pub loop-child-preserved : goal.loop-child-preserved
loop-child-preserved g c =
    c.loop-child.invariant
    ∙ parted_next c.loop-child.after_text c.is_text-text.result c.clashes-clash.result c.args.children.now c.loop-child.child-index c.child-item.result c.loop-child-test.true c.child-item.is c.is_text-text.ensures c.clashes-clash.ensures c.if-clash.false
