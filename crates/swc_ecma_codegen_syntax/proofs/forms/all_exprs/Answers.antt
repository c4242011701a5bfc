use Rattle.std.proofs.Common.{◌∙◌}
use Rattle.swc_ecma_codegen_syntax.specs.Forms.{judge}
use Rattle.swc_ecma_codegen_syntax.specs.MemberForms.{expr_part}
use Rattle.swc_ecma_codegen_syntax.proofs.CallsJudged.{all_next}
use Rattle.swc_ecma_codegen_syntax.proofs.forms.all_exprs.Goals as goal

pub loop-expr-preserved : goal.loop-expr-preserved
loop-expr-preserved g c =
    c.loop-expr.invariant
    ∙ all_next (λ n v. judge g.N.Answers.answers v (expr_part c.args.place c.args.parameters n)) c.loop-expr.verdict c.part-verdict.result c.args.exprs.now c.loop-expr.expr-index c.expr-item.result
    c.loop-expr-test.true c.expr-item.is c.part-verdict.ensures
