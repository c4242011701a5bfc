use Rattle.std.proofs.Common.{◌∙◌, false, sym, ap}
use Rattle.swc_ecma_codegen_syntax.specs.Forms.{judge, verdict_all}
use Rattle.swc_ecma_codegen_syntax.specs.Verdicts.{by_rule}
use Rattle.swc_ecma_codegen_syntax.specs.StmtForms.{expression_part, case_form, is_case_block}
use Rattle.swc_ecma_codegen_syntax.proofs.StmtsJudged.{switch_judged}
use Rattle.swc_ecma_codegen_syntax.proofs.stmts.SwitchStmtStands.judge.Goals as goal

pub returns : goal.returns
returns g c =
    c.all.ensures
    ∙ ap (λ xs. verdict_all (λ x w. judge g.N.Answers.answers w (case_form c.args.parameters x)) c.expression.result xs) c.deref-2.ensures.value
    ∙ ap (λ v. verdict_all (λ x w. judge g.N.Answers.answers w (case_form c.args.parameters x)) v c.args.self.now.cases.items)
    (c.expression.ensures ∙ ap (λ v. judge g.N.Answers.answers v (expression_part c.args.parameters c.args.self.now.discriminant))
    (c.by_rule.ensures ∙ ap (by_rule c.args.so_far) (c.is_case_block.ensures ∙ ap (is_case_block false) c.deref.ensures.value)))
    ∙ sym (switch_judged g.N.Answers.answers c.args.parameters c.args.so_far c.args.self.now)
