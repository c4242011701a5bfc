use Rattle.std.proofs.Common.{true, ◌∙◌, sym, ap}
use Rattle.swc_ecma_codegen_syntax.specs.Verdicts.{by_rule}
use Rattle.swc_ecma_codegen_syntax.specs.Forms.{judge, verdict_all}
use Rattle.swc_ecma_codegen_syntax.specs.DeclForms.{declarator_form, are_resources}
use Rattle.swc_ecma_codegen_syntax.proofs.StmtsJudged.{using_judged}
use Rattle.swc_ecma_codegen_syntax.proofs.decls.UsingDeclStands.judge.Goals as goal

pub returns : goal.returns
returns g c =
    c.declarators.ensures
    ∙ ap (λ xs. verdict_all (λ n v. judge g.N.Answers.answers v (declarator_form c.args.parameters true n)) c.by_rule-verdict.result xs) c.deref.ensures.value
    ∙ ap (λ v. verdict_all (λ n w. judge g.N.Answers.answers w (declarator_form c.args.parameters true n)) v c.args.self.now.decls.items)
    (c.by_rule-verdict.ensures ∙ ap (λ b. by_rule c.args.so_far b) c.are_resources.ensures)
    ∙ sym (using_judged g.N.Answers.answers c.args.parameters c.args.so_far c.args.self.now)
