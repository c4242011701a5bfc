use Rattle.std.proofs.Common.{◌∙◌, sym, ap}
use Rattle.swc_ecma_codegen_syntax.specs.Verdicts.{by_rule}
use Rattle.swc_ecma_codegen_syntax.specs.Forms.{judge, verdict_all}
use Rattle.swc_ecma_codegen_syntax.specs.DeclForms.{declarator_form, is_const, is_single, of_kind}
use Rattle.swc_ecma_codegen_syntax.proofs.StmtsJudged.{var_decl_judged}
use Rattle.swc_ecma_codegen_syntax.proofs.decls.VarDeclStands.judge.Goals as goal

pub returns : goal.returns
returns g c =
    c.declarators.ensures
    ∙ ap (λ xs. verdict_all (λ n v. judge g.N.Answers.answers v (declarator_form c.of_kind.result c.is_const.result n)) c.by_rule-verdict.result xs) c.deref.ensures.value
    ∙ ap (λ p. verdict_all (λ n v. judge g.N.Answers.answers v (declarator_form p c.is_const.result n)) c.by_rule-verdict.result c.args.self.now.decls.items) c.of_kind.ensures
    ∙ ap (λ k. verdict_all (λ n v. judge g.N.Answers.answers v (declarator_form (of_kind c.args.self.now.kind c.args.parameters) k n)) c.by_rule-verdict.result c.args.self.now.decls.items) c.is_const.ensures
    ∙ ap (λ v. verdict_all (λ n w. judge g.N.Answers.answers w (declarator_form (of_kind c.args.self.now.kind c.args.parameters) (is_const c.args.self.now.kind) n)) v c.args.self.now.decls.items)
    (c.by_rule-verdict.ensures ∙ ap (λ b. by_rule c.by_scope.result b) c.is_single.ensures ∙ ap (λ v. by_rule v (is_single c.args.parameters c.args.self.now)) c.by_scope.ensures)
    ∙ sym (var_decl_judged g.N.Answers.answers c.args.parameters c.args.so_far c.args.self.now)
