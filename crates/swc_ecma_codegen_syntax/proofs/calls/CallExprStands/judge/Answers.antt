use Rattle.std.proofs.Common.{◌∙◌, sym, ap}
use Rattle.swc_ecma_codegen_syntax.specs.Forms.{judge, verdict_all}
use Rattle.swc_ecma_codegen_syntax.specs.CallForms.{argument_form, callee_form}
use Rattle.swc_ecma_codegen_syntax.specs.MemberForms.{type_args_form}
use Rattle.swc_ecma_codegen_syntax.proofs.CallsJudged.{call_judged}
use Rattle.swc_ecma_codegen_syntax.proofs.calls.CallExprStands.judge.Goals as goal

pub returns : goal.returns
returns g c =
    c.all.ensures
    ∙ ap (λ xs. verdict_all (λ x w. judge g.N.Answers.answers w (argument_form c.args.parameters x)) c.type_args.result xs) c.deref-2.ensures.value
    ∙ ap (λ v. verdict_all (λ x w. judge g.N.Answers.answers w (argument_form c.args.parameters x)) v c.args.self.now.args.items)
    (c.type_args.ensures ∙ ap (λ v. judge g.N.Answers.answers v (type_args_form c.args.parameters c.args.self.now.type_args))
    (c.callee-verdict.ensures ∙ ap (λ xs. judge g.N.Answers.answers c.args.so_far (callee_form c.args.parameters c.args.self.now.callee xs)) c.deref.ensures.value))
    ∙ sym (call_judged g.N.Answers.answers c.args.parameters c.args.so_far c.args.self.now)
