use Rattle.std.proofs.Common.{◌∙◌, sym, ap}
use Rattle.swc_ecma_codegen_syntax.specs.Forms.{judge, verdict_all}
use Rattle.swc_ecma_codegen_syntax.specs.MemberForms.{type_args_form}
use Rattle.swc_ecma_codegen_syntax.specs.JsxForms.{attr_form}
use Rattle.swc_ecma_codegen_syntax.proofs.JsxJudged.{opening_judged}
use Rattle.swc_ecma_codegen_syntax.proofs.jsx.opening.Goals as goal

pub returns : goal.returns
returns g c =
    c.all.ensures
    ∙ ap (λ xs. verdict_all (λ x w. judge g.N.Answers.answers w (attr_form c.args.parameters x)) c.type_args-verdict.result xs) c.deref.ensures.value
    ∙ ap (λ v. verdict_all (λ x w. judge g.N.Answers.answers w (attr_form c.args.parameters x)) v c.args.opening.now.attrs.items)
    (c.type_args-verdict.ensures ∙ ap (λ v. judge g.N.Answers.answers v (type_args_form c.args.parameters c.args.opening.now.type_args)) c.judge-verdict.ensures)
    ∙ sym (opening_judged g.N.Answers.answers c.args.parameters c.args.is_child c.args.so_far c.args.opening.now)
