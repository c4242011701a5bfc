use Rattle.std.proofs.Common.{◌≡◌, drop}
use Rattle.swc_ecma_codegen_syntax.specs.Forms.{judge, verdict_all}
use Rattle.swc_ecma_codegen_syntax.specs.MemberForms.{expr_part}
use Rattle.swc_ecma_codegen_syntax.proofs.forms.all_exprs.Given as goal

abbrev pub invariant-loop-expr : goal.invariant-loop-expr
invariant-loop-expr g l =
    verdict_all (λ n v. judge g.N.Answers.answers v (expr_part l.place l.parameters n)) l.fn.so_far l.exprs
    ≡ verdict_all (λ n v. judge g.N.Answers.answers v (expr_part l.place l.parameters n)) l.verdict (drop l.expr-index l.exprs)
