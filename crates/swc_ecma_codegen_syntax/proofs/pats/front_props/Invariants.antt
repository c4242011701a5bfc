use Rattle.std.proofs.Common.{◌≡◌, false, drop}
use Rattle.swc_ecma_codegen_syntax.specs.Forms.{judge, verdict_all}
use Rattle.swc_ecma_codegen_syntax.specs.PatForms.{pat_prop_form}
use Rattle.swc_ecma_codegen_syntax.proofs.pats.front_props.Given as goal

abbrev pub invariant-loop-node : goal.invariant-loop-node
invariant-loop-node g l =
    verdict_all (λ n v. judge g.N.Answers.answers v (pat_prop_form false l.parameters n)) l.fn.so_far l.props
    ≡ verdict_all (λ n v. judge g.N.Answers.answers v (pat_prop_form false l.parameters n)) l.verdict (drop l.node-index l.props)
