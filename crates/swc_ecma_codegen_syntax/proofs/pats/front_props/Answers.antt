use Rattle.std.proofs.Common.{false, ◌∙◌}
use Rattle.swc_ecma_codegen_syntax.specs.Forms.{judge}
use Rattle.swc_ecma_codegen_syntax.specs.PatForms.{pat_prop_form}
use Rattle.swc_ecma_codegen_syntax.proofs.CallsJudged.{all_next}
use Rattle.swc_ecma_codegen_syntax.proofs.pats.front_props.Goals as goal

pub loop-node-preserved : goal.loop-node-preserved
loop-node-preserved g c =
    c.loop-node.invariant
    ∙ all_next (λ n v. judge g.N.Answers.answers v (pat_prop_form false c.args.parameters n)) c.loop-node.verdict c.prop-verdict.result c.args.props.now c.loop-node.node-index c.node-item.result
    c.loop-node-test.true c.node-item.is c.prop-verdict.ensures
