use Rattle.std.proofs.Common.{◌∙◌}
use Rattle.swc_ecma_codegen_syntax.specs.Forms.{judge}
use Rattle.swc_ecma_codegen_syntax.specs.DeclForms.{declarator_form}
use Rattle.swc_ecma_codegen_syntax.proofs.CallsJudged.{all_next}
use Rattle.swc_ecma_codegen_syntax.proofs.decls.declarators.Goals as goal

pub loop-node-preserved : goal.loop-node-preserved
loop-node-preserved g c =
    c.loop-node.invariant
    ∙ all_next (λ n v. judge g.N.Answers.answers v (declarator_form c.args.parameters c.args.constant n)) c.loop-node.verdict c.declarator-verdict.result c.args.declarators.now c.loop-node.node-index c.node-item.result
    c.loop-node-test.true c.node-item.is c.declarator-verdict.ensures
