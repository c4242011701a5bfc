use Rattle.std.proofs.Common.{rules}
use Rattle.swc_ecma_codegen_tokens.proofs.Commenting.CommentSteps.{turned, next_comment, stopped_comment, all_comments}
use Rattle.swc_ecma_codegen_tokens.proofs.LowerEmitter.comments.Goals as goal

pub returns-in-Err-clause-items : goal.returns-in-Err-clause-items
returns-in-Err-clause-items g c = stopped_comment c.args.prefix_space c.node-item.result _ c.args.nodes.now _ _ _ c.in-Err.refusal (turned c.args.prefix_space c.args.nodes.now c.loop-node.node-index c.node-item.result _ _ c.loop-node-test.true c.node-item.is c.loop-node.invariant.items) c.in-Err.ensures.items

pub loop-node-preserved : goal.loop-node-preserved
loop-node-preserved g c = record {
  items = next_comment c.args.prefix_space c.node-item.result _ c.args.nodes.now _ _ _ (turned c.args.prefix_space c.args.nodes.now c.loop-node.node-index c.node-item.result _ _ c.loop-node-test.true c.node-item.is c.loop-node.invariant.items) c.in-Ok.ensures.items;
  level = search rules;
}

pub returns-clause-items : goal.returns-clause-items
returns-clause-items g c = all_comments c.args.prefix_space c.args.nodes.now c.loop-node.node-index _ _ (search rules) c.loop-node.invariant.items
