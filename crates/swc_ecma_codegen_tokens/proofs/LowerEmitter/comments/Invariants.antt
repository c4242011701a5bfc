use Rattle.std.proofs.Common.{◌≡◌, drop}
use Rattle.swc_ecma_codegen_tokens.specs.View.{state_of}
use Rattle.swc_ecma_codegen_tokens.proofs.Commenting.CommentSteps.{Continues}
use Rattle.swc_ecma_codegen_tokens.proofs.LowerEmitter.comments.Given as goal

abbrev pub invariant-loop-node : goal.invariant-loop-node
invariant-loop-node g l = record {
  items : Continues l.prefix_space (drop l.node-index l.nodes) (state_of l.cfg (g.W.WriteJs.sheet l.wr) l.self) l.nodes (state_of l.cfg (g.W.WriteJs.sheet l.initial.wr) l.initial.self);
  level : (g.W.WriteJs.sheet l.wr).indentation ≡ (g.W.WriteJs.sheet l.initial.wr).indentation;
}
