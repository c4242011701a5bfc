use Rattle.std.proofs.Common.{drop}
use Rattle.swc_ecma_codegen_emit.specs.Standing.{Continues, standing_of}
use Rattle.swc_ecma_codegen_emit.specs.Lists.{plainly, in_order}
use Rattle.swc_ecma_codegen_emit.proofs.emitter.Emitter.in_order.Given as goal

abbrev pub invariant-loop-node : goal.invariant-loop-node
invariant-loop-node g l = Continues (in_order (plainly g.T.EmitAt.items) (drop l.node-index l.nodes)) (standing_of g.S.SourceMapper.lines g.C.Comments.maps g.W.WriteJs.sheet l.self) (in_order (plainly g.T.EmitAt.items) l.nodes) (standing_of g.S.SourceMapper.lines g.C.Comments.maps g.W.WriteJs.sheet l.initial.self)
