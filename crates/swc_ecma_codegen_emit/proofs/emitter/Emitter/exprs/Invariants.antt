use Rattle.std.proofs.Common.{true, drop}
use Rattle.swc_ecma_codegen_emit.specs.Standing.{Continues, standing_of}
use Rattle.swc_ecma_codegen_emit.specs.Lists.{listed}
use Rattle.swc_ecma_codegen_emit.specs.Exprs.{held}
use Rattle.swc_ecma_codegen_emit.proofs.emitter.Emitter.exprs.Given as goal

abbrev pub invariant-loop-node : goal.invariant-loop-node
invariant-loop-node g l = Continues (listed (held g.N.EmitAt.items) l.first (drop l.node-index l.nodes)) (standing_of g.S.SourceMapper.lines g.C.Comments.maps g.W.WriteJs.sheet l.self) (listed (held g.N.EmitAt.items) true l.nodes) (standing_of g.S.SourceMapper.lines g.C.Comments.maps g.W.WriteJs.sheet l.initial.self)
