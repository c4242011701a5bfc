use Rattle.std.proofs.Common.{drop}
use Rattle.swc_ecma_codegen_emit.specs.Standing.{Continues, standing_of}
use Rattle.swc_ecma_codegen_emit.specs.Lists.{plainly}
use Rattle.swc_ecma_codegen_emit.specs.Templates.{tpl_rest}
use Rattle.swc_ecma_codegen_emit.proofs.emitter.Emitter.tpl_rest.Given as goal

abbrev pub invariant-loop-node : goal.invariant-loop-node
invariant-loop-node g l = Continues (tpl_rest (plainly g.T.EmitAt.items) l.tagged (drop l.node-index l.nodes) l.left) (standing_of g.S.SourceMapper.lines g.C.Comments.maps g.W.WriteJs.sheet l.self) (tpl_rest (plainly g.T.EmitAt.items) l.tagged l.nodes l.quasis) (standing_of g.S.SourceMapper.lines g.C.Comments.maps g.W.WriteJs.sheet l.initial.self)
