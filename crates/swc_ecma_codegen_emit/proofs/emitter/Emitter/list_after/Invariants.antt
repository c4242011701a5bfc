use Rattle.std.proofs.Common.{drop, map}
use Rattle.swc_ecma_codegen_emit.specs.Standing.{Continues, Stays, KeepsSettings, standing_of}
use Rattle.swc_ecma_codegen_tokens.specs.Lists.{list_after}
use Rattle.swc_ecma_codegen_emit.specs.Lists.{child_of}
use Rattle.swc_ecma_codegen_emit.proofs.emitter.Emitter.list_after.Given as goal

abbrev pub invariant-loop-child : goal.invariant-loop-child
invariant-loop-child g l = record {
  items : Continues (list_after l.format.0 l.parent l.last (map (child_of g.T.Child.stands g.T.EmitAt.items) (drop l.child-index l.children))) (standing_of g.S.SourceMapper.lines g.C.Comments.maps g.W.WriteJs.sheet l.self) (list_after l.format.0 l.parent l.fn.previous (map (child_of g.T.Child.stands g.T.EmitAt.items) l.children)) (standing_of g.S.SourceMapper.lines g.C.Comments.maps g.W.WriteJs.sheet l.initial.self);
  level : Stays (standing_of g.S.SourceMapper.lines g.C.Comments.maps g.W.WriteJs.sheet l.initial.self) (standing_of g.S.SourceMapper.lines g.C.Comments.maps g.W.WriteJs.sheet l.self);
  settings : KeepsSettings (standing_of g.S.SourceMapper.lines g.C.Comments.maps g.W.WriteJs.sheet l.initial.self) (standing_of g.S.SourceMapper.lines g.C.Comments.maps g.W.WriteJs.sheet l.self);
}
