use Rattle.std.proofs.Common.{drop, map}
use Rattle.std.specs.List.{filter}
use Rattle.swc_ecma_codegen_emit.specs.Standing.{Continues, standing_of}
use Rattle.swc_ecma_codegen_tokens.specs.Lists.{list}
use Rattle.swc_ecma_codegen_emit.specs.Lists.{child_of, braced_rest}
use Rattle.swc_ecma_codegen_emit.proofs.emitter.Emitter.braced_list.Given as goal

abbrev pub invariant-loop-specifier : goal.invariant-loop-specifier
invariant-loop-specifier g l = Continues (braced_rest l.format.0 l.parent l.previous (map (child_of g.T.Child.stands g.T.EmitAt.items) (filter g.T.Specifier.braced (drop l.specifier-index l.specifiers)))) (standing_of g.S.SourceMapper.lines g.C.Comments.maps g.W.WriteJs.sheet l.self) (list l.format.0 l.parent (map (child_of g.T.Child.stands g.T.EmitAt.items) (filter g.T.Specifier.braced l.specifiers))) (standing_of g.S.SourceMapper.lines g.C.Comments.maps g.W.WriteJs.sheet l.initial.self)
