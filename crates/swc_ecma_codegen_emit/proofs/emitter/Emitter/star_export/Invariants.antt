use Rattle.std.proofs.Common.{drop}
use Rattle.swc_ecma_codegen_emit.specs.Standing.{Continues, standing_of}
use Rattle.swc_ecma_codegen_emit.specs.Modules.{star_export}
use Rattle.swc_ecma_codegen_emit.proofs.emitter.Emitter.star_export.Given as goal

abbrev pub invariant-loop-specifier : goal.invariant-loop-specifier
invariant-loop-specifier g l = Continues (star_export (drop l.specifier-index l.specifiers)) (standing_of g.S.SourceMapper.lines g.C.Comments.maps g.W.WriteJs.sheet l.self) (star_export l.specifiers) (standing_of g.S.SourceMapper.lines g.C.Comments.maps g.W.WriteJs.sheet l.initial.self)
