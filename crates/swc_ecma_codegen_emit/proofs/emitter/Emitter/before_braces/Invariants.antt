use Rattle.std.proofs.Common.{true, drop}
use Rattle.swc_ecma_codegen_emit.specs.Standing.{Continues, standing_of}
use Rattle.swc_ecma_codegen_emit.specs.Modules.{before_braces}
use Rattle.swc_ecma_codegen_emit.proofs.emitter.Emitter.before_braces.Given as goal

abbrev pub invariant-loop-specifier : goal.invariant-loop-specifier
invariant-loop-specifier g l = Continues (before_braces l.first (drop l.specifier-index l.specifiers)) (standing_of g.S.SourceMapper.lines g.C.Comments.maps g.W.WriteJs.sheet l.self) (before_braces true l.specifiers) (standing_of g.S.SourceMapper.lines g.C.Comments.maps g.W.WriteJs.sheet l.initial.self)
