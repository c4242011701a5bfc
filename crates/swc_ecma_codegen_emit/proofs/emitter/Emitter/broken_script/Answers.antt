use Rattle.std.proofs.Common.{Some}
use Rattle.swc_ecma_codegen_emit.specs.Standing.{standing_of}
use Rattle.swc_ecma_codegen_emit.proofs.Lengths.{length_makes}
use Rattle.swc_ecma_codegen_emit.proofs.emitter.Emitter.broken_script.Goals as goal

pub returns : goal.returns
returns g c = record { items = length_makes (Some c.args.max) _ (standing_of g.S.SourceMapper.lines g.C.Comments.maps g.W.WriteJs.sheet c.args.self.now) (standing_of g.S.SourceMapper.lines g.C.Comments.maps g.W.WriteJs.sheet c.script_parts.new.self) c.script_parts.ensures.items }
