use Rattle.std.proofs.Common.{None}
use Rattle.swc_ecma_codegen_emit.specs.Templates.{tpl_parts}
use Rattle.swc_ecma_codegen_emit.specs.Standing.{standing_of}
use Rattle.swc_ecma_codegen_emit.proofs.Lengths.{length_makes}
use Rattle.swc_ecma_codegen_emit.proofs.emitter.Emitter.tpl_parts.Goals as goal

pub returns : goal.returns
unfolding tpl_parts
returns g c = record { items = length_makes None _ (standing_of g.S.SourceMapper.lines g.C.Comments.maps g.W.WriteJs.sheet c.args.self.now) (standing_of g.S.SourceMapper.lines g.C.Comments.maps g.W.WriteJs.sheet c.tpl_all.new.self) c.tpl_all.ensures.items }
