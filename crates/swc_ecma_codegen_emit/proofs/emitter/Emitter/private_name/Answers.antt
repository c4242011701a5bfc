use Rattle.std.proofs.Common.{rules}
use Rattle.swc_ecma_codegen_grammar.specs.Comments.{maps_in}
use Rattle.swc_ecma_codegen_emit.proofs.Standings.{takes_made}
use Rattle.swc_ecma_codegen_emit.proofs.emitter.Emitter.private_name.Goals as goal

pub returns : goal.returns
returns g c = record { items = takes_made (g.S.SourceMapper.lines c.args.self.now.cm.now) (maps_in g.C.Comments.maps c.args.self.now.comments) _ _ _ _ _ _ _ c.private_name.ensures.items c.private_name.ensures.level (search rules) c.keep.ensures }
