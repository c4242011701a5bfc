use Rattle.swc_ecma_codegen_grammar.specs.Comments.{maps_in}
use Rattle.std.proofs.Common.{rules}
use Rattle.swc_ecma_codegen_emit.proofs.Standings.{shallower_here}
use Rattle.swc_ecma_codegen_emit.proofs.emitter.Emitter.shallower.Goals as goal

pub returns : goal.returns
returns g c = record { items = shallower_here 1 (g.S.SourceMapper.lines c.args.self.now.cm.now) (maps_in g.C.Comments.maps c.args.self.now.comments) _ _ _ _ _ _ c.shallower.ensures.items c.shallower.ensures.level (search rules) c.keep.ensures }
