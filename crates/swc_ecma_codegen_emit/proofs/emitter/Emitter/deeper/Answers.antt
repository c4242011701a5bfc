use Rattle.swc_ecma_codegen_grammar.specs.Comments.{maps_in}
use Rattle.std.proofs.Common.{rules}
use Rattle.swc_ecma_codegen_emit.proofs.Standings.{deeper_here, levels_made}
use Rattle.swc_ecma_codegen_emit.proofs.emitter.Emitter.deeper.Goals as goal

pub returns-clause-items : goal.returns-clause-items
returns-clause-items g c = deeper_here 1 (g.S.SourceMapper.lines c.args.self.now.cm.now) (maps_in g.C.Comments.maps c.args.self.now.comments) _ _ _ _ _ _ c.deeper.ensures.items c.deeper.ensures.level (search rules) c.keep.ensures

pub returns-clause-level : goal.returns-clause-level
returns-clause-level g c = levels_made 1 _ _ _ _ _ c.deeper.ensures.level (search rules) c.keep.ensures
