use Rattle.swc_ecma_codegen_grammar.specs.Comments.{maps_in}
use Rattle.std.proofs.Common.{rules}
use Rattle.swc_ecma_codegen_tokens.specs.Lists.{list_levels}
use Rattle.swc_ecma_codegen_emit.proofs.Standings.{deeper_here, levels_made}
use Rattle.swc_ecma_codegen_emit.proofs.emitter.Emitter.opening.Goals as goal

pub returns-clause-items : goal.returns-clause-items
returns-clause-items g c = deeper_here (list_levels c.args.format.0 c.args.self.now.cfg) (g.S.SourceMapper.lines c.args.self.now.cm.now) (maps_in g.C.Comments.maps c.args.self.now.comments) _ _ _ _ _ _ c.list_opening.ensures.items c.list_opening.ensures.level (search rules) c.keep.ensures

pub returns-clause-level : goal.returns-clause-level
returns-clause-level g c = levels_made (list_levels c.args.format.0 c.args.self.now.cfg) _ _ _ _ _ c.list_opening.ensures.level (search rules) c.keep.ensures
