use Rattle.swc_ecma_codegen_grammar.specs.Comments.{maps_in}
use Rattle.std.proofs.Common.{rules}
use Rattle.swc_ecma_codegen_emit.proofs.Standings.{makes_here}
use Rattle.swc_ecma_codegen_emit.proofs.emitter.Emitter.begin_lines.Goals as goal

pub returns-clause-items : goal.returns-clause-items
returns-clause-items g c = makes_here (g.S.SourceMapper.lines c.args.self.now.cm.now) (maps_in g.C.Comments.maps c.args.self.now.comments) _ _ _ _ _ _ c.begin_lines.ensures.items c.begin_lines.ensures.level (search rules) c.keep.ensures
