use Rattle.swc_ecma_codegen_grammar.specs.Comments.{maps_in}
use Rattle.std.proofs.Common.{rules}
use Rattle.swc_ecma_codegen_emit.proofs.Standings.{makes_here}
use Rattle.swc_ecma_codegen_emit.proofs.emitter.Emitter.operator_and_blanks.Goals as goal

pub returns : goal.returns
returns g c = record { items = makes_here (g.S.SourceMapper.lines c.args.self.now.cm.now) (maps_in g.C.Comments.maps c.args.self.now.comments) _ _ _ _ _ _ c.writes_operator_and_blanks-done.ensures.items c.writes_operator_and_blanks-done.ensures.level (search rules) c.keep_reason.ensures }
