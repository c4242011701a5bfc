use Rattle.std.proofs.Common.{rules}
use Rattle.swc_ecma_codegen_grammar.specs.Comments.{maps_in}
use Rattle.swc_ecma_codegen_emit.proofs.Standings.{makes_here}
use Rattle.swc_ecma_codegen_emit.proofs.lits.RegexEmitAt.emit_at.Goals as goal

pub returns : goal.returns
returns g c = record { items = makes_here (g.S.SourceMapper.lines c.args.e.now.cm.now) (maps_in g.C.Comments.maps c.args.e.now.comments) _ _ _ _ _ _ c.regex_lit.ensures.items c.regex_lit.ensures.level (search rules) c.keep.ensures }
