use Rattle.std.proofs.Common.{rules}
use Rattle.swc_ecma_codegen_grammar.specs.Comments.{maps_in}
use Rattle.swc_ecma_codegen_emit.proofs.Standings.{takes_made}
use Rattle.swc_ecma_codegen_emit.proofs.lits.BigIntEmitAt.emit_at.Goals as goal

pub returns : goal.returns
returns g c = record { items = takes_made (g.S.SourceMapper.lines c.args.e.now.cm.now) (maps_in g.C.Comments.maps c.args.e.now.comments) _ _ _ _ _ _ _ c.big_int_lit.ensures.items c.big_int_lit.ensures.level (search rules) c.keep.ensures }
