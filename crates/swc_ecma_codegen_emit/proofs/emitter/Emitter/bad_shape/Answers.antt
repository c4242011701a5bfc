use Rattle.swc_ecma_codegen_grammar.specs.Comments.{maps_in}
use Rattle.std.proofs.Common.{rules, refl}
use Rattle.swc_ecma_codegen_emit.specs.Templates.{bad_shape}
use Rattle.swc_ecma_codegen_emit.proofs.Standings.{makes_here, on_ok}
use Rattle.swc_ecma_codegen_emit.proofs.emitter.Emitter.bad_shape.Goals as goal

pub returns : goal.returns
unfolding bad_shape
returns g c = record { items = makes_here (g.S.SourceMapper.lines c.args.self.now.cm.now) (maps_in g.C.Comments.maps c.args.self.now.comments) _ _ _ _ _ _ c.refuse.ensures.items (on_ok _ c.refuse.result refl) (search rules) c.keep.ensures }
