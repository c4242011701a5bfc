use Rattle.swc_ecma_codegen_emit.proofs.Standings.{keeps_levels}
use Rattle.swc_ecma_codegen_emit.proofs.mapped_types.TsMappedTypeEmitAt.emit_at.Goals as goal

pub shallower-requires : goal.shallower-requires
shallower-requires g c = keeps_levels 1 _ _ _ c.line-2.ensures.items (keeps_levels 1 _ _ _ c.mapped_parts.ensures.items c.deeper.ensures.level)
