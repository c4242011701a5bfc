use Rattle.swc_ecma_codegen_emit.proofs.Standings.{keeps_levels}
use Rattle.swc_ecma_codegen_emit.proofs.emitter.Emitter.first_child_after.Goals as goal

pub returns-clause-level : goal.returns-clause-level
returns-clause-level g c = keeps_levels _ _ _ _ c.child_comments.ensures.items (keeps_levels _ _ _ _ c.emit_at.ensures.items c.opening.ensures.level)
