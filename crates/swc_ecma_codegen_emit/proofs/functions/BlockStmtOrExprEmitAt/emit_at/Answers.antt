use Rattle.swc_ecma_codegen_emit.proofs.Standings.{keeps_levels}
use Rattle.swc_ecma_codegen_emit.proofs.functions.BlockStmtOrExprEmitAt.emit_at.Goals as goal

pub shallower-requires : goal.shallower-requires
shallower-requires g c = keeps_levels 1 _ _ _ c.emit_at-in-Expr.ensures.items c.deeper.ensures.level
