-- One map of a node behind another is one map, whatever it is.
use Rattle.std.proofs.Common.{◌≡◌, ap}
use Rattle.swc_ecma_codegen_tree.specs.declared.idents.Ident.{Ident}
use Rattle.swc_ecma_codegen_tree.specs.declared.links.AnyNode.{AnyNode-F}
use Rattle.swc_ecma_codegen_tree.specs.declared.links.AnyNode.TheOpen as nodes
use Rattle.swc_ecma_codegen_visit.specs.Mapped.{map_layer}
use Rattle.swc_ecma_codegen_visit.proofs.FusedExprs.{fused_expr, fused_member_expr}
use Rattle.swc_ecma_codegen_visit.proofs.FusedStmts.{fused_stmt}
use Rattle.swc_ecma_codegen_visit.proofs.FusedParts.{fused_expr_part, fused_stmt_part, fused_jsx_part, fused_ts_part}

pub layer_fused : {X : Type 0} (g h : Ident → Ident) (f k : X → X) (n : AnyNode-F X)
    → map_layer g f (map_layer h k n) ≡ map_layer (λ x. g (h x)) (λ x. f (k x)) n
layer_fused g h f k (nodes.Expr n) = ap nodes.Expr (fused_expr g h f k n)
layer_fused g h f k (nodes.Stmt n) = ap nodes.Stmt (fused_stmt g h f k n)
layer_fused g h f k (nodes.MemberExpr n) = ap nodes.MemberExpr (fused_member_expr g h f k n)
layer_fused g h f k (nodes.ExprPart n) = ap nodes.ExprPart (fused_expr_part g h f k n)
layer_fused g h f k (nodes.StmtPart n) = ap nodes.StmtPart (fused_stmt_part g h f k n)
layer_fused g h f k (nodes.JSXPart n) = ap nodes.JSXPart (fused_jsx_part g h f k n)
layer_fused g h f k (nodes.TsPart n) = ap nodes.TsPart (fused_ts_part g h f k n)
