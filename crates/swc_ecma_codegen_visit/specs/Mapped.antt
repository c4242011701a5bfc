-- A node over its names and what its links hold as something else, whatever it is.
use Rattle.swc_ecma_codegen_tree.specs.declared.idents.Ident.{Ident}
use Rattle.swc_ecma_codegen_tree.specs.declared.links.AnyNode.{AnyNode, AnyNode-F, out-AnyNode, roll-AnyNode}
use Rattle.swc_ecma_codegen_tree.specs.declared.links.AnyNode.TheOpen as nodes
use Rattle.swc_ecma_codegen_visit.specs.MappedExprs.{map_expr, map_member_expr}
use Rattle.swc_ecma_codegen_visit.specs.MappedStmts.{map_stmt}
use Rattle.swc_ecma_codegen_visit.specs.MappedParts.{map_expr_part, map_stmt_part, map_jsx_part, map_ts_part}

abbrev pub map_layer : {X : Type 0} → (Ident → Ident) → (X → X) → AnyNode-F X → AnyNode-F X
map_layer g f (nodes.Expr n) = nodes.Expr (map_expr g f n)
map_layer g f (nodes.Stmt n) = nodes.Stmt (map_stmt g f n)
map_layer g f (nodes.MemberExpr n) = nodes.MemberExpr (map_member_expr g f n)
map_layer g f (nodes.ExprPart n) = nodes.ExprPart (map_expr_part g f n)
map_layer g f (nodes.StmtPart n) = nodes.StmtPart (map_stmt_part g f n)
map_layer g f (nodes.JSXPart n) = nodes.JSXPart (map_jsx_part g f n)
map_layer g f (nodes.TsPart n) = nodes.TsPart (map_ts_part g f n)

abbrev pub map_node : (Ident → Ident) → (AnyNode → AnyNode) → AnyNode → AnyNode
map_node g f n = roll-AnyNode (map_layer g f (out-AnyNode n))
