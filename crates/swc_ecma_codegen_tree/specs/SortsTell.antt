-- A sum tells which node a link holds.
use Rattle.std.proofs.Common.{◌≡◌, refl, ap, sym, ◌∙◌}
use Rattle.swc_ecma_codegen_tree.specs.declared.links.AnyNode.{AnyNode, AnyNode-F, out-AnyNode, roll-AnyNode, roll-out-AnyNode}
use Rattle.swc_ecma_codegen_tree.specs.declared.links.AnyNode.TheOpen as nodes
use Rattle.swc_ecma_codegen_tree.specs.declared.sums.Sorted.{Sorted}
use Rattle.swc_ecma_codegen_tree.specs.declared.sums.Sorted.TheVariants as sorted
use Rattle.swc_ecma_codegen_tree.specs.declared.parts.ExprPart.{ExprPart}
use Rattle.swc_ecma_codegen_tree.specs.declared.parts.StmtPart.{StmtPart}
use Rattle.swc_ecma_codegen_tree.specs.declared.parts.JSXPart.{JSXPart}
use Rattle.swc_ecma_codegen_tree.specs.declared.parts.TsPart.{TsPart}
use Rattle.swc_ecma_codegen_tree.specs.declared.exprs.Expr.{Expr}
use Rattle.swc_ecma_codegen_tree.specs.declared.stmts.Stmt.{Stmt}
use Rattle.swc_ecma_codegen_tree.specs.declared.exprs.MemberExpr.{MemberExpr}
use Rattle.swc_ecma_codegen_tree.specs.LinkTargets.{sorted_at, sorted_in}

-- the node of a sum
node_of : Sorted (Expr AnyNode) (Stmt AnyNode) (MemberExpr AnyNode) (ExprPart AnyNode) (StmtPart AnyNode) (JSXPart AnyNode) (TsPart AnyNode) → AnyNode-F AnyNode
node_of (sorted.Expr n) = nodes.Expr n
node_of (sorted.Stmt n) = nodes.Stmt n
node_of (sorted.MemberExpr n) = nodes.MemberExpr n
node_of (sorted.ExprPart n) = nodes.ExprPart n
node_of (sorted.StmtPart n) = nodes.StmtPart n
node_of (sorted.JSXPart n) = nodes.JSXPart n
node_of (sorted.TsPart n) = nodes.TsPart n

node_of_sorted : (n : AnyNode-F AnyNode) → node_of (sorted_at n) ≡ n
unfolding node_of
node_of_sorted (nodes.Expr n) = refl
node_of_sorted (nodes.Stmt n) = refl
node_of_sorted (nodes.MemberExpr n) = refl
node_of_sorted (nodes.ExprPart n) = refl
node_of_sorted (nodes.StmtPart n) = refl
node_of_sorted (nodes.JSXPart n) = refl
node_of_sorted (nodes.TsPart n) = refl

pub sorts_tell : (a b : AnyNode) → sorted_in a ≡ sorted_in b → a ≡ b
sorts_tell a b same = sym (roll-out-AnyNode a) ∙ ap roll-AnyNode (sym (node_of_sorted (out-AnyNode a)) ∙ ap node_of same ∙ node_of_sorted (out-AnyNode b)) ∙ roll-out-AnyNode b
