-- The operators of whole nodes, by their sorts.
use Rattle.std.proofs.Common.{◌≡◌, refl, sym, ◌∙◌, ap}
use Rattle.swc_ecma_codegen_tree.specs.declared.links.AnyNode.{AnyNode, AnyNode-F, map-AnyNode, roll-AnyNode, out-AnyNode}
use Rattle.swc_ecma_codegen_tree.specs.declared.links.AnyNode.TheOpen as nodes
use Rattle.swc_ecma_codegen_tree.specs.declared.links.AnyNode.TheVariants as whole
use Rattle.swc_ecma_codegen_tree.specs.declared.links.AnyNode.TheViews.{roll-out-AnyNode}
use Rattle.swc_ecma_codegen_tree.specs.declared.exprs.Expr.{Expr}
use Rattle.swc_ecma_codegen_tree.specs.declared.exprs.Expr.TheVariants as exprs
use Rattle.swc_ecma_codegen_tree.specs.declared.links.AnyNode.TheFolds.{fold-roll-AnyNode}
use Rattle.swc_ecma_codegen_emit.specs.declared.operands.OperandKind.{OperandKind}
use Rattle.swc_ecma_codegen_emit.specs.Operands.{expr_kind, update_kind, node_kind, any_kind}

known_of : AnyNode-F AnyNode → AnyNode-F OperandKind
known_of = map-AnyNode AnyNode OperandKind any_kind

expr_known : (n : Expr AnyNode) → node_kind (λ known. known) (known_of (nodes.Expr n)) ≡ expr_kind any_kind n
unfolding node_kind known_of expr_kind update_kind
expr_known (exprs.Update n) = refl
expr_known n = refl

layer_known : (n : AnyNode-F AnyNode) → node_kind (λ known. known) (known_of n) ≡ node_kind any_kind n
unfolding node_kind known_of
layer_known (nodes.Expr n) = expr_known n
layer_known n = refl

kind_of_layer : (n : AnyNode-F AnyNode) → any_kind (roll-AnyNode n) ≡ node_kind any_kind n
unfolding any_kind known_of
kind_of_layer n = fold-roll-AnyNode OperandKind (node_kind (λ known. known)) n ∙ layer_known n

pub any_kind_of : (n : AnyNode) → any_kind n ≡ node_kind any_kind (out-AnyNode n)
any_kind_of n = ap any_kind (sym (roll-out-AnyNode n)) ∙ kind_of_layer (out-AnyNode n)

pub any_kind_expr : (n : Expr AnyNode) → any_kind (whole.Expr n) ≡ expr_kind any_kind n
unfolding node_kind
any_kind_expr n = ap any_kind (sym (whole.rolls-Expr n)) ∙ kind_of_layer (nodes.Expr n)
