-- The blanks before whole nodes, by their sorts.
use Rattle.std.proofs.Common.{◌≡◌, Bool, refl, sym, ◌∙◌, ap}
use Rattle.swc_ecma_codegen_tree.specs.declared.links.AnyNode.{AnyNode, AnyNode-F, map-AnyNode, roll-AnyNode, out-AnyNode}
use Rattle.swc_ecma_codegen_tree.specs.declared.links.AnyNode.TheOpen as nodes
use Rattle.swc_ecma_codegen_tree.specs.declared.links.AnyNode.TheVariants as whole
use Rattle.swc_ecma_codegen_tree.specs.declared.links.AnyNode.TheViews.{roll-out-AnyNode}
use Rattle.swc_ecma_codegen_tree.specs.declared.exprs.Expr.{Expr}
use Rattle.swc_ecma_codegen_tree.specs.declared.exprs.Expr.TheVariants as exprs
use Rattle.swc_ecma_codegen_tree.specs.declared.links.AnyNode.TheFolds.{para-roll-AnyNode}
use Rattle.swc_ecma_codegen_common.specs.declared.operators.BinaryOp.{BinaryOp}
use Rattle.swc_ecma_codegen_emit.specs.Operands.{any_kind, expr_space, update_space, node_space, any_space}

-- one layer of a node, with what its links hold and what is known of that
known_of : AnyNode-F AnyNode → AnyNode-F (AnyNode × (BinaryOp → Bool))
known_of = map-AnyNode AnyNode (AnyNode × (BinaryOp → Bool)) (λ y. (y, any_space y))

expr_known : (n : Expr AnyNode) → node_space (λ p. any_kind p.0) (λ p. p.1) (known_of (nodes.Expr n)) ≡ expr_space any_kind any_space n
unfolding node_space known_of expr_space update_space
expr_known (exprs.Update n) = refl
expr_known n = refl

layer_known : (n : AnyNode-F AnyNode) → node_space (λ p. any_kind p.0) (λ p. p.1) (known_of n) ≡ node_space any_kind any_space n
unfolding node_space known_of
layer_known (nodes.Expr n) = expr_known n
layer_known n = refl

space_of_layer : (n : AnyNode-F AnyNode) → any_space (roll-AnyNode n) ≡ node_space any_kind any_space n
unfolding any_space known_of
space_of_layer n = para-roll-AnyNode (BinaryOp → Bool) (node_space (λ p. any_kind p.0) (λ p. p.1)) n ∙ layer_known n

at_op : {f g : BinaryOp → Bool} → f ≡ g → (op : BinaryOp) → f op ≡ g op
at_op e op = ap (λ h. h op) e

pub any_space_of : (n : AnyNode) (op : BinaryOp) → any_space n op ≡ node_space any_kind any_space (out-AnyNode n) op
any_space_of n op = at_op (ap any_space (sym (roll-out-AnyNode n)) ∙ space_of_layer (out-AnyNode n)) op

pub any_space_expr : (n : Expr AnyNode) (op : BinaryOp) → any_space (whole.Expr n) op ≡ expr_space any_kind any_space n op
unfolding node_space
any_space_expr n op = at_op (ap any_space (sym (whole.rolls-Expr n)) ∙ space_of_layer (nodes.Expr n)) op
