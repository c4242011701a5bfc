-- `left * right`, and other operators between two expressions.
use Rattle.std.specs.Prelude.{◌≡◌, ◌⊎◌, Some}
use Rattle.swc_ecma_codegen_common.specs.declared.operators.BinaryOp.{BinaryOp}
use Rattle.swc_ecma_codegen_common.specs.declared.operators.BinaryOp.TheVariants.{Mul}
use Rattle.swc_ecma_codegen_tree.specs.declared.links.AnyNode.{AnyNode}
use Rattle.swc_ecma_codegen_tree.specs.declared.exprs.BinExpr.{BinExpr}
use Rattle.swc_ecma_codegen_tree.specs.declared.exprs.Expr.{Expr}
use Rattle.swc_ecma_codegen_tree.specs.declared.exprs.Expr.TheVariants as exprs
use Rattle.swc_ecma_codegen_syntax.specs.Parameters.{of_script}
use Rattle.swc_ecma_codegen_syntax.specs.declared.nonterminals.Nonterminal.TheVariants.{Expression}
use Rattle.swc_ecma_codegen_parentheses.specs.Roots.{SameExprTree, expr_in}

-- an operator between these two, with no parentheses round them
pub record IsOperationOf (op : BinaryOp) (left right n : Expr AnyNode) : Type 0 where
  pub bin : BinExpr AnyNode
  pub is_bin : n ≡ exprs.Bin bin
  pub has_op : bin.op ≡ op
  pub has_left : expr_in bin.left.node.value ≡ Some left
  pub has_right : expr_in bin.right.node.value ≡ Some right

-- their product, or the same tree but for parentheses
abbrev pub OfProduct : Expr AnyNode → Expr AnyNode → Expr AnyNode → Type 0
OfProduct left right r = (n : Expr AnyNode) × (IsOperationOf Mul left right n × ((n ≡ r) ⊎ SameExprTree Expression of_script n r))
