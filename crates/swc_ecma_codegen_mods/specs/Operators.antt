-- A node with strict operators. ECMA-262, section 13.11.
use Rattle.swc_ecma_codegen_common.specs.declared.operators.BinaryOp.{BinaryOp}
use Rattle.swc_ecma_codegen_common.specs.declared.operators.BinaryOp.TheVariants as binary_ops
use Rattle.swc_ecma_codegen_tree.specs.declared.exprs.Expr.TheVariants as exprs
use Rattle.swc_ecma_codegen_tree.specs.declared.links.AnyNode.{AnyNode, AnyNode-F, roll-AnyNode}
use Rattle.swc_ecma_codegen_tree.specs.declared.links.AnyNode.TheOpen as nodes

-- `===` for `==`, and `!==` for `!=`
abbrev pub strict_operator : BinaryOp → BinaryOp
strict_operator binary_ops.EqEq = binary_ops.EqEqEq
strict_operator binary_ops.NotEq = binary_ops.NotEqEq
strict_operator op = op

-- a node with the strict operator
unfoldable pub strict : AnyNode-F AnyNode → AnyNode
strict (nodes.Expr (exprs.Bin n)) = roll-AnyNode (nodes.Expr (exprs.Bin (record n { op = strict_operator n.op })))
strict n = roll-AnyNode n
