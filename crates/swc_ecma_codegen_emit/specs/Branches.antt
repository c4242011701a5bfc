-- What an `if` asks of its first statement.
use Rattle.std.specs.Prelude.{Bool, true, false}
use Rattle.swc_ecma_codegen_tree.specs.declared.links.AnyNode.{AnyNode, AnyNode-F, out-AnyNode}
use Rattle.swc_ecma_codegen_tree.specs.declared.links.AnyNode.TheOpen as nodes
use Rattle.swc_ecma_codegen_tree.specs.declared.stmts.Stmt.{Stmt}
use Rattle.swc_ecma_codegen_tree.specs.declared.stmts.Stmt.TheVariants as stmts

-- `{ a; }`: a blank stands between it and `else`
unfoldable pub is_block : {X : Type 0} → Stmt X → Bool
is_block (stmts.Block n) = true
is_block n = false

unfoldable pub node_block : {X : Type 0} → AnyNode-F X → Bool
node_block (nodes.Stmt n) = is_block n
node_block n = false

unfoldable pub any_block : AnyNode → Bool
any_block n = node_block (out-AnyNode n)
