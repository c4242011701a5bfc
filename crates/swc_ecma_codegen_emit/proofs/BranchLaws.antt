-- Whether a whole node is a block.
use Rattle.std.proofs.Common.{◌≡◌, refl, sym, ◌∙◌, ap}
use Rattle.swc_ecma_codegen_tree.specs.declared.links.AnyNode.{AnyNode, out-AnyNode}
use Rattle.swc_ecma_codegen_tree.specs.declared.links.AnyNode.TheOpen as nodes
use Rattle.swc_ecma_codegen_tree.specs.declared.links.AnyNode.TheVariants as whole
use Rattle.swc_ecma_codegen_tree.specs.declared.links.AnyNode.TheViews.{out-roll-AnyNode}
use Rattle.swc_ecma_codegen_tree.specs.declared.stmts.Stmt.{Stmt}
use Rattle.swc_ecma_codegen_emit.specs.Branches.{is_block, node_block, any_block}

pub any_block_of : (n : AnyNode) → any_block n ≡ node_block (out-AnyNode n)
unfolding any_block
any_block_of n = refl

pub any_block_stmt : (n : Stmt AnyNode) → any_block (whole.Stmt n) ≡ is_block n
unfolding any_block node_block
any_block_stmt n = ap (λ z. node_block (out-AnyNode z)) (sym (whole.rolls-Stmt n)) ∙ ap node_block (out-roll-AnyNode (nodes.Stmt n))
