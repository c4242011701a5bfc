-- What is written of a whole tree.
use Rattle.swc_ecma_codegen_tree.specs.declared.links.AnyNode.{AnyNode, AnyNode-F}
use Rattle.swc_ecma_codegen_tree.specs.declared.links.AnyNode.TheOpen as nodes
use Rattle.swc_ecma_codegen_tree.specs.declared.links.AnyNode.TheFolds.{para-AnyNode}
use Rattle.swc_ecma_codegen_tokens.specs.Run.{Part}
use Rattle.swc_ecma_codegen_emit.specs.Places.{Place, context_of}
use Rattle.swc_ecma_codegen_emit.specs.Answers.{Answers, any_answers}
use Rattle.swc_ecma_codegen_emit.specs.AnyExpr.{placed_expr}
use Rattle.swc_ecma_codegen_emit.specs.Exprs.{member_at}
use Rattle.swc_ecma_codegen_emit.specs.Jsx.{jsx_part}
use Rattle.swc_ecma_codegen_emit.specs.Parts.{expr_part, stmt_part, ts_part}
use Rattle.swc_ecma_codegen_emit.specs.Stmts.{stmt}

-- one node, from what is known of what its links hold
unfoldable pub node_items : {X : Type 0} → (X → Answers) → (X → Place → Part) → AnyNode-F X → Place → Part
node_items asks items (nodes.Expr n) place = placed_expr asks items n (context_of place)
node_items asks items (nodes.Stmt n) place = stmt asks items n
node_items asks items (nodes.MemberExpr n) place = member_at items n (context_of place)
node_items asks items (nodes.ExprPart n) place = expr_part asks items n place
node_items asks items (nodes.StmtPart n) place = stmt_part asks items n place
node_items asks items (nodes.JSXPart n) place = jsx_part asks items n place
node_items asks items (nodes.TsPart n) place = ts_part asks items n place

-- a whole node
unfoldable pub any_items : AnyNode → Place → Part
any_items = para-AnyNode (Place → Part) (node_items (λ p. any_answers p.0) (λ p. p.1))
