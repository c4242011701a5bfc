-- Whether a node's text begins with a character of a name. `f` says it of what a link holds.
use Rattle.std.specs.Prelude.{if◌then◌else◌, Bool, true, false, List, [], ◌∷◌, Option, Some, None}
use Rattle.swc_ecma_codegen_tree.specs.declared.links.AnyNode.{AnyNode, AnyNode-F, fold-AnyNode}
use Rattle.swc_ecma_codegen_tree.specs.declared.links.AnyNode.TheOpen as nodes
use Rattle.swc_ecma_codegen_tree.specs.declared.parts.ExprPart.{ExprPart}
use Rattle.swc_ecma_codegen_tree.specs.declared.parts.ExprPart.TheVariants as expr_parts
use Rattle.swc_ecma_codegen_tree.specs.declared.parts.StmtPart.{StmtPart}
use Rattle.swc_ecma_codegen_tree.specs.declared.parts.StmtPart.TheVariants as stmt_parts
use Rattle.swc_ecma_codegen_tree.specs.Links.{ExprBox, PatBox}
use Rattle.swc_ecma_codegen_common.specs.declared.operators.UnaryOp.{UnaryOp}
use Rattle.swc_ecma_codegen_common.specs.declared.operators.UnaryOp.TheVariants as unary
use Rattle.swc_ecma_codegen_common.specs.declared.positions.Span.{Span}
use Rattle.swc_ecma_codegen_tree.specs.declared.exprs.ArrowExpr.{ArrowExpr}
use Rattle.swc_ecma_codegen_tree.specs.declared.exprs.Callee.{Callee}
use Rattle.swc_ecma_codegen_tree.specs.declared.exprs.Callee.TheVariants as callees
use Rattle.swc_ecma_codegen_tree.specs.declared.exprs.Expr.{Expr}
use Rattle.swc_ecma_codegen_tree.specs.declared.exprs.Expr.TheVariants as exprs
use Rattle.swc_ecma_codegen_tree.specs.declared.exprs.ExprOrSpread.{ExprOrSpread}
use Rattle.swc_ecma_codegen_tree.specs.declared.exprs.OptChainBase.{OptChainBase}
use Rattle.swc_ecma_codegen_tree.specs.declared.exprs.OptChainBase.TheVariants as chain_bases
use Rattle.swc_ecma_codegen_tree.specs.declared.exprs.PropName.{PropName}
use Rattle.swc_ecma_codegen_tree.specs.declared.exprs.PropName.TheVariants as prop_names
use Rattle.swc_ecma_codegen_tree.specs.declared.exprs.UpdateExpr.{UpdateExpr}
use Rattle.swc_ecma_codegen_tree.specs.declared.lits.Lit.{Lit}
use Rattle.swc_ecma_codegen_tree.specs.declared.lits.Lit.TheVariants as lits
use Rattle.swc_ecma_codegen_tree.specs.declared.pats.AssignTarget.{AssignTarget}
use Rattle.swc_ecma_codegen_tree.specs.declared.pats.AssignTarget.TheVariants as targets
use Rattle.swc_ecma_codegen_tree.specs.declared.pats.Pat.{Pat}
use Rattle.swc_ecma_codegen_tree.specs.declared.pats.Pat.TheVariants as pats
use Rattle.swc_ecma_codegen_tree.specs.declared.pats.SimpleAssignTarget.{SimpleAssignTarget}
use Rattle.swc_ecma_codegen_tree.specs.declared.pats.SimpleAssignTarget.TheVariants as simple_targets
use Rattle.swc_ecma_codegen_tree.specs.declared.stmts.Stmt.{Stmt}
use Rattle.swc_ecma_codegen_tree.specs.declared.stmts.Stmt.TheVariants as stmts

-- an operator is a word
unfoldable pub is_word_op : UnaryOp → Bool
is_word_op unary.Minus = false
is_word_op unary.Plus = false
is_word_op unary.Bang = false
is_word_op unary.Tilde = false
is_word_op unary.TypeOf = true
is_word_op unary.Void = true
is_word_op unary.Delete = true

-- `true`, `null`, `1` and `1n` do, `"a"` and `/a/` don't
unfoldable pub lit_starts : Lit → Bool
lit_starts (lits.Bool n) = true
lit_starts (lits.Null n) = true
lit_starts (lits.Num n) = true
lit_starts (lits.BigInt n) = true
lit_starts n = false

-- `++a` begins with its operator, `a++` as `a` does
unfoldable pub update_starts : {X : Type 0} → (X → Bool) → UpdateExpr X → Bool
update_starts f n = if n.prefix then false else f n.arg.node.value

-- a sequence begins as its first expression does
unfoldable pub first_starts : {X : Type 0} → (X → Bool) → List (ExprBox X) → Bool
first_starts f [] = false
first_starts f (x ∷ xs) = f x.node.value

-- parameters begin as the only one does, `a` of `a => b`; several begin with a parenthesis
unfoldable pub only_starts : {X : Type 0} → (X → Bool) → List (PatBox X) → Bool
only_starts f (x ∷ []) = f x.node.value
only_starts f xs = false

-- `async a => b` begins with a word, `a => b` as its parameters do
unfoldable pub arrow_starts : {X : Type 0} → (X → Bool) → ArrowExpr X → Bool
arrow_starts f n = if n.is_async then true else only_starts f n.params.items

-- `super(a)` and `import(a)` begin with a word, `f(a)` as `f` does
unfoldable pub callee_starts : {X : Type 0} → (X → Bool) → Callee X → Bool
callee_starts f (callees.Super n) = true
callee_starts f (callees.Import n) = true
callee_starts f (callees.Expr n) = f n.node.value

-- `a?.b` begins as `a.b` does, `a?.(b)` as `a(b)` does
unfoldable pub chain_starts : {X : Type 0} → (X → Bool) → OptChainBase X → Bool
chain_starts f (chain_bases.Member n) = f n.node.value
chain_starts f (chain_bases.Call n) = f n.node.value

unfoldable pub expr_starts : {X : Type 0} → (X → Bool) → Expr X → Bool
expr_starts f (exprs.This n) = true
expr_starts f (exprs.Fn n) = true
expr_starts f (exprs.Unary n) = is_word_op n.op
expr_starts f (exprs.Update n) = update_starts f n
expr_starts f (exprs.Bin n) = f n.left.node.value
expr_starts f (exprs.Assign n) = f n.left.node.value
expr_starts f (exprs.Member n) = f n.obj.node.value
expr_starts f (exprs.SuperProp n) = true
expr_starts f (exprs.Cond n) = f n.test.node.value
expr_starts f (exprs.Call n) = callee_starts f n.callee
expr_starts f (exprs.New n) = true
expr_starts f (exprs.Seq n) = first_starts f n.exprs.items
expr_starts f (exprs.Ident n) = true
expr_starts f (exprs.Lit n) = lit_starts n
expr_starts f (exprs.TaggedTpl n) = f n.tag.node.value
expr_starts f (exprs.Arrow n) = arrow_starts f n.value
expr_starts f (exprs.Class n) = true
expr_starts f (exprs.Yield n) = true
expr_starts f (exprs.MetaProp n) = true
expr_starts f (exprs.Await n) = true
expr_starts f (exprs.JSXMember n) = true
expr_starts f (exprs.JSXNamespacedName n) = true
expr_starts f (exprs.TsConstAssertion n) = f n.expr.node.value
expr_starts f (exprs.TsNonNull n) = f n.expr.node.value
expr_starts f (exprs.TsAs n) = f n.expr.node.value
expr_starts f (exprs.TsInstantiation n) = f n.expr.node.value
expr_starts f (exprs.TsSatisfies n) = f n.expr.node.value
expr_starts f (exprs.OptChain n) = chain_starts f n.base
expr_starts f (exprs.Invalid n) = true
expr_starts f n = false

-- `...a` begins with a sign, where b is what `a` does
unfoldable pub spread_starts : Option Span → Bool → Bool
spread_starts (Some dots) b = false
spread_starts None b = b

-- an argument of a call: `a` begins as itself, `...a` with a sign
unfoldable pub item_starts : {X : Type 0} → (X → Bool) → ExprOrSpread X → Bool
item_starts f n = spread_starts n.spread (f n.expr.node.value)

-- `a`, `1` and `1n` do, `"a"` and `[a]` don't
unfoldable pub prop_name_starts : {X : Type 0} → PropName X → Bool
prop_name_starts (prop_names.Str n) = false
prop_name_starts (prop_names.Computed n) = false
prop_name_starts n = true

-- `a = 1` begins as `a` does, `[a]`, `{ a }` and `...a` with a sign
unfoldable pub pat_starts : {X : Type 0} → (X → Bool) → Pat X → Bool
pat_starts f (pats.Ident n) = true
pat_starts f (pats.Assign n) = f n.left.node.value
pat_starts f (pats.Invalid n) = true
pat_starts f (pats.Expr n) = f n.node.value
pat_starts f n = false

unfoldable pub simple_target_starts : {X : Type 0} → (X → Bool) → SimpleAssignTarget X → Bool
simple_target_starts f (simple_targets.Ident n) = true
simple_target_starts f (simple_targets.Member n) = f n.obj.node.value
simple_target_starts f (simple_targets.SuperProp n) = true
simple_target_starts f (simple_targets.Paren n) = false
simple_target_starts f (simple_targets.OptChain n) = chain_starts f n.base
simple_target_starts f (simple_targets.TsAs n) = f n.expr.node.value
simple_target_starts f (simple_targets.TsSatisfies n) = f n.expr.node.value
simple_target_starts f (simple_targets.TsNonNull n) = f n.expr.node.value
simple_target_starts f (simple_targets.TsTypeAssertion n) = true
simple_target_starts f (simple_targets.TsInstantiation n) = f n.expr.node.value
simple_target_starts f (simple_targets.Invalid n) = false

-- `a` of `a = b` begins as itself, the pattern `[a]` of `[a] = b` with a sign
unfoldable pub target_starts : {X : Type 0} → (X → Bool) → AssignTarget X → Bool
target_starts f (targets.Simple n) = simple_target_starts f n
target_starts f (targets.Pat n) = false

-- `{ a; }` and `;` begin with a sign, `a;` as `a` does, the others with a word
unfoldable pub stmt_starts : {X : Type 0} → (X → Bool) → Stmt X → Bool
stmt_starts f (stmts.Block n) = false
stmt_starts f (stmts.Empty n) = false
stmt_starts f (stmts.Expr n) = f n.expr.node.value
stmt_starts f n = true

-- a part of an expression that a link holds
unfoldable pub expr_part_starts : {X : Type 0} → (X → Bool) → ExprPart X → Bool
expr_part_starts f (expr_parts.Pat n) = pat_starts f n
expr_part_starts f (expr_parts.PropName n) = prop_name_starts n
expr_part_starts f (expr_parts.OptCall n) = f n.callee.node.value
expr_part_starts f (expr_parts.AssignTarget n) = target_starts f n
expr_part_starts f n = false

-- a part of a statement that a link holds
unfoldable pub stmt_part_starts : {X : Type 0} → StmtPart X → Bool
stmt_part_starts (stmt_parts.Decl n) = true
stmt_part_starts n = false

-- one node, where f says it of what its links hold
unfoldable pub node_starts : {X : Type 0} → (X → Bool) → AnyNode-F X → Bool
node_starts f (nodes.Expr n) = expr_starts f n
node_starts f (nodes.Stmt n) = stmt_starts f n
node_starts f (nodes.MemberExpr n) = f n.obj.node.value
node_starts f (nodes.ExprPart n) = expr_part_starts f n
node_starts f (nodes.StmtPart n) = stmt_part_starts n
node_starts f n = false

-- a whole node
unfoldable pub any_starts : AnyNode → Bool
any_starts = fold-AnyNode Bool (node_starts (λ known. known))
