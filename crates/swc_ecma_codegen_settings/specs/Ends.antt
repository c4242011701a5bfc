-- Whether a node's text ends with a character of a name. `f` says it of what a link holds.
use Rattle.std.specs.Prelude.{Bool, true, false, List, length, ◌-◌, Option, Some, None}
use Rattle.std.specs.List.{slice_get}
use Rattle.swc_ecma_codegen_tree.specs.declared.links.AnyNode.{AnyNode, AnyNode-F, fold-AnyNode}
use Rattle.swc_ecma_codegen_tree.specs.declared.links.AnyNode.TheOpen as nodes
use Rattle.swc_ecma_codegen_tree.specs.declared.parts.ExprPart.{ExprPart}
use Rattle.swc_ecma_codegen_tree.specs.declared.parts.ExprPart.TheVariants as expr_parts
use Rattle.swc_ecma_codegen_tree.specs.declared.parts.StmtPart.{StmtPart}
use Rattle.swc_ecma_codegen_tree.specs.declared.parts.StmtPart.TheVariants as stmt_parts
use Rattle.swc_ecma_codegen_tree.specs.Links.{ExprBox}
use Rattle.swc_ecma_codegen_tree.specs.declared.decls.VarDeclarator.{VarDeclarator}
use Rattle.swc_ecma_codegen_tree.specs.declared.exprs.Expr.{Expr}
use Rattle.swc_ecma_codegen_tree.specs.declared.exprs.Expr.TheVariants as exprs
use Rattle.swc_ecma_codegen_tree.specs.declared.exprs.MemberProp.{MemberProp}
use Rattle.swc_ecma_codegen_tree.specs.declared.exprs.MemberProp.TheVariants as member_props
use Rattle.swc_ecma_codegen_tree.specs.declared.lits.Lit.{Lit}
use Rattle.swc_ecma_codegen_tree.specs.declared.lits.Lit.TheVariants as lits
use Rattle.swc_ecma_codegen_tree.specs.declared.pats.Pat.{Pat}
use Rattle.swc_ecma_codegen_tree.specs.declared.pats.Pat.TheVariants as pats
use Rattle.swc_ecma_codegen_tree.specs.declared.stmts.ForHead.{ForHead}
use Rattle.swc_ecma_codegen_tree.specs.declared.stmts.ForHead.TheVariants as heads

-- `a.b` and `a.#b` do, `a[b]` doesn't
unfoldable pub prop_ends : {X : Type 0} → MemberProp X → Bool
prop_ends (member_props.Ident n) = true
prop_ends (member_props.PrivateName n) = true
prop_ends (member_props.Computed n) = false

-- `"a"` doesn't, the others are taken to: `1`, and `/a/` too
unfoldable pub lit_ends : Lit → Bool
lit_ends (lits.Str n) = false
lit_ends n = true

-- `a.b` ends as its property does; all but `[a]`, `{ a }`, `"a"` and `(a)` of the others are taken to
unfoldable pub expr_ends : {X : Type 0} → (X → Bool) → Expr X → Bool
expr_ends f (exprs.Array n) = false
expr_ends f (exprs.Object n) = false
expr_ends f (exprs.Member n) = prop_ends n.prop
expr_ends f (exprs.Lit n) = lit_ends n
expr_ends f (exprs.Paren n) = false
expr_ends f n = true

-- `...a` ends as `a` does, `a = 1` as `1` does; `[a]` and `{ a }` end with a bracket
unfoldable pub pat_ends : {X : Type 0} → (X → Bool) → Pat X → Bool
pat_ends f (pats.Array n) = false
pat_ends f (pats.Rest n) = f n.arg.node.value
pat_ends f (pats.Object n) = false
pat_ends f (pats.Assign n) = f n.right.node.value
pat_ends f (pats.Expr n) = f n.node.value
pat_ends f n = true

-- `= 1` of `a = 1` ends as `1` does; where there is none, b is what `a` does
unfoldable pub init_ends : {X : Type 0} → (X → Bool) → Bool → Option (ExprBox X) → Bool
init_ends f b (Some x) = f x.node.value
init_ends f b None = b

-- `a = 1` ends as `1` does, `a` as itself
unfoldable pub declarator_ends : {X : Type 0} → (X → Bool) → VarDeclarator X → Bool
declarator_ends f n = init_ends f (pat_ends f n.name) n.init

unfoldable pub last_ends : {X : Type 0} → (X → Bool) → Option (VarDeclarator X) → Bool
last_ends f (Some x) = declarator_ends f x
last_ends f None = true

-- `a = 1, b` ends as the last does
unfoldable pub declarators_end : {X : Type 0} → (X → Bool) → List (VarDeclarator X) → Bool
declarators_end f xs = last_ends f (slice_get xs (length xs - 1))

-- `let a` of `for (let a of b) c;` ends as itself, the pattern `a` of `for (a of b) c;` too
unfoldable pub head_ends : {X : Type 0} → (X → Bool) → ForHead X → Bool
head_ends f (heads.VarDecl n) = f n.node.value
head_ends f (heads.UsingDecl n) = declarators_end f n.value.decls.items
head_ends f (heads.Pat n) = f n.node.value

-- a part of an expression that a link holds
unfoldable pub expr_part_ends : {X : Type 0} → (X → Bool) → ExprPart X → Bool
expr_part_ends f (expr_parts.Pat n) = pat_ends f n
expr_part_ends f n = false

-- a part of a statement that a link holds
unfoldable pub stmt_part_ends : {X : Type 0} → (X → Bool) → StmtPart X → Bool
stmt_part_ends f (stmt_parts.VarDecl n) = declarators_end f n.decls.items
stmt_part_ends f n = false

-- one node, where f says it of what its links hold; a statement ends with a semicolon
unfoldable pub node_ends : {X : Type 0} → (X → Bool) → AnyNode-F X → Bool
node_ends f (nodes.Expr n) = expr_ends f n
node_ends f (nodes.MemberExpr n) = prop_ends n.prop
node_ends f (nodes.ExprPart n) = expr_part_ends f n
node_ends f (nodes.StmtPart n) = stmt_part_ends f n
node_ends f n = false

-- a whole node
unfoldable pub any_ends : AnyNode → Bool
any_ends = fold-AnyNode Bool (node_ends (λ known. known))
