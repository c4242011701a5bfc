-- Trees of names and operators alone: `a.b[c] ? typeof -d : (this, e++);`.
use Rattle.std.specs.Prelude.{◌≡◌, ℕ, ◌^◌, ◌<◌, Bool, true, false, not, ◌&&◌, is_some, List, [], ◌∷◌, None, string_bytes}
use Rattle.swc_ecma_codegen_tree.specs.declared.links.AnyNode.{AnyNode, AnyNode-F, fold-AnyNode}
use Rattle.swc_ecma_codegen_tree.specs.declared.links.AnyNode.TheOpen as nodes
use Rattle.swc_ecma_codegen_tree.specs.Links.{ExprBox}
use Rattle.swc_ecma_codegen_tree.specs.declared.exprs.Expr.{Expr}
use Rattle.swc_ecma_codegen_tree.specs.declared.exprs.Expr.TheVariants as exprs
use Rattle.swc_ecma_codegen_tree.specs.declared.exprs.MemberProp.{MemberProp}
use Rattle.swc_ecma_codegen_tree.specs.declared.exprs.MemberProp.TheVariants as member_props
use Rattle.swc_ecma_codegen_tree.specs.declared.stmts.Stmt.{Stmt}
use Rattle.swc_ecma_codegen_tree.specs.declared.stmts.Stmt.TheVariants as stmts
use Rattle.swc_ecma_codegen_tree.specs.declared.programs.Script.{Script}
use Rattle.swc_ecma_codegen_tree.specs.declared.programs.Program.TheVariants as programs
use Rattle.swc_ecma_codegen_tokens.specs.Ready.{IsReady}
use Rattle.swc_ecma_codegen_tokens.specs.Run.{Part, State, IsUnhindered, is_bounded, has_backslash, makes_text, steps_in, steps_of, unprintable_in}
use Rattle.swc_ecma_codegen_emit.specs.Roots.{Root, OfExpr, OfStmt, OfItem, OfModule, OfScript, OfProgram, OfLink}

-- a name without a backslash
abbrev pub is_bare : List ℕ → Bool
is_bare name = not (has_backslash name)

-- `.b` and `[b]`, but not `.#b`; `f` says it of what a link holds
unfoldable pub basic_prop : {X : Type 0} → (X → Bool) → MemberProp X → Bool
basic_prop f (member_props.Ident n) = is_bare (string_bytes n.sym)
basic_prop f (member_props.PrivateName n) = false
basic_prop f (member_props.Computed n) = f n.expr.node.value

unfoldable pub all_basic : {X : Type 0} → (X → Bool) → List (ExprBox X) → Bool
all_basic f [] = true
all_basic f (x ∷ xs) = f x.node.value && all_basic f xs

unfoldable pub basic_expr : {X : Type 0} → (X → Bool) → Expr X → Bool
basic_expr f (exprs.This n) = true
basic_expr f (exprs.Unary n) = f n.arg.node.value
basic_expr f (exprs.Update n) = f n.arg.node.value
basic_expr f (exprs.Bin n) = f n.left.node.value && f n.right.node.value
basic_expr f (exprs.Member n) = f n.obj.node.value && basic_prop f n.prop
basic_expr f (exprs.Cond n) = f n.test.node.value && f n.cons.node.value && f n.alt.node.value
basic_expr f (exprs.Seq n) = all_basic f n.exprs.items
basic_expr f (exprs.Ident n) = is_bare (string_bytes n.sym)
basic_expr f (exprs.Paren n) = f n.expr.node.value
basic_expr f n = false

unfoldable pub basic_stmt : {X : Type 0} → (X → Bool) → Stmt X → Bool
basic_stmt f (stmts.Empty n) = true
basic_stmt f (stmts.Expr n) = f n.expr.node.value
basic_stmt f n = false

-- one node, where f says it of what its links hold
unfoldable pub basic_node : {X : Type 0} → (X → Bool) → AnyNode-F X → Bool
basic_node f (nodes.Expr n) = basic_expr f n
basic_node f (nodes.Stmt n) = basic_stmt f n
basic_node f n = false

-- a whole node
unfoldable pub any_basic : AnyNode → Bool
any_basic = fold-AnyNode Bool (basic_node (λ known. known))

unfoldable pub basic_stmts : List (Stmt AnyNode) → Bool
basic_stmts [] = true
basic_stmts (n ∷ ns) = basic_stmt any_basic n && basic_stmts ns

-- a script without a hashbang
abbrev pub basic_script : Script AnyNode → Bool
basic_script n = not (is_some n.shebang) && basic_stmts n.body.items

-- The tree is made of expressions, statements and scripts of these types alone, and no name in it holds a backslash.
abbrev pub is_basic : Root → Bool
is_basic (OfExpr n) = basic_expr any_basic n
is_basic (OfStmt n) = basic_stmt any_basic n
is_basic (OfItem n) = false
is_basic (OfModule n) = false
is_basic (OfScript n) = basic_script n
is_basic (OfProgram (programs.Script n)) = basic_script n
is_basic (OfProgram (programs.Module n)) = false
is_basic (OfLink n role) = any_basic n

-- Where the settings don't ask for ASCII and lines have no greatest length, no text of this part is made anew, in memory, and it comes to no
-- node that can't be printed. So it is made by an emitter that is ready where the writer counts no fault.
pub record TakesNoMemory (part : Part) : Type 0 where
  pub memory : (s : State) → s.env.config.ascii_only ≡ false → is_bounded s.env ≡ false → makes_text (steps_of (steps_in part s)) ≡ false
  pub printable : (s : State) → s.env.config.ascii_only ≡ false → is_bounded s.env ≡ false → unprintable_in (steps_in part s) ≡ None
  pub made : (a b : State) → a.env.config.ascii_only ≡ false → IsReady a → a.sheet.indentation < 2 ^ 32 → b.sheet.faults ≡ a.sheet.faults → IsUnhindered (steps_in part a) a b
