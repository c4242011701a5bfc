-- Statements that are the same but for what their links hold: that stands in the relation `m`.
use Rattle.std.specs.Prelude.{◌≡◌, Bool, true, false}
use Rattle.swc_ecma_codegen_tree.specs.declared.stmts.BlockStmt.{BlockStmt}
use Rattle.swc_ecma_codegen_tree.specs.declared.stmts.CatchClause.{CatchClause}
use Rattle.swc_ecma_codegen_tree.specs.declared.stmts.DoWhileStmt.{DoWhileStmt}
use Rattle.swc_ecma_codegen_tree.specs.declared.stmts.ExprStmt.{ExprStmt}
use Rattle.swc_ecma_codegen_tree.specs.declared.stmts.ForHead.{ForHead}
use Rattle.swc_ecma_codegen_tree.specs.declared.stmts.ForHead.TheVariants as for_heads
use Rattle.swc_ecma_codegen_tree.specs.declared.stmts.ForInStmt.{ForInStmt}
use Rattle.swc_ecma_codegen_tree.specs.declared.stmts.ForOfStmt.{ForOfStmt}
use Rattle.swc_ecma_codegen_tree.specs.declared.stmts.ForStmt.{ForStmt}
use Rattle.swc_ecma_codegen_tree.specs.declared.stmts.IfStmt.{IfStmt}
use Rattle.swc_ecma_codegen_tree.specs.declared.stmts.LabeledStmt.{LabeledStmt}
use Rattle.swc_ecma_codegen_tree.specs.declared.stmts.ReturnStmt.{ReturnStmt}
use Rattle.swc_ecma_codegen_tree.specs.declared.stmts.Stmt.{Stmt}
use Rattle.swc_ecma_codegen_tree.specs.declared.stmts.Stmt.TheVariants as stmts
use Rattle.swc_ecma_codegen_tree.specs.declared.stmts.SwitchCase.{SwitchCase}
use Rattle.swc_ecma_codegen_tree.specs.declared.stmts.SwitchStmt.{SwitchStmt}
use Rattle.swc_ecma_codegen_tree.specs.declared.stmts.ThrowStmt.{ThrowStmt}
use Rattle.swc_ecma_codegen_tree.specs.declared.stmts.TryStmt.{TryStmt}
use Rattle.swc_ecma_codegen_tree.specs.declared.stmts.VarDeclOrExpr.{VarDeclOrExpr}
use Rattle.swc_ecma_codegen_tree.specs.declared.stmts.VarDeclOrExpr.TheVariants as var_decl_or_exprs
use Rattle.swc_ecma_codegen_tree.specs.declared.stmts.WhileStmt.{WhileStmt}
use Rattle.swc_ecma_codegen_tree.specs.declared.stmts.WithStmt.{WithStmt}
use Rattle.swc_ecma_codegen_tree.specs.Links.{BlockStmtBox}
use Rattle.swc_ecma_codegen_tree.specs.declared.decls.Decl.{Decl}
use Rattle.swc_ecma_codegen_parentheses.specs.declared.mends.Usage.{Usage}
use Rattle.swc_ecma_codegen_parentheses.specs.declared.mends.Usage.TheVariants as usages
use Rattle.swc_ecma_codegen_syntax.specs.declared.lookahead.Lookahead.{Lookahead}
use Rattle.swc_ecma_codegen_syntax.specs.declared.lookahead.Lookahead.TheVariants.{ForStart}
use Rattle.swc_ecma_codegen_syntax.specs.declared.nonterminals.Nonterminal.TheVariants as nt
use Rattle.swc_ecma_codegen_syntax.specs.StmtForms.{of_start}
use Rattle.swc_ecma_codegen_parentheses.specs.Operands.{in_for_head}
use Rattle.swc_ecma_codegen_parentheses.specs.Lists.{Pairwise, bracketed, linked, linked_as, optionally}
use Rattle.swc_ecma_codegen_parentheses.specs.SameDecls.{same_decl}

unfoldable pub same_with_stmt : {X : Type 0} → (Usage → X → X → Type 0) → WithStmt X → WithStmt X → Type 0
same_with_stmt m n r = (r ≡ record n { obj = r.obj; body = r.body }) × (bracketed nt.Expression m n.obj r.obj × linked m n.body r.body)

unfoldable pub same_return_stmt : {X : Type 0} → (Usage → X → X → Type 0) → ReturnStmt X → ReturnStmt X → Type 0
same_return_stmt m n r = (r ≡ record n { arg = r.arg }) × optionally (bracketed nt.Expression m) n.arg r.arg

unfoldable pub same_labeled_stmt : {X : Type 0} → (Usage → X → X → Type 0) → LabeledStmt X → LabeledStmt X → Type 0
same_labeled_stmt m n r = (r ≡ record n { body = r.body }) × linked m n.body r.body

unfoldable pub same_if_stmt : {X : Type 0} → (Usage → X → X → Type 0) → IfStmt X → IfStmt X → Type 0
same_if_stmt m n r =
    (r ≡ record n { test = r.test; cons = r.cons; alt = r.alt }) × (bracketed nt.Expression m n.test r.test × (linked m n.cons r.cons × optionally (linked m) n.alt r.alt))

unfoldable pub same_switch_case : {X : Type 0} → (Usage → X → X → Type 0) → SwitchCase X → SwitchCase X → Type 0
same_switch_case m n r = (r ≡ record n { test = r.test; cons = r.cons }) × (optionally (bracketed nt.Expression m) n.test r.test × Pairwise (linked m) n.cons.items r.cons.items)

unfoldable pub same_switch_stmt : {X : Type 0} → (Usage → X → X → Type 0) → SwitchStmt X → SwitchStmt X → Type 0
same_switch_stmt m n r =
    (r ≡ record n { discriminant = r.discriminant; cases = r.cases }) × (bracketed nt.Expression m n.discriminant r.discriminant × Pairwise (same_switch_case m) n.cases.items r.cases.items)

unfoldable pub same_throw_stmt : {X : Type 0} → (Usage → X → X → Type 0) → ThrowStmt X → ThrowStmt X → Type 0
same_throw_stmt m n r = (r ≡ record n { arg = r.arg }) × bracketed nt.Expression m n.arg r.arg

unfoldable pub same_catch_clause : {X : Type 0} → (Usage → X → X → Type 0) → CatchClause X → CatchClause X → Type 0
same_catch_clause m n r = (r ≡ record n { param = r.param; body = r.body }) × (optionally (linked m) n.param r.param × linked m n.body r.body)

unfoldable pub same_try_stmt : {X : Type 0} → (Usage → X → X → Type 0) → TryStmt X → TryStmt X → Type 0
same_try_stmt m n r =
    (r ≡ record n { block = r.block; handler = r.handler; finalizer = r.finalizer }) × (linked m n.block r.block × (optionally (same_catch_clause m) n.handler r.handler ×
    optionally (linked m) n.finalizer r.finalizer))

unfoldable pub same_while_stmt : {X : Type 0} → (Usage → X → X → Type 0) → WhileStmt X → WhileStmt X → Type 0
same_while_stmt m n r = (r ≡ record n { test = r.test; body = r.body }) × (bracketed nt.Expression m n.test r.test × linked m n.body r.body)

unfoldable pub same_do_while_stmt : {X : Type 0} → (Usage → X → X → Type 0) → DoWhileStmt X → DoWhileStmt X → Type 0
same_do_while_stmt m n r = (r ≡ record n { test = r.test; body = r.body }) × (bracketed nt.Expression m n.test r.test × linked m n.body r.body)

unfoldable pub same_var_decl_or_expr : {X : Type 0} → (Usage → X → X → Type 0) → VarDeclOrExpr X → VarDeclOrExpr X → Type 0
same_var_decl_or_expr m (var_decl_or_exprs.VarDecl n) (var_decl_or_exprs.VarDecl r) = linked m n r
same_var_decl_or_expr m (var_decl_or_exprs.Expr n) (var_decl_or_exprs.Expr r) = linked_as in_for_head m n r
same_var_decl_or_expr m n r = ⊥

unfoldable pub same_for_stmt : {X : Type 0} → (Usage → X → X → Type 0) → ForStmt X → ForStmt X → Type 0
same_for_stmt m n r =
    (r ≡ record n { init = r.init; test = r.test; update = r.update; body = r.body }) × (optionally (same_var_decl_or_expr m) n.init r.init × (
    optionally (bracketed nt.Expression m) n.test r.test × (optionally (bracketed nt.Expression m) n.update r.update × linked m n.body r.body)))

-- the head of `for (a in b) {}` and `for (a of b) {}`, which may not begin so
unfoldable pub same_for_head : {X : Type 0} → Lookahead → (Usage → X → X → Type 0) → ForHead X → ForHead X → Type 0
same_for_head lookahead m (for_heads.VarDecl n) (for_heads.VarDecl r) = linked m n r
same_for_head lookahead m (for_heads.Pat n) (for_heads.Pat r) = linked_as (usages.Head lookahead) m n r
same_for_head lookahead m n r = n ≡ r

unfoldable pub same_for_in_stmt : {X : Type 0} → (Usage → X → X → Type 0) → ForInStmt X → ForInStmt X → Type 0
same_for_in_stmt m n r =
    (r ≡ record n { left = r.left; right = r.right; body = r.body }) × (same_for_head ForStart m n.left r.left × (bracketed nt.Expression m n.right r.right × linked m n.body r.body))

unfoldable pub same_for_of_stmt : {X : Type 0} → (Usage → X → X → Type 0) → ForOfStmt X → ForOfStmt X → Type 0
same_for_of_stmt m n r =
    (r ≡ record n { left = r.left; right = r.right; body = r.body }) × (same_for_head (of_start n.is_await) m n.left r.left × (bracketed nt.AssignmentExpression m n.right r.right × linked m n.body r.body))

unfoldable pub same_expr_stmt : {X : Type 0} → (Usage → X → X → Type 0) → ExprStmt X → ExprStmt X → Type 0
same_expr_stmt m n r = (r ≡ record n { expr = r.expr }) × linked_as usages.Statement m n.expr r.expr

-- a statement in which no expression stands
abbrev pub is_leaf_stmt : {X : Type 0} → Stmt X → Bool
is_leaf_stmt (stmts.Empty n) = true
is_leaf_stmt (stmts.Debugger n) = true
is_leaf_stmt (stmts.Break n) = true
is_leaf_stmt (stmts.Continue n) = true
is_leaf_stmt n = false

-- of one variant; what no expression stands in is the same
pub data same_stmt {X : Type 0} (m : Usage → X → X → Type 0) (n r : Stmt X) : Type 0 where
  unchanged : is_leaf_stmt n ≡ true → n ≡ r → same_stmt m n r
  block : (a b : BlockStmtBox X) → n ≡ stmts.Block a → r ≡ stmts.Block b → linked m a b → same_stmt m n r
  with_stmt : (a b : WithStmt X) → n ≡ stmts.With a → r ≡ stmts.With b → same_with_stmt m a b → same_stmt m n r
  return_stmt : (a b : ReturnStmt X) → n ≡ stmts.Return a → r ≡ stmts.Return b → same_return_stmt m a b → same_stmt m n r
  labeled : (a b : LabeledStmt X) → n ≡ stmts.Labeled a → r ≡ stmts.Labeled b → same_labeled_stmt m a b → same_stmt m n r
  if_stmt : (a b : IfStmt X) → n ≡ stmts.If a → r ≡ stmts.If b → same_if_stmt m a b → same_stmt m n r
  switch_stmt : (a b : SwitchStmt X) → n ≡ stmts.Switch a → r ≡ stmts.Switch b → same_switch_stmt m a b → same_stmt m n r
  throw_stmt : (a b : ThrowStmt X) → n ≡ stmts.Throw a → r ≡ stmts.Throw b → same_throw_stmt m a b → same_stmt m n r
  try_stmt : (a b : TryStmt X) → n ≡ stmts.Try a → r ≡ stmts.Try b → same_try_stmt m a b → same_stmt m n r
  while_stmt : (a b : WhileStmt X) → n ≡ stmts.While a → r ≡ stmts.While b → same_while_stmt m a b → same_stmt m n r
  do_while : (a b : DoWhileStmt X) → n ≡ stmts.DoWhile a → r ≡ stmts.DoWhile b → same_do_while_stmt m a b → same_stmt m n r
  for_stmt : (a b : ForStmt X) → n ≡ stmts.For a → r ≡ stmts.For b → same_for_stmt m a b → same_stmt m n r
  for_in : (a b : ForInStmt X) → n ≡ stmts.ForIn a → r ≡ stmts.ForIn b → same_for_in_stmt m a b → same_stmt m n r
  for_of : (a b : ForOfStmt X) → n ≡ stmts.ForOf a → r ≡ stmts.ForOf b → same_for_of_stmt m a b → same_stmt m n r
  decl : (a b : Decl X) → n ≡ stmts.Decl a → r ≡ stmts.Decl b → same_decl m a b → same_stmt m n r
  expr : (a b : ExprStmt X) → n ≡ stmts.Expr a → r ≡ stmts.Expr b → same_expr_stmt m a b → same_stmt m n r

unfoldable pub same_block_stmt : {X : Type 0} → (Usage → X → X → Type 0) → BlockStmt X → BlockStmt X → Type 0
same_block_stmt m n r = (r ≡ record n { stmts = r.stmts }) × Pairwise (same_stmt m) n.stmts.items r.stmts.items
