-- Maps of statements: of each type, over names and what links hold as something else. Made by scripts/dev/make-visit-files.
use Rattle.std.specs.formers.vec.Vec.{mapped as vec_mapped}
use Rattle.swc_ecma_codegen_tree.specs.declared.stmts.BlockStmt.{BlockStmt}
use Rattle.swc_ecma_codegen_tree.specs.declared.stmts.BreakStmt.{BreakStmt}
use Rattle.swc_ecma_codegen_tree.specs.declared.stmts.CatchClause.{CatchClause}
use Rattle.swc_ecma_codegen_tree.specs.declared.stmts.ContinueStmt.{ContinueStmt}
use Rattle.swc_ecma_codegen_tree.specs.declared.stmts.DoWhileStmt.{DoWhileStmt}
use Rattle.swc_ecma_codegen_tree.specs.declared.stmts.ExprStmt.{ExprStmt}
use Rattle.swc_ecma_codegen_tree.specs.declared.stmts.ForHead.{ForHead}
use Rattle.swc_ecma_codegen_tree.specs.declared.stmts.ForInStmt.{ForInStmt}
use Rattle.swc_ecma_codegen_tree.specs.declared.stmts.ForOfStmt.{ForOfStmt}
use Rattle.swc_ecma_codegen_tree.specs.declared.stmts.ForStmt.{ForStmt}
use Rattle.swc_ecma_codegen_tree.specs.declared.idents.Ident.{Ident}
use Rattle.swc_ecma_codegen_tree.specs.declared.stmts.IfStmt.{IfStmt}
use Rattle.swc_ecma_codegen_tree.specs.declared.stmts.LabeledStmt.{LabeledStmt}
use Rattle.swc_ecma_codegen_tree.specs.declared.stmts.ReturnStmt.{ReturnStmt}
use Rattle.swc_ecma_codegen_tree.specs.declared.stmts.Stmt.{Stmt}
use Rattle.swc_ecma_codegen_tree.specs.declared.stmts.SwitchCase.{SwitchCase}
use Rattle.swc_ecma_codegen_tree.specs.declared.stmts.SwitchStmt.{SwitchStmt}
use Rattle.swc_ecma_codegen_tree.specs.declared.stmts.ThrowStmt.{ThrowStmt}
use Rattle.swc_ecma_codegen_tree.specs.declared.stmts.TryStmt.{TryStmt}
use Rattle.swc_ecma_codegen_tree.specs.declared.stmts.VarDeclOrExpr.{VarDeclOrExpr}
use Rattle.swc_ecma_codegen_tree.specs.declared.stmts.WhileStmt.{WhileStmt}
use Rattle.swc_ecma_codegen_tree.specs.declared.stmts.WithStmt.{WithStmt}
use Rattle.swc_ecma_codegen_tree.specs.declared.stmts.ForHead.TheVariants as for_heads
use Rattle.swc_ecma_codegen_tree.specs.declared.stmts.Stmt.TheVariants as stmts
use Rattle.swc_ecma_codegen_tree.specs.declared.stmts.VarDeclOrExpr.TheVariants as var_decl_or_exprs
use Rattle.swc_ecma_codegen_visit.specs.Mapping.{map_box, map_link, map_option}
use Rattle.swc_ecma_codegen_visit.specs.MappedDecls.{map_decl, map_using_decl}

abbrev pub map_with_stmt : {X : Type 0} → (Ident → Ident) → (X → X) → WithStmt X → WithStmt X
map_with_stmt g f n = record n { obj = map_link f n.obj; body = map_link f n.body }

abbrev pub map_return_stmt : {X : Type 0} → (Ident → Ident) → (X → X) → ReturnStmt X → ReturnStmt X
map_return_stmt g f n = record n { arg = map_option (map_link f) n.arg }

abbrev pub map_labeled_stmt : {X : Type 0} → (Ident → Ident) → (X → X) → LabeledStmt X → LabeledStmt X
map_labeled_stmt g f n = record n { label = g n.label; body = map_link f n.body }

abbrev pub map_break_stmt : (Ident → Ident) → BreakStmt → BreakStmt
map_break_stmt g n = record n { label = map_option g n.label }

abbrev pub map_continue_stmt : (Ident → Ident) → ContinueStmt → ContinueStmt
map_continue_stmt g n = record n { label = map_option g n.label }

abbrev pub map_if_stmt : {X : Type 0} → (Ident → Ident) → (X → X) → IfStmt X → IfStmt X
map_if_stmt g f n = record n { test = map_link f n.test; cons = map_link f n.cons; alt = map_option (map_link f) n.alt }

abbrev pub map_switch_case : {X : Type 0} → (Ident → Ident) → (X → X) → SwitchCase X → SwitchCase X
map_switch_case g f n = record n { test = map_option (map_link f) n.test; cons = vec_mapped (map_link f) n.cons }

abbrev pub map_switch_stmt : {X : Type 0} → (Ident → Ident) → (X → X) → SwitchStmt X → SwitchStmt X
map_switch_stmt g f n = record n { discriminant = map_link f n.discriminant; cases = vec_mapped (map_switch_case g f) n.cases }

abbrev pub map_throw_stmt : {X : Type 0} → (Ident → Ident) → (X → X) → ThrowStmt X → ThrowStmt X
map_throw_stmt g f n = record n { arg = map_link f n.arg }

abbrev pub map_catch_clause : {X : Type 0} → (Ident → Ident) → (X → X) → CatchClause X → CatchClause X
map_catch_clause g f n = record n { param = map_option (map_link f) n.param; body = map_link f n.body }

abbrev pub map_try_stmt : {X : Type 0} → (Ident → Ident) → (X → X) → TryStmt X → TryStmt X
map_try_stmt g f n = record n {
  block = map_link f n.block;
  handler = map_option (map_catch_clause g f) n.handler;
  finalizer = map_option (map_link f) n.finalizer;
}

abbrev pub map_while_stmt : {X : Type 0} → (Ident → Ident) → (X → X) → WhileStmt X → WhileStmt X
map_while_stmt g f n = record n { test = map_link f n.test; body = map_link f n.body }

abbrev pub map_do_while_stmt : {X : Type 0} → (Ident → Ident) → (X → X) → DoWhileStmt X → DoWhileStmt X
map_do_while_stmt g f n = record n { test = map_link f n.test; body = map_link f n.body }

abbrev pub map_var_decl_or_expr : {X : Type 0} → (Ident → Ident) → (X → X) → VarDeclOrExpr X → VarDeclOrExpr X
map_var_decl_or_expr g f (var_decl_or_exprs.VarDecl n) = var_decl_or_exprs.VarDecl (map_link f n)
map_var_decl_or_expr g f (var_decl_or_exprs.Expr n) = var_decl_or_exprs.Expr (map_link f n)

abbrev pub map_for_stmt : {X : Type 0} → (Ident → Ident) → (X → X) → ForStmt X → ForStmt X
map_for_stmt g f n = record n {
  init = map_option (map_var_decl_or_expr g f) n.init;
  test = map_option (map_link f) n.test;
  update = map_option (map_link f) n.update;
  body = map_link f n.body;
}

abbrev pub map_for_head : {X : Type 0} → (Ident → Ident) → (X → X) → ForHead X → ForHead X
map_for_head g f (for_heads.VarDecl n) = for_heads.VarDecl (map_link f n)
map_for_head g f (for_heads.UsingDecl n) = for_heads.UsingDecl (map_box (map_using_decl g f) n)
map_for_head g f (for_heads.Pat n) = for_heads.Pat (map_link f n)

abbrev pub map_for_in_stmt : {X : Type 0} → (Ident → Ident) → (X → X) → ForInStmt X → ForInStmt X
map_for_in_stmt g f n = record n { left = map_for_head g f n.left; right = map_link f n.right; body = map_link f n.body }

abbrev pub map_for_of_stmt : {X : Type 0} → (Ident → Ident) → (X → X) → ForOfStmt X → ForOfStmt X
map_for_of_stmt g f n = record n { left = map_for_head g f n.left; right = map_link f n.right; body = map_link f n.body }

abbrev pub map_expr_stmt : {X : Type 0} → (Ident → Ident) → (X → X) → ExprStmt X → ExprStmt X
map_expr_stmt g f n = record n { expr = map_link f n.expr }

abbrev pub map_stmt : {X : Type 0} → (Ident → Ident) → (X → X) → Stmt X → Stmt X
map_stmt g f (stmts.Block n) = stmts.Block (map_link f n)
map_stmt g f (stmts.Empty n) = stmts.Empty n
map_stmt g f (stmts.Debugger n) = stmts.Debugger n
map_stmt g f (stmts.With n) = stmts.With (map_with_stmt g f n)
map_stmt g f (stmts.Return n) = stmts.Return (map_return_stmt g f n)
map_stmt g f (stmts.Labeled n) = stmts.Labeled (map_labeled_stmt g f n)
map_stmt g f (stmts.Break n) = stmts.Break (map_break_stmt g n)
map_stmt g f (stmts.Continue n) = stmts.Continue (map_continue_stmt g n)
map_stmt g f (stmts.If n) = stmts.If (map_if_stmt g f n)
map_stmt g f (stmts.Switch n) = stmts.Switch (map_switch_stmt g f n)
map_stmt g f (stmts.Throw n) = stmts.Throw (map_throw_stmt g f n)
map_stmt g f (stmts.Try n) = stmts.Try (map_try_stmt g f n)
map_stmt g f (stmts.While n) = stmts.While (map_while_stmt g f n)
map_stmt g f (stmts.DoWhile n) = stmts.DoWhile (map_do_while_stmt g f n)
map_stmt g f (stmts.For n) = stmts.For (map_for_stmt g f n)
map_stmt g f (stmts.ForIn n) = stmts.ForIn (map_for_in_stmt g f n)
map_stmt g f (stmts.ForOf n) = stmts.ForOf (map_for_of_stmt g f n)
map_stmt g f (stmts.Decl n) = stmts.Decl (map_decl g f n)
map_stmt g f (stmts.Expr n) = stmts.Expr (map_expr_stmt g f n)

abbrev pub map_block_stmt : {X : Type 0} → (Ident → Ident) → (X → X) → BlockStmt X → BlockStmt X
map_block_stmt g f n = record n { stmts = vec_mapped (map_stmt g f) n.stmts }
