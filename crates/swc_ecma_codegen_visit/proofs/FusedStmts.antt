-- One map of statements behind another is one map. Made by scripts/dev/make-visit-files.
use Rattle.std.proofs.Common.{◌≡◌, refl, ap}
use Rattle.swc_ecma_codegen_tree.specs.declared.stmts.BlockStmt.{BlockStmt}
use Rattle.swc_ecma_codegen_tree.specs.declared.stmts.BreakStmt.{BreakStmt}
use Rattle.swc_ecma_codegen_tree.specs.declared.stmts.CatchClause.{CatchClause}
use Rattle.swc_ecma_codegen_tree.specs.declared.stmts.ContinueStmt.{ContinueStmt}
use Rattle.swc_ecma_codegen_tree.specs.declared.stmts.ForHead.{ForHead}
use Rattle.swc_ecma_codegen_tree.specs.declared.stmts.ForInStmt.{ForInStmt}
use Rattle.swc_ecma_codegen_tree.specs.declared.stmts.ForOfStmt.{ForOfStmt}
use Rattle.swc_ecma_codegen_tree.specs.declared.stmts.ForStmt.{ForStmt}
use Rattle.swc_ecma_codegen_tree.specs.declared.idents.Ident.{Ident}
use Rattle.swc_ecma_codegen_tree.specs.declared.stmts.IfStmt.{IfStmt}
use Rattle.swc_ecma_codegen_tree.specs.declared.stmts.ReturnStmt.{ReturnStmt}
use Rattle.swc_ecma_codegen_tree.specs.declared.stmts.Stmt.{Stmt}
use Rattle.swc_ecma_codegen_tree.specs.declared.stmts.SwitchCase.{SwitchCase}
use Rattle.swc_ecma_codegen_tree.specs.declared.stmts.SwitchStmt.{SwitchStmt}
use Rattle.swc_ecma_codegen_tree.specs.declared.stmts.TryStmt.{TryStmt}
use Rattle.swc_ecma_codegen_tree.specs.declared.stmts.VarDeclOrExpr.{VarDeclOrExpr}
use Rattle.swc_ecma_codegen_tree.specs.declared.stmts.ForHead.TheVariants as for_heads
use Rattle.swc_ecma_codegen_tree.specs.declared.stmts.Stmt.TheVariants as stmts
use Rattle.swc_ecma_codegen_tree.specs.declared.stmts.VarDeclOrExpr.TheVariants as var_decl_or_exprs
use Rattle.swc_ecma_codegen_visit.specs.Mapping.{map_link}
use Rattle.swc_ecma_codegen_visit.specs.MappedDecls.{map_using_decl}
use Rattle.swc_ecma_codegen_visit.specs.MappedStmts.{map_block_stmt, map_break_stmt, map_catch_clause, map_continue_stmt, map_for_head}
use Rattle.swc_ecma_codegen_visit.specs.MappedStmts.{map_for_in_stmt, map_for_of_stmt, map_for_stmt, map_if_stmt, map_return_stmt, map_stmt}
use Rattle.swc_ecma_codegen_visit.specs.MappedStmts.{map_switch_case, map_switch_stmt, map_try_stmt, map_var_decl_or_expr}
use Rattle.swc_ecma_codegen_visit.proofs.Fused.{box_fused, option_fused, vec_fused}
use Rattle.swc_ecma_codegen_visit.proofs.FusedDecls.{fused_decl, fused_using_decl}

pub fused_return_stmt : {X : Type 0} (g h : Ident → Ident) (f k : X → X) (n : ReturnStmt X) → map_return_stmt g f (map_return_stmt h k n) ≡
    map_return_stmt (λ x. g (h x)) (λ x. f (k x)) n
fused_return_stmt g h f k n = λ i. record n { arg = (option_fused (map_link f) (map_link k) (map_link (λ x. f (k x))) (λ x. refl)) n.arg i }

pub fused_break_stmt : (g h : Ident → Ident) (n : BreakStmt) → map_break_stmt g (map_break_stmt h n) ≡ map_break_stmt (λ x. g (h x)) n
fused_break_stmt g h n = λ i. record n { label = (option_fused g h (λ x. g (h x)) (λ x. refl)) n.label i }

pub fused_continue_stmt : (g h : Ident → Ident) (n : ContinueStmt) → map_continue_stmt g (map_continue_stmt h n) ≡ map_continue_stmt (λ x. g
    (h x)) n
fused_continue_stmt g h n = λ i. record n { label = (option_fused g h (λ x. g (h x)) (λ x. refl)) n.label i }

pub fused_if_stmt : {X : Type 0} (g h : Ident → Ident) (f k : X → X) (n : IfStmt X) → map_if_stmt g f (map_if_stmt h k n) ≡ map_if_stmt (λ
    x. g (h x)) (λ x. f (k x)) n
fused_if_stmt g h f k n = λ i. record n {
  test = map_link (λ x. f (k x)) n.test;
  cons = map_link (λ x. f (k x)) n.cons;
  alt = (option_fused (map_link f) (map_link k) (map_link (λ x. f (k x))) (λ x. refl)) n.alt i;
}

pub fused_switch_case : {X : Type 0} (g h : Ident → Ident) (f k : X → X) (n : SwitchCase X) → map_switch_case g f (map_switch_case h k n) ≡
    map_switch_case (λ x. g (h x)) (λ x. f (k x)) n
fused_switch_case g h f k n = λ i. record n {
  test = (option_fused (map_link f) (map_link k) (map_link (λ x. f (k x))) (λ x. refl)) n.test i;
  cons = (vec_fused (map_link f) (map_link k) (map_link (λ x. f (k x))) (λ x. refl)) n.cons i;
}

pub fused_switch_stmt : {X : Type 0} (g h : Ident → Ident) (f k : X → X) (n : SwitchStmt X) → map_switch_stmt g f (map_switch_stmt h k n) ≡
    map_switch_stmt (λ x. g (h x)) (λ x. f (k x)) n
fused_switch_stmt g h f k n = λ i. record n {
  discriminant = map_link (λ x. f (k x)) n.discriminant;
  cases = (vec_fused (map_switch_case g f) (map_switch_case h k) (map_switch_case (λ x. g (h x)) (λ x. f (k x))) (fused_switch_case g h f k)) n.cases i;
}

pub fused_catch_clause : {X : Type 0} (g h : Ident → Ident) (f k : X → X) (n : CatchClause X) → map_catch_clause g f (map_catch_clause h k
    n) ≡ map_catch_clause (λ x. g (h x)) (λ x. f (k x)) n
fused_catch_clause g h f k n = λ i. record n {
  param = (option_fused (map_link f) (map_link k) (map_link (λ x. f (k x))) (λ x. refl)) n.param i;
  body = map_link (λ x. f (k x)) n.body;
}

pub fused_try_stmt : {X : Type 0} (g h : Ident → Ident) (f k : X → X) (n : TryStmt X) → map_try_stmt g f (map_try_stmt h k n) ≡ map_try_stmt
    (λ x. g (h x)) (λ x. f (k x)) n
fused_try_stmt g h f k n = λ i. record n {
  block = map_link (λ x. f (k x)) n.block;
  handler = (option_fused (map_catch_clause g f) (map_catch_clause h k) (map_catch_clause (λ x. g (h x)) (λ x. f (k x))) (fused_catch_clause g h f k)) n.handler i;
  finalizer = (option_fused (map_link f) (map_link k) (map_link (λ x. f (k x))) (λ x. refl)) n.finalizer i;
}

pub fused_var_decl_or_expr : {X : Type 0} (g h : Ident → Ident) (f k : X → X) (n : VarDeclOrExpr X) → map_var_decl_or_expr g f
    (map_var_decl_or_expr h k n) ≡ map_var_decl_or_expr (λ x. g (h x)) (λ x. f (k x)) n
fused_var_decl_or_expr g h f k (var_decl_or_exprs.VarDecl n) = refl
fused_var_decl_or_expr g h f k (var_decl_or_exprs.Expr n) = refl

pub fused_for_stmt : {X : Type 0} (g h : Ident → Ident) (f k : X → X) (n : ForStmt X) → map_for_stmt g f (map_for_stmt h k n) ≡ map_for_stmt
    (λ x. g (h x)) (λ x. f (k x)) n
fused_for_stmt g h f k n = λ i. record n {
  init = (option_fused (map_var_decl_or_expr g f) (map_var_decl_or_expr h k) (map_var_decl_or_expr (λ x. g (h x)) (λ x. f (k x))) (fused_var_decl_or_expr g h f k)) n.init i;
  test = (option_fused (map_link f) (map_link k) (map_link (λ x. f (k x))) (λ x. refl)) n.test i;
  update = (option_fused (map_link f) (map_link k) (map_link (λ x. f (k x))) (λ x. refl)) n.update i;
  body = map_link (λ x. f (k x)) n.body;
}

pub fused_for_head : {X : Type 0} (g h : Ident → Ident) (f k : X → X) (n : ForHead X) → map_for_head g f (map_for_head h k n) ≡ map_for_head
    (λ x. g (h x)) (λ x. f (k x)) n
fused_for_head g h f k (for_heads.VarDecl n) = refl
fused_for_head g h f k (for_heads.UsingDecl n) = ap for_heads.UsingDecl ((box_fused (map_using_decl g f) (map_using_decl h k)
    (map_using_decl (λ x. g (h x)) (λ x. f (k x))) (fused_using_decl g h f k)) n)
fused_for_head g h f k (for_heads.Pat n) = refl

pub fused_for_in_stmt : {X : Type 0} (g h : Ident → Ident) (f k : X → X) (n : ForInStmt X) → map_for_in_stmt g f (map_for_in_stmt h k n) ≡
    map_for_in_stmt (λ x. g (h x)) (λ x. f (k x)) n
fused_for_in_stmt g h f k n = λ i. record n {
  left = (fused_for_head g h f k) n.left i;
  right = map_link (λ x. f (k x)) n.right;
  body = map_link (λ x. f (k x)) n.body;
}

pub fused_for_of_stmt : {X : Type 0} (g h : Ident → Ident) (f k : X → X) (n : ForOfStmt X) → map_for_of_stmt g f (map_for_of_stmt h k n) ≡
    map_for_of_stmt (λ x. g (h x)) (λ x. f (k x)) n
fused_for_of_stmt g h f k n = λ i. record n {
  left = (fused_for_head g h f k) n.left i;
  right = map_link (λ x. f (k x)) n.right;
  body = map_link (λ x. f (k x)) n.body;
}

pub fused_stmt : {X : Type 0} (g h : Ident → Ident) (f k : X → X) (n : Stmt X) → map_stmt g f (map_stmt h k n) ≡ map_stmt (λ x. g (h x)) (λ
    x. f (k x)) n
fused_stmt g h f k (stmts.Block n) = refl
fused_stmt g h f k (stmts.Empty n) = refl
fused_stmt g h f k (stmts.Debugger n) = refl
fused_stmt g h f k (stmts.With n) = refl
fused_stmt g h f k (stmts.Return n) = ap stmts.Return ((fused_return_stmt g h f k) n)
fused_stmt g h f k (stmts.Labeled n) = refl
fused_stmt g h f k (stmts.Break n) = ap stmts.Break ((fused_break_stmt g h) n)
fused_stmt g h f k (stmts.Continue n) = ap stmts.Continue ((fused_continue_stmt g h) n)
fused_stmt g h f k (stmts.If n) = ap stmts.If ((fused_if_stmt g h f k) n)
fused_stmt g h f k (stmts.Switch n) = ap stmts.Switch ((fused_switch_stmt g h f k) n)
fused_stmt g h f k (stmts.Throw n) = refl
fused_stmt g h f k (stmts.Try n) = ap stmts.Try ((fused_try_stmt g h f k) n)
fused_stmt g h f k (stmts.While n) = refl
fused_stmt g h f k (stmts.DoWhile n) = refl
fused_stmt g h f k (stmts.For n) = ap stmts.For ((fused_for_stmt g h f k) n)
fused_stmt g h f k (stmts.ForIn n) = ap stmts.ForIn ((fused_for_in_stmt g h f k) n)
fused_stmt g h f k (stmts.ForOf n) = ap stmts.ForOf ((fused_for_of_stmt g h f k) n)
fused_stmt g h f k (stmts.Decl n) = ap stmts.Decl ((fused_decl g h f k) n)
fused_stmt g h f k (stmts.Expr n) = refl

pub fused_block_stmt : {X : Type 0} (g h : Ident → Ident) (f k : X → X) (n : BlockStmt X) → map_block_stmt g f (map_block_stmt h k n) ≡
    map_block_stmt (λ x. g (h x)) (λ x. f (k x)) n
fused_block_stmt g h f k n = λ i. record n {
  stmts = (vec_fused (map_stmt g f) (map_stmt h k) (map_stmt (λ x. g (h x)) (λ x. f (k x))) (fused_stmt g h f k)) n.stmts i;
}
