-- Where the map of statements is another map of the same type, with names as they are. Made by scripts/dev/make-visit-files.
use Rattle.std.proofs.Common.{◌≡◌, refl, ap, ◌∙◌, Option}
use Rattle.std.specs.Prelude.{Box}
use Rattle.std.specs.declared.alloc.Global.{Global}
use Rattle.std.specs.declared.vec.Vec.{Vec}
use Rattle.std.specs.formers.vec.Vec.{mapped as vec_mapped}
use Rattle.swc_ecma_codegen_tree.specs.declared.stmts.BlockStmt.{BlockStmt}
use Rattle.swc_ecma_codegen_tree.specs.declared.stmts.BreakStmt.{BreakStmt}
use Rattle.swc_ecma_codegen_tree.specs.declared.stmts.CatchClause.{CatchClause}
use Rattle.swc_ecma_codegen_tree.specs.declared.stmts.ContinueStmt.{ContinueStmt}
use Rattle.swc_ecma_codegen_tree.specs.declared.stmts.DebuggerStmt.{DebuggerStmt}
use Rattle.swc_ecma_codegen_tree.specs.declared.decls.Decl.{Decl}
use Rattle.swc_ecma_codegen_tree.specs.declared.stmts.DoWhileStmt.{DoWhileStmt}
use Rattle.swc_ecma_codegen_tree.specs.declared.stmts.EmptyStmt.{EmptyStmt}
use Rattle.swc_ecma_codegen_tree.specs.declared.stmts.ExprStmt.{ExprStmt}
use Rattle.swc_ecma_codegen_tree.specs.declared.stmts.ForHead.{ForHead}
use Rattle.swc_ecma_codegen_tree.specs.declared.stmts.ForInStmt.{ForInStmt}
use Rattle.swc_ecma_codegen_tree.specs.declared.stmts.ForOfStmt.{ForOfStmt}
use Rattle.swc_ecma_codegen_tree.specs.declared.stmts.ForStmt.{ForStmt}
use Rattle.swc_ecma_codegen_tree.specs.declared.stmts.IfStmt.{IfStmt}
use Rattle.swc_ecma_codegen_tree.specs.declared.stmts.LabeledStmt.{LabeledStmt}
use Rattle.swc_ecma_codegen_tree.specs.declared.stmts.ReturnStmt.{ReturnStmt}
use Rattle.swc_ecma_codegen_tree.specs.declared.stmts.Stmt.{Stmt}
use Rattle.swc_ecma_codegen_tree.specs.declared.stmts.SwitchCase.{SwitchCase}
use Rattle.swc_ecma_codegen_tree.specs.declared.stmts.SwitchStmt.{SwitchStmt}
use Rattle.swc_ecma_codegen_tree.specs.declared.stmts.ThrowStmt.{ThrowStmt}
use Rattle.swc_ecma_codegen_tree.specs.declared.stmts.TryStmt.{TryStmt}
use Rattle.swc_ecma_codegen_tree.specs.declared.decls.UsingDecl.{UsingDecl}
use Rattle.swc_ecma_codegen_tree.specs.declared.stmts.VarDeclOrExpr.{VarDeclOrExpr}
use Rattle.swc_ecma_codegen_tree.specs.declared.stmts.WhileStmt.{WhileStmt}
use Rattle.swc_ecma_codegen_tree.specs.declared.stmts.WithStmt.{WithStmt}
use Rattle.swc_ecma_codegen_tree.specs.declared.stmts.ForHead.TheVariants as for_heads
use Rattle.swc_ecma_codegen_tree.specs.declared.stmts.Stmt.TheVariants as stmts
use Rattle.swc_ecma_codegen_tree.specs.declared.stmts.VarDeclOrExpr.TheVariants as var_decl_or_exprs
use Rattle.swc_ecma_codegen_tree.specs.Links.{BlockStmtBox, ExprBox, PatBox, StmtBox, VarDeclBox}
use Rattle.swc_ecma_codegen_visit.specs.Mapping.{map_box, map_link, map_option}
use Rattle.swc_ecma_codegen_visit.specs.MappedDecls.{map_decl, map_using_decl}
use Rattle.swc_ecma_codegen_visit.specs.MappedStmts.{map_block_stmt, map_break_stmt, map_catch_clause, map_continue_stmt, map_do_while_stmt}
use Rattle.swc_ecma_codegen_visit.specs.MappedStmts.{map_expr_stmt, map_for_head, map_for_in_stmt, map_for_of_stmt, map_for_stmt}
use Rattle.swc_ecma_codegen_visit.specs.MappedStmts.{map_if_stmt, map_labeled_stmt, map_return_stmt, map_stmt, map_switch_case}
use Rattle.swc_ecma_codegen_visit.specs.MappedStmts.{map_switch_stmt, map_throw_stmt, map_try_stmt, map_var_decl_or_expr, map_while_stmt}
use Rattle.swc_ecma_codegen_visit.specs.MappedStmts.{map_with_stmt}
use Rattle.swc_ecma_codegen_visit.proofs.Rules.{option_kept}

pub in_return_stmt : {X : Type 0} (f : X → X) (D : ReturnStmt X → ReturnStmt X) {to_a : Option (ExprBox X) → Option (ExprBox X)} → ((n :
    ReturnStmt X) (a : Option (ExprBox X)) → record n { arg = to_a a } ≡ D (record n { arg = a })) → ((x : Option (ExprBox X)) → map_option
    (map_link f) x ≡ to_a x) → (n : ReturnStmt X) → map_return_stmt (λ x. x) f n ≡ D n
in_return_stmt f D is at_a n = (λ i. record n { arg = at_a n.arg i }) ∙ is n n.arg

pub kept_break_stmt : (n : BreakStmt) → map_break_stmt (λ x. x) n ≡ n
kept_break_stmt n = λ i. record n { label = (option_kept (λ x. refl)) n.label i }

pub kept_continue_stmt : (n : ContinueStmt) → map_continue_stmt (λ x. x) n ≡ n
kept_continue_stmt n = λ i. record n { label = (option_kept (λ x. refl)) n.label i }

pub in_if_stmt : {X : Type 0} (f : X → X) (D : IfStmt X → IfStmt X) {to_a : Option (StmtBox X) → Option (StmtBox X)} → ((n : IfStmt X) (a :
    Option (StmtBox X)) → record n { test = map_link f n.test; cons = map_link f n.cons; alt = to_a a } ≡ D (record n { alt = a })) → ((x :
    Option (StmtBox X)) → map_option (map_link f) x ≡ to_a x) → (n : IfStmt X) → map_if_stmt (λ x. x) f n ≡ D n
in_if_stmt f D is at_a n = (λ i. record n { test = map_link f n.test; cons = map_link f n.cons; alt = at_a n.alt i }) ∙ is n n.alt

pub in_switch_case : {X : Type 0} (f : X → X) (D : SwitchCase X → SwitchCase X) {to_a : Option (ExprBox X) → Option (ExprBox X)} → ((n :
    SwitchCase X) (a : Option (ExprBox X)) → record n { test = to_a a; cons = vec_mapped (map_link f) n.cons } ≡ D (record n { test = a }))
    → ((x : Option (ExprBox X)) → map_option (map_link f) x ≡ to_a x) → (n : SwitchCase X) → map_switch_case (λ x. x) f n ≡ D n
in_switch_case f D is at_a n = (λ i. record n { test = at_a n.test i; cons = vec_mapped (map_link f) n.cons }) ∙ is n n.test

pub in_switch_stmt : {X : Type 0} (f : X → X) (D : SwitchStmt X → SwitchStmt X)
    {to_a : Vec (SwitchCase X) Global → Vec (SwitchCase X) Global} → ((n : SwitchStmt X) (a : Vec (SwitchCase X) Global) → record n
    { discriminant = map_link f n.discriminant; cases = to_a a } ≡ D (record n { cases = a })) → ((x : Vec (SwitchCase X) Global) →
    vec_mapped (map_switch_case (λ x. x) f) x ≡ to_a x) → (n : SwitchStmt X) → map_switch_stmt (λ x. x) f n ≡ D n
in_switch_stmt f D is at_a n = (λ i. record n { discriminant = map_link f n.discriminant; cases = at_a n.cases i }) ∙ is n n.cases

pub in_catch_clause : {X : Type 0} (f : X → X) (D : CatchClause X → CatchClause X) {to_a : Option (PatBox X) → Option (PatBox X)} → ((n :
    CatchClause X) (a : Option (PatBox X)) → record n { param = to_a a; body = map_link f n.body } ≡ D (record n { param = a })) → ((x :
    Option (PatBox X)) → map_option (map_link f) x ≡ to_a x) → (n : CatchClause X) → map_catch_clause (λ x. x) f n ≡ D n
in_catch_clause f D is at_a n = (λ i. record n { param = at_a n.param i; body = map_link f n.body }) ∙ is n n.param

pub in_try_stmt : {X : Type 0} (f : X → X) (D : TryStmt X → TryStmt X) {to_a : Option (CatchClause X) → Option (CatchClause X)}
    {to_b : Option (BlockStmtBox X) → Option (BlockStmtBox X)} → ((n : TryStmt X) (a : Option (CatchClause X)) (b : Option (BlockStmtBox X))
    → record n { block = map_link f n.block; handler = to_a a; finalizer = to_b b } ≡ D (record n { handler = a; finalizer = b })) → ((x :
    Option (CatchClause X)) → map_option (map_catch_clause (λ x. x) f) x ≡ to_a x) → ((x : Option (BlockStmtBox X)) → map_option (map_link
    f) x ≡ to_b x) → (n : TryStmt X) → map_try_stmt (λ x. x) f n ≡ D n
in_try_stmt f D is at_a at_b n = (λ i. record n { block = map_link f n.block; handler = at_a n.handler i; finalizer = at_b n.finalizer i })
    ∙ is n n.handler n.finalizer

pub in_var_decl_or_expr : {X : Type 0} (f : X → X) (D : VarDeclOrExpr X → VarDeclOrExpr X) → ((n : VarDeclBox X) → var_decl_or_exprs.VarDecl
    (map_link f n) ≡ D (var_decl_or_exprs.VarDecl n)) → ((n : ExprBox X) → var_decl_or_exprs.Expr (map_link f n) ≡ D (var_decl_or_exprs.Expr
    n)) → (n : VarDeclOrExpr X) → map_var_decl_or_expr (λ x. x) f n ≡ D n
in_var_decl_or_expr f D is_VarDecl is_Expr (var_decl_or_exprs.VarDecl n) = is_VarDecl n
in_var_decl_or_expr f D is_VarDecl is_Expr (var_decl_or_exprs.Expr n) = is_Expr n

pub in_for_stmt : {X : Type 0} (f : X → X) (D : ForStmt X → ForStmt X) {to_a : Option (VarDeclOrExpr X) → Option (VarDeclOrExpr X)}
    {to_b : Option (ExprBox X) → Option (ExprBox X)} {to_c : Option (ExprBox X) → Option (ExprBox X)} → ((n : ForStmt X) (a : Option
    (VarDeclOrExpr X)) (b : Option (ExprBox X)) (c : Option (ExprBox X)) → record n
    { init = to_a a; test = to_b b; update = to_c c; body = map_link f n.body } ≡ D (record n { init = a; test = b; update = c })) → ((x :
    Option (VarDeclOrExpr X)) → map_option (map_var_decl_or_expr (λ x. x) f) x ≡ to_a x) → ((x : Option (ExprBox X)) → map_option (map_link
    f) x ≡ to_b x) → ((x : Option (ExprBox X)) → map_option (map_link f) x ≡ to_c x) → (n : ForStmt X) → map_for_stmt (λ x. x) f n ≡ D n
in_for_stmt f D is at_a at_b at_c n = (λ i. record n
    { init = at_a n.init i; test = at_b n.test i; update = at_c n.update i; body = map_link f n.body }) ∙ is n n.init n.test n.update

pub in_for_head : {X : Type 0} (f : X → X) (D : ForHead X → ForHead X) {to_UsingDecl : Box (UsingDecl X) Global → Box (UsingDecl X) Global}
    → ((n : VarDeclBox X) → for_heads.VarDecl (map_link f n) ≡ D (for_heads.VarDecl n)) → ((n : Box (UsingDecl X) Global) →
    for_heads.UsingDecl (to_UsingDecl n) ≡ D (for_heads.UsingDecl n)) → ((n : Box (UsingDecl X) Global) → map_box (map_using_decl (λ x. x)
    f) n ≡ to_UsingDecl n) → ((n : PatBox X) → for_heads.Pat (map_link f n) ≡ D (for_heads.Pat n)) → (n : ForHead X) → map_for_head (λ x. x)
    f n ≡ D n
in_for_head f D is_VarDecl is_UsingDecl at_UsingDecl is_Pat (for_heads.VarDecl n) = is_VarDecl n
in_for_head f D is_VarDecl is_UsingDecl at_UsingDecl is_Pat (for_heads.UsingDecl n) = ap for_heads.UsingDecl (at_UsingDecl n) ∙ is_UsingDecl
    n
in_for_head f D is_VarDecl is_UsingDecl at_UsingDecl is_Pat (for_heads.Pat n) = is_Pat n

pub in_for_in_stmt : {X : Type 0} (f : X → X) (D : ForInStmt X → ForInStmt X) {to_a : ForHead X → ForHead X} → ((n : ForInStmt X) (a :
    ForHead X) → record n { left = to_a a; right = map_link f n.right; body = map_link f n.body } ≡ D (record n { left = a })) → ((x :
    ForHead X) → map_for_head (λ x. x) f x ≡ to_a x) → (n : ForInStmt X) → map_for_in_stmt (λ x. x) f n ≡ D n
in_for_in_stmt f D is at_a n = (λ i. record n { left = at_a n.left i; right = map_link f n.right; body = map_link f n.body }) ∙ is n n.left

pub in_for_of_stmt : {X : Type 0} (f : X → X) (D : ForOfStmt X → ForOfStmt X) {to_a : ForHead X → ForHead X} → ((n : ForOfStmt X) (a :
    ForHead X) → record n { left = to_a a; right = map_link f n.right; body = map_link f n.body } ≡ D (record n { left = a })) → ((x :
    ForHead X) → map_for_head (λ x. x) f x ≡ to_a x) → (n : ForOfStmt X) → map_for_of_stmt (λ x. x) f n ≡ D n
in_for_of_stmt f D is at_a n = (λ i. record n { left = at_a n.left i; right = map_link f n.right; body = map_link f n.body }) ∙ is n n.left

pub in_stmt : {X : Type 0} (f : X → X) (D : Stmt X → Stmt X) {to_Return : ReturnStmt X → ReturnStmt X} {to_Break : BreakStmt → BreakStmt}
    {to_Continue : ContinueStmt → ContinueStmt} {to_If : IfStmt X → IfStmt X} {to_Switch : SwitchStmt X → SwitchStmt X}
    {to_Try : TryStmt X → TryStmt X} {to_For : ForStmt X → ForStmt X} {to_ForIn : ForInStmt X → ForInStmt X}
    {to_ForOf : ForOfStmt X → ForOfStmt X} {to_Decl : Decl X → Decl X} → ((n : BlockStmtBox X) → stmts.Block (map_link f n) ≡ D (stmts.Block
    n)) → ((n : EmptyStmt) → stmts.Empty n ≡ D (stmts.Empty n)) → ((n : DebuggerStmt) → stmts.Debugger n ≡ D (stmts.Debugger n)) → ((n :
    WithStmt X) → stmts.With (map_with_stmt (λ x. x) f n) ≡ D (stmts.With n)) → ((n : ReturnStmt X) → stmts.Return (to_Return n) ≡ D
    (stmts.Return n)) → ((n : ReturnStmt X) → map_return_stmt (λ x. x) f n ≡ to_Return n) → ((n : LabeledStmt X) → stmts.Labeled
    (map_labeled_stmt (λ x. x) f n) ≡ D (stmts.Labeled n)) → ((n : BreakStmt) → stmts.Break (to_Break n) ≡ D (stmts.Break n)) → ((n :
    BreakStmt) → map_break_stmt (λ x. x) n ≡ to_Break n) → ((n : ContinueStmt) → stmts.Continue (to_Continue n) ≡ D (stmts.Continue n)) →
    ((n : ContinueStmt) → map_continue_stmt (λ x. x) n ≡ to_Continue n) → ((n : IfStmt X) → stmts.If (to_If n) ≡ D (stmts.If n)) → ((n :
    IfStmt X) → map_if_stmt (λ x. x) f n ≡ to_If n) → ((n : SwitchStmt X) → stmts.Switch (to_Switch n) ≡ D (stmts.Switch n)) → ((n :
    SwitchStmt X) → map_switch_stmt (λ x. x) f n ≡ to_Switch n) → ((n : ThrowStmt X) → stmts.Throw (map_throw_stmt (λ x. x) f n) ≡ D
    (stmts.Throw n)) → ((n : TryStmt X) → stmts.Try (to_Try n) ≡ D (stmts.Try n)) → ((n : TryStmt X) → map_try_stmt (λ x. x) f n ≡ to_Try n)
    → ((n : WhileStmt X) → stmts.While (map_while_stmt (λ x. x) f n) ≡ D (stmts.While n)) → ((n : DoWhileStmt X) → stmts.DoWhile
    (map_do_while_stmt (λ x. x) f n) ≡ D (stmts.DoWhile n)) → ((n : ForStmt X) → stmts.For (to_For n) ≡ D (stmts.For n)) → ((n : ForStmt X)
    → map_for_stmt (λ x. x) f n ≡ to_For n) → ((n : ForInStmt X) → stmts.ForIn (to_ForIn n) ≡ D (stmts.ForIn n)) → ((n : ForInStmt X) →
    map_for_in_stmt (λ x. x) f n ≡ to_ForIn n) → ((n : ForOfStmt X) → stmts.ForOf (to_ForOf n) ≡ D (stmts.ForOf n)) → ((n : ForOfStmt X) →
    map_for_of_stmt (λ x. x) f n ≡ to_ForOf n) → ((n : Decl X) → stmts.Decl (to_Decl n) ≡ D (stmts.Decl n)) → ((n : Decl X) → map_decl (λ x.
    x) f n ≡ to_Decl n) → ((n : ExprStmt X) → stmts.Expr (map_expr_stmt (λ x. x) f n) ≡ D (stmts.Expr n)) → (n : Stmt X) → map_stmt (λ x. x)
    f n ≡ D n
in_stmt f D is_Block is_Empty is_Debugger is_With is_Return at_Return is_Labeled is_Break at_Break is_Continue at_Continue is_If at_If
    is_Switch at_Switch is_Throw is_Try at_Try is_While is_DoWhile is_For at_For is_ForIn at_ForIn is_ForOf at_ForOf is_Decl at_Decl is_Expr
    (stmts.Block n) = is_Block n
in_stmt f D is_Block is_Empty is_Debugger is_With is_Return at_Return is_Labeled is_Break at_Break is_Continue at_Continue is_If at_If
    is_Switch at_Switch is_Throw is_Try at_Try is_While is_DoWhile is_For at_For is_ForIn at_ForIn is_ForOf at_ForOf is_Decl at_Decl is_Expr
    (stmts.Empty n) = is_Empty n
in_stmt f D is_Block is_Empty is_Debugger is_With is_Return at_Return is_Labeled is_Break at_Break is_Continue at_Continue is_If at_If
    is_Switch at_Switch is_Throw is_Try at_Try is_While is_DoWhile is_For at_For is_ForIn at_ForIn is_ForOf at_ForOf is_Decl at_Decl is_Expr
    (stmts.Debugger n) = is_Debugger n
in_stmt f D is_Block is_Empty is_Debugger is_With is_Return at_Return is_Labeled is_Break at_Break is_Continue at_Continue is_If at_If
    is_Switch at_Switch is_Throw is_Try at_Try is_While is_DoWhile is_For at_For is_ForIn at_ForIn is_ForOf at_ForOf is_Decl at_Decl is_Expr
    (stmts.With n) = is_With n
in_stmt f D is_Block is_Empty is_Debugger is_With is_Return at_Return is_Labeled is_Break at_Break is_Continue at_Continue is_If at_If
    is_Switch at_Switch is_Throw is_Try at_Try is_While is_DoWhile is_For at_For is_ForIn at_ForIn is_ForOf at_ForOf is_Decl at_Decl is_Expr
    (stmts.Return n) = ap stmts.Return (at_Return n) ∙ is_Return n
in_stmt f D is_Block is_Empty is_Debugger is_With is_Return at_Return is_Labeled is_Break at_Break is_Continue at_Continue is_If at_If
    is_Switch at_Switch is_Throw is_Try at_Try is_While is_DoWhile is_For at_For is_ForIn at_ForIn is_ForOf at_ForOf is_Decl at_Decl is_Expr
    (stmts.Labeled n) = is_Labeled n
in_stmt f D is_Block is_Empty is_Debugger is_With is_Return at_Return is_Labeled is_Break at_Break is_Continue at_Continue is_If at_If
    is_Switch at_Switch is_Throw is_Try at_Try is_While is_DoWhile is_For at_For is_ForIn at_ForIn is_ForOf at_ForOf is_Decl at_Decl is_Expr
    (stmts.Break n) = ap stmts.Break (at_Break n) ∙ is_Break n
in_stmt f D is_Block is_Empty is_Debugger is_With is_Return at_Return is_Labeled is_Break at_Break is_Continue at_Continue is_If at_If
    is_Switch at_Switch is_Throw is_Try at_Try is_While is_DoWhile is_For at_For is_ForIn at_ForIn is_ForOf at_ForOf is_Decl at_Decl is_Expr
    (stmts.Continue n) = ap stmts.Continue (at_Continue n) ∙ is_Continue n
in_stmt f D is_Block is_Empty is_Debugger is_With is_Return at_Return is_Labeled is_Break at_Break is_Continue at_Continue is_If at_If
    is_Switch at_Switch is_Throw is_Try at_Try is_While is_DoWhile is_For at_For is_ForIn at_ForIn is_ForOf at_ForOf is_Decl at_Decl is_Expr
    (stmts.If n) = ap stmts.If (at_If n) ∙ is_If n
in_stmt f D is_Block is_Empty is_Debugger is_With is_Return at_Return is_Labeled is_Break at_Break is_Continue at_Continue is_If at_If
    is_Switch at_Switch is_Throw is_Try at_Try is_While is_DoWhile is_For at_For is_ForIn at_ForIn is_ForOf at_ForOf is_Decl at_Decl is_Expr
    (stmts.Switch n) = ap stmts.Switch (at_Switch n) ∙ is_Switch n
in_stmt f D is_Block is_Empty is_Debugger is_With is_Return at_Return is_Labeled is_Break at_Break is_Continue at_Continue is_If at_If
    is_Switch at_Switch is_Throw is_Try at_Try is_While is_DoWhile is_For at_For is_ForIn at_ForIn is_ForOf at_ForOf is_Decl at_Decl is_Expr
    (stmts.Throw n) = is_Throw n
in_stmt f D is_Block is_Empty is_Debugger is_With is_Return at_Return is_Labeled is_Break at_Break is_Continue at_Continue is_If at_If
    is_Switch at_Switch is_Throw is_Try at_Try is_While is_DoWhile is_For at_For is_ForIn at_ForIn is_ForOf at_ForOf is_Decl at_Decl is_Expr
    (stmts.Try n) = ap stmts.Try (at_Try n) ∙ is_Try n
in_stmt f D is_Block is_Empty is_Debugger is_With is_Return at_Return is_Labeled is_Break at_Break is_Continue at_Continue is_If at_If
    is_Switch at_Switch is_Throw is_Try at_Try is_While is_DoWhile is_For at_For is_ForIn at_ForIn is_ForOf at_ForOf is_Decl at_Decl is_Expr
    (stmts.While n) = is_While n
in_stmt f D is_Block is_Empty is_Debugger is_With is_Return at_Return is_Labeled is_Break at_Break is_Continue at_Continue is_If at_If
    is_Switch at_Switch is_Throw is_Try at_Try is_While is_DoWhile is_For at_For is_ForIn at_ForIn is_ForOf at_ForOf is_Decl at_Decl is_Expr
    (stmts.DoWhile n) = is_DoWhile n
in_stmt f D is_Block is_Empty is_Debugger is_With is_Return at_Return is_Labeled is_Break at_Break is_Continue at_Continue is_If at_If
    is_Switch at_Switch is_Throw is_Try at_Try is_While is_DoWhile is_For at_For is_ForIn at_ForIn is_ForOf at_ForOf is_Decl at_Decl is_Expr
    (stmts.For n) = ap stmts.For (at_For n) ∙ is_For n
in_stmt f D is_Block is_Empty is_Debugger is_With is_Return at_Return is_Labeled is_Break at_Break is_Continue at_Continue is_If at_If
    is_Switch at_Switch is_Throw is_Try at_Try is_While is_DoWhile is_For at_For is_ForIn at_ForIn is_ForOf at_ForOf is_Decl at_Decl is_Expr
    (stmts.ForIn n) = ap stmts.ForIn (at_ForIn n) ∙ is_ForIn n
in_stmt f D is_Block is_Empty is_Debugger is_With is_Return at_Return is_Labeled is_Break at_Break is_Continue at_Continue is_If at_If
    is_Switch at_Switch is_Throw is_Try at_Try is_While is_DoWhile is_For at_For is_ForIn at_ForIn is_ForOf at_ForOf is_Decl at_Decl is_Expr
    (stmts.ForOf n) = ap stmts.ForOf (at_ForOf n) ∙ is_ForOf n
in_stmt f D is_Block is_Empty is_Debugger is_With is_Return at_Return is_Labeled is_Break at_Break is_Continue at_Continue is_If at_If
    is_Switch at_Switch is_Throw is_Try at_Try is_While is_DoWhile is_For at_For is_ForIn at_ForIn is_ForOf at_ForOf is_Decl at_Decl is_Expr
    (stmts.Decl n) = ap stmts.Decl (at_Decl n) ∙ is_Decl n
in_stmt f D is_Block is_Empty is_Debugger is_With is_Return at_Return is_Labeled is_Break at_Break is_Continue at_Continue is_If at_If
    is_Switch at_Switch is_Throw is_Try at_Try is_While is_DoWhile is_For at_For is_ForIn at_ForIn is_ForOf at_ForOf is_Decl at_Decl is_Expr
    (stmts.Expr n) = is_Expr n

pub in_block_stmt : {X : Type 0} (f : X → X) (D : BlockStmt X → BlockStmt X) {to_a : Vec (Stmt X) Global → Vec (Stmt X) Global} → ((n :
    BlockStmt X) (a : Vec (Stmt X) Global) → record n { stmts = to_a a } ≡ D (record n { stmts = a })) → ((x : Vec (Stmt X) Global) →
    vec_mapped (map_stmt (λ x. x) f) x ≡ to_a x) → (n : BlockStmt X) → map_block_stmt (λ x. x) f n ≡ D n
in_block_stmt f D is at_a n = (λ i. record n { stmts = at_a n.stmts i }) ∙ is n n.stmts
