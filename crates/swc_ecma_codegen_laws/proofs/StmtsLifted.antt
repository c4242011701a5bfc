-- Stmts: a law of the words holds of the plan.
use Rattle.std.proofs.Common.{refl}
use Rattle.swc_ecma_codegen_laws.proofs.Children.{children_hold}
use Rattle.swc_ecma_codegen_laws.proofs.Children.{ChildrenHold}
use Rattle.std.specs.Prelude.{ℕ, Bool, true, false, List, map, codes, Option, Some, None}
use Rattle.swc_ecma_codegen_common.specs.declared.positions.Span.{Span}
use Rattle.swc_ecma_codegen_tree.specs.Links.{BlockStmtBox, ExprBox, PatBox, StmtBox}
use Rattle.swc_ecma_codegen_tree.specs.declared.idents.Ident.{Ident}
use Rattle.swc_ecma_codegen_tree.specs.declared.stmts.BreakStmt.{BreakStmt}
use Rattle.swc_ecma_codegen_tree.specs.declared.stmts.CatchClause.{CatchClause}
use Rattle.swc_ecma_codegen_tree.specs.declared.stmts.ContinueStmt.{ContinueStmt}
use Rattle.swc_ecma_codegen_tree.specs.declared.stmts.DebuggerStmt.{DebuggerStmt}
use Rattle.swc_ecma_codegen_tree.specs.declared.stmts.DoWhileStmt.{DoWhileStmt}
use Rattle.swc_ecma_codegen_tree.specs.declared.stmts.EmptyStmt.{EmptyStmt}
use Rattle.swc_ecma_codegen_tree.specs.declared.stmts.ExprStmt.{ExprStmt}
use Rattle.swc_ecma_codegen_tree.specs.declared.stmts.ForHead.{ForHead}
use Rattle.swc_ecma_codegen_tree.specs.declared.stmts.ForHead.TheVariants as heads
use Rattle.swc_ecma_codegen_tree.specs.declared.stmts.ForInStmt.{ForInStmt}
use Rattle.swc_ecma_codegen_tree.specs.declared.stmts.ForOfStmt.{ForOfStmt}
use Rattle.swc_ecma_codegen_tree.specs.declared.stmts.ForStmt.{ForStmt}
use Rattle.swc_ecma_codegen_tree.specs.declared.stmts.IfStmt.{IfStmt}
use Rattle.swc_ecma_codegen_tree.specs.declared.stmts.LabeledStmt.{LabeledStmt}
use Rattle.swc_ecma_codegen_tree.specs.declared.stmts.ReturnStmt.{ReturnStmt}
use Rattle.swc_ecma_codegen_tree.specs.declared.stmts.Stmt.{Stmt}
use Rattle.swc_ecma_codegen_tree.specs.declared.stmts.Stmt.TheVariants as stmts
use Rattle.swc_ecma_codegen_tree.specs.declared.stmts.SwitchCase.{SwitchCase}
use Rattle.swc_ecma_codegen_tree.specs.declared.stmts.SwitchStmt.{SwitchStmt}
use Rattle.swc_ecma_codegen_tree.specs.declared.stmts.ThrowStmt.{ThrowStmt}
use Rattle.swc_ecma_codegen_tree.specs.declared.stmts.TryStmt.{TryStmt}
use Rattle.swc_ecma_codegen_tree.specs.declared.stmts.VarDeclOrExpr.{VarDeclOrExpr}
use Rattle.swc_ecma_codegen_tree.specs.declared.stmts.VarDeclOrExpr.TheVariants as inits
use Rattle.swc_ecma_codegen_tree.specs.declared.stmts.WhileStmt.{WhileStmt}
use Rattle.swc_ecma_codegen_tree.specs.declared.stmts.WithStmt.{WithStmt}
use Rattle.swc_ecma_codegen_spans.specs.Spans.{stmt_span}
use Rattle.swc_ecma_codegen_settings.specs.Ends.{head_ends}
use Rattle.swc_ecma_codegen_tokens.specs.Run.{Part}
use Rattle.swc_ecma_codegen_emit.specs.declared.nodes.Context.TheVariants.{Plain, Statement}
use Rattle.swc_ecma_codegen_emit.specs.Places.{Whole}
use Rattle.swc_ecma_codegen_emit.specs.Answers.{place_of}
use Rattle.swc_ecma_codegen_emit.specs.Branches.{is_block}
use Rattle.swc_ecma_codegen_emit.specs.Lists.{child_of}
use Rattle.swc_ecma_codegen_emit.specs.Stmts.{is_single}
use Rattle.swc_ecma_codegen_laws.proofs.OfWords.{OfWords, Known, asks_in, items_in, either, blank_if_holds, optional_parentheses_hold}
use Rattle.swc_ecma_codegen_emit.specs.Stmts.{enclosed, spaced, argument_in, argument, stmt_word, spaced_word, jump, empty_stmt, expr_stmt, debugger_stmt, with_stmt, return_arg, return_stmt, labeled_stmt, break_stmt, continue_stmt, else_branch, if_stmt, catch_param, catch_clause, handler, finalizer, try_stmt, throw_stmt, cases_format, case_test, case_children, case_stmts, switch_case, case_place, cases, switch_cases, switch_stmt, while_stmt, loop_test, do_while_stmt, var_decl_or_expr, for_init, for_value, for_clause, for_control, for_stmt, for_head, for_right, for_each, for_in_stmt, for_await, for_of_stmt, stmt_parts, stmt_closed, stmt}
use Rattle.swc_ecma_codegen_laws.proofs.DeclsLifted.{decl_holds, using_decl_holds}
use Rattle.swc_ecma_codegen_laws.proofs.ExprsLifted.{blank_holds, ident_holds, opened_holds}
use Rattle.swc_ecma_codegen_laws.proofs.FunctionExprsLifted.{optional_name_holds}

pub enclosed_holds : {X : Type 0} {holds : Bool → Part → Type 0} (known : Known holds X) (bounded : Bool) (n : ExprBox X) → holds bounded (enclosed (items_in known) n)
unfolding enclosed
enclosed_holds known bounded n = known.words.and_then bounded (known.words.punct bounded (codes "(")) (known.words.and_then bounded (known.law bounded n.node.value (Whole Plain)) (known.words.punct bounded (codes ")")))

pub spaced_holds : {X : Type 0} {holds : Bool → Part → Type 0} (known : Known holds X) (bounded : Bool) (x : X) → holds bounded (spaced (asks_in known) (items_in known) x)
unfolding spaced
spaced_holds known bounded x = known.words.and_then bounded (blank_holds known.words bounded ((asks_in known) x).starts) (known.law bounded x (Whole Plain))

pub argument_in_holds : {X : Type 0} {holds : Bool → Part → Type 0} (known : Known holds X) (bounded : Bool) (x : X) (x3 : Bool) → holds bounded (argument_in (asks_in known) (items_in known) x x3)
unfolding argument_in
argument_in_holds known bounded x true = optional_parentheses_hold known.words bounded true ((items_in known) x (Whole Plain)) (known.law bounded x (Whole Plain))
argument_in_holds known bounded x false = spaced_holds known bounded x

pub argument_holds : {X : Type 0} {holds : Bool → Part → Type 0} (known : Known holds X) (bounded : Bool) (x : X) → holds bounded (argument (asks_in known) (items_in known) x)
unfolding argument
argument_holds known bounded x = known.words.by_maps bounded (λ maps. argument_in (asks_in known) (items_in known) x (((asks_in known) x).breaks maps)) (λ maps. (argument_in_holds known bounded x (((asks_in known) x).breaks maps)))

pub stmt_word_holds : {holds : Bool → Part → Type 0} (words : OfWords holds) (bounded : Bool) (span : Span) (t : List ℕ) → holds bounded (stmt_word span t)
unfolding stmt_word
stmt_word_holds words bounded span t = words.and_then bounded (words.commit_pending_semi bounded) (words.and_then bounded (opened_holds words bounded span) (words.keyword bounded None t))

pub spaced_word_holds : {holds : Bool → Part → Type 0} (words : OfWords holds) (bounded : Bool) (span : Span) (t : List ℕ) → holds bounded (spaced_word span t)
unfolding spaced_word
spaced_word_holds words bounded span t = words.and_then bounded (words.leading_comments bounded span.lo) (words.and_then bounded (words.commit_pending_semi bounded) (words.and_then bounded (words.position bounded span.lo) (words.and_then bounded (words.keyword bounded None t) (words.formatting_space bounded))))

pub jump_holds : {holds : Bool → Part → Type 0} (words : OfWords holds) (bounded : Bool) (span : Span) (t : List ℕ) (label : Option Ident) → holds bounded (jump span t label)
unfolding jump
jump_holds words bounded span t label = words.and_then bounded (words.commit_pending_semi bounded) (words.and_then bounded (words.position bounded span.lo) (words.and_then bounded (words.keyword bounded None t) (words.and_then bounded (optional_name_holds words bounded label) (words.semi bounded))))

pub empty_stmt_holds : {holds : Bool → Part → Type 0} (words : OfWords holds) (bounded : Bool) (n : EmptyStmt) → holds bounded (empty_stmt n)
unfolding empty_stmt
empty_stmt_holds words bounded n = words.and_then bounded (words.leading_comments bounded n.span.lo) (words.punct bounded (codes ";"))

pub expr_stmt_holds : {X : Type 0} {holds : Bool → Part → Type 0} (known : Known holds X) (bounded : Bool) (n : ExprStmt X) → holds bounded (expr_stmt (items_in known) n)
unfolding expr_stmt
expr_stmt_holds known bounded n = known.words.and_then bounded (known.words.leading_comments bounded n.span.lo) (known.words.and_then bounded (known.law bounded n.expr.node.value (Whole Plain)) (known.words.semi bounded))

pub debugger_stmt_holds : {holds : Bool → Part → Type 0} (words : OfWords holds) (bounded : Bool) (n : DebuggerStmt) → holds bounded (debugger_stmt n)
unfolding debugger_stmt
debugger_stmt_holds words bounded n = words.and_then bounded (words.commit_pending_semi bounded) (words.and_then bounded (words.leading_comments bounded n.span.lo) (words.and_then bounded (words.keyword bounded (Some n.span) (codes "debugger")) (words.semi bounded)))

pub with_stmt_holds : {X : Type 0} {holds : Bool → Part → Type 0} (known : Known holds X) (bounded : Bool) (n : WithStmt X) → holds bounded (with_stmt (items_in known) n)
unfolding with_stmt
with_stmt_holds known bounded n = known.words.and_then bounded (known.words.commit_pending_semi bounded) (known.words.and_then bounded (known.words.position bounded n.span.lo) (known.words.and_then bounded (known.words.keyword bounded None (codes "with")) (known.words.and_then bounded (known.words.formatting_space bounded) (known.words.and_then bounded (enclosed_holds known bounded n.obj) (known.law bounded n.body.node.value (Whole Plain))))))

pub return_arg_holds : {X : Type 0} {holds : Bool → Part → Type 0} (known : Known holds X) (bounded : Bool) (x2 : Option (ExprBox X)) → holds bounded (return_arg (asks_in known) (items_in known) x2)
unfolding return_arg
return_arg_holds known bounded None = known.words.none bounded
return_arg_holds known bounded (Some n) = argument_holds known bounded n.node.value

pub return_stmt_holds : {X : Type 0} {holds : Bool → Part → Type 0} (known : Known holds X) (bounded : Bool) (n : ReturnStmt X) → holds bounded (return_stmt (asks_in known) (items_in known) n)
unfolding return_stmt
return_stmt_holds known bounded n = known.words.and_then bounded (stmt_word_holds known.words bounded n.span (codes "return")) (known.words.and_then bounded (return_arg_holds known bounded n.arg) (known.words.semi bounded))

pub labeled_stmt_holds : {X : Type 0} {holds : Bool → Part → Type 0} (known : Known holds X) (bounded : Bool) (n : LabeledStmt X) → holds bounded (labeled_stmt (items_in known) n)
unfolding labeled_stmt
labeled_stmt_holds known bounded n = known.words.and_then bounded (known.words.commit_pending_semi bounded) (known.words.and_then bounded (ident_holds known.words bounded n.label) (known.words.and_then bounded (known.words.punct bounded (codes ":")) (known.words.and_then bounded (known.words.formatting_space bounded) (known.law bounded n.body.node.value (Whole Plain)))))

pub break_stmt_holds : {holds : Bool → Part → Type 0} (words : OfWords holds) (bounded : Bool) (n : BreakStmt) → holds bounded (break_stmt n)
unfolding break_stmt
break_stmt_holds words bounded n = jump_holds words bounded n.span (codes "break") n.label

pub continue_stmt_holds : {holds : Bool → Part → Type 0} (words : OfWords holds) (bounded : Bool) (n : ContinueStmt) → holds bounded (continue_stmt n)
unfolding continue_stmt
continue_stmt_holds words bounded n = jump_holds words bounded n.span (codes "continue") n.label

pub else_branch_holds : {X : Type 0} {holds : Bool → Part → Type 0} (known : Known holds X) (bounded : Bool) (block : Bool) (x3 : Option (StmtBox X)) → holds bounded (else_branch (asks_in known) (items_in known) block x3)
unfolding else_branch
else_branch_holds known bounded block None = known.words.none bounded
else_branch_holds known bounded block (Some n) = known.words.and_then bounded (blank_if_holds known.words bounded block) (known.words.and_then bounded (known.words.keyword bounded None (codes "else")) (spaced_holds known bounded n.node.value))

pub if_stmt_holds : {X : Type 0} {holds : Bool → Part → Type 0} (known : Known holds X) (bounded : Bool) (n : IfStmt X) → holds bounded (if_stmt (asks_in known) (items_in known) n)
unfolding if_stmt
if_stmt_holds known bounded n = known.words.and_then bounded (spaced_word_holds known.words bounded n.span (codes "if")) (known.words.and_then bounded (enclosed_holds known bounded n.test) (known.words.and_then bounded (known.words.formatting_space bounded) (known.words.and_then bounded (known.law bounded n.cons.node.value (Whole Plain)) (else_branch_holds known bounded ((asks_in known) n.cons.node.value).block n.alt))))

pub catch_param_holds : {X : Type 0} {holds : Bool → Part → Type 0} (known : Known holds X) (bounded : Bool) (x1 : Option (PatBox X)) → holds bounded (catch_param (items_in known) x1)
unfolding catch_param
catch_param_holds known bounded None = known.words.none bounded
catch_param_holds known bounded (Some n) = known.words.and_then bounded (known.words.punct bounded (codes "(")) (known.words.and_then bounded (known.law bounded n.node.value (Whole Plain)) (known.words.punct bounded (codes ")")))

pub catch_clause_holds : {X : Type 0} {holds : Bool → Part → Type 0} (known : Known holds X) (bounded : Bool) (n : CatchClause X) → holds bounded (catch_clause (items_in known) n)
unfolding catch_clause
catch_clause_holds known bounded n = known.words.and_then bounded (opened_holds known.words bounded n.span) (known.words.and_then bounded (known.words.keyword bounded None (codes "catch")) (known.words.and_then bounded (known.words.formatting_space bounded) (known.words.and_then bounded (catch_param_holds known bounded n.param) (known.words.and_then bounded (known.words.formatting_space bounded) (known.law bounded n.body.node.value (Whole Plain))))))

pub handler_holds : {X : Type 0} {holds : Bool → Part → Type 0} (known : Known holds X) (bounded : Bool) (x1 : Option (CatchClause X)) → holds bounded (handler (items_in known) x1)
unfolding handler
handler_holds known bounded None = known.words.none bounded
handler_holds known bounded (Some n) = known.words.and_then bounded (known.words.formatting_space bounded) (catch_clause_holds known bounded n)

pub finalizer_holds : {X : Type 0} {holds : Bool → Part → Type 0} (known : Known holds X) (bounded : Bool) (x1 : Option (BlockStmtBox X)) → holds bounded (finalizer (items_in known) x1)
unfolding finalizer
finalizer_holds known bounded None = known.words.none bounded
finalizer_holds known bounded (Some n) = known.words.and_then bounded (known.words.formatting_space bounded) (known.words.and_then bounded (known.words.keyword bounded None (codes "finally")) (known.law bounded n.node.value (Whole Plain)))

pub try_stmt_holds : {X : Type 0} {holds : Bool → Part → Type 0} (known : Known holds X) (bounded : Bool) (n : TryStmt X) → holds bounded (try_stmt (items_in known) n)
unfolding try_stmt
try_stmt_holds known bounded n = known.words.and_then bounded (spaced_word_holds known.words bounded n.span (codes "try")) (known.words.and_then bounded (known.law bounded n.block.node.value (Whole Plain)) (known.words.and_then bounded (handler_holds known bounded n.handler) (finalizer_holds known bounded n.finalizer)))

pub throw_stmt_holds : {X : Type 0} {holds : Bool → Part → Type 0} (known : Known holds X) (bounded : Bool) (n : ThrowStmt X) → holds bounded (throw_stmt (asks_in known) (items_in known) n)
unfolding throw_stmt
throw_stmt_holds known bounded n = known.words.and_then bounded (opened_holds known.words bounded n.span) (known.words.and_then bounded (known.words.keyword bounded None (codes "throw")) (known.words.and_then bounded (argument_holds known bounded n.arg.node.value) (known.words.semi bounded)))

pub case_test_holds : {X : Type 0} {holds : Bool → Part → Type 0} (known : Known holds X) (bounded : Bool) (x2 : Option (ExprBox X)) → holds bounded (case_test (asks_in known) (items_in known) x2)
unfolding case_test
case_test_holds known bounded None = known.words.keyword bounded None (codes "default")
case_test_holds known bounded (Some n) = known.words.and_then bounded (known.words.keyword bounded None (codes "case")) (spaced_holds known bounded n.node.value)

pub case_children_holds : {X : Type 0} {holds : Bool → Part → Type 0} (known : Known holds X) (bounded : Bool) (ns : List (StmtBox X)) → ChildrenHold holds bounded (case_children (asks_in known) (items_in known) ns)
case_children_holds known bounded ns = children_hold _ _ (λ s. ((asks_in known) s.node.value).place) (λ s place. (items_in known) s.node.value place) (λ s. (known.law bounded s.node.value (Whole Plain))) ns

pub case_stmts_hold : {X : Type 0} {holds : Bool → Part → Type 0} (known : Known holds X) (bounded : Bool) (n : SwitchCase X) → holds bounded (case_stmts (asks_in known) (items_in known) n)
case_stmts_hold known bounded n = known.words.case_list bounded (λ lines. is_single (asks_in known) lines n.span n.cons.items) n.span (case_children (asks_in known) (items_in known) n.cons.items) (case_children_holds known bounded n.cons.items)

pub switch_case_holds : {X : Type 0} {holds : Bool → Part → Type 0} (known : Known holds X) (bounded : Bool) (n : SwitchCase X) → holds bounded (switch_case (asks_in known) (items_in known) n)
unfolding switch_case
switch_case_holds known bounded n = known.words.and_then bounded (opened_holds known.words bounded n.span) (known.words.and_then bounded (case_test_holds known bounded n.test) (case_stmts_hold known bounded n))

pub cases_holds : {X : Type 0} {holds : Bool → Part → Type 0} (known : Known holds X) (bounded : Bool) (n : SwitchStmt X) → holds bounded (cases (asks_in known) (items_in known) n)
cases_holds known bounded n = known.words.list bounded cases_format refl n.span (map (child_of case_place (λ c place. switch_case (asks_in known) (items_in known) c)) n.cases.items) (children_hold _ _ case_place (λ c place. switch_case (asks_in known) (items_in known) c) (λ c. (switch_case_holds known bounded c)) n.cases.items)

pub switch_cases_holds : {X : Type 0} {holds : Bool → Part → Type 0} (known : Known holds X) (bounded : Bool) (n : SwitchStmt X) → holds bounded (switch_cases (asks_in known) (items_in known) n)
unfolding switch_cases
switch_cases_holds known bounded n = known.words.and_then bounded (known.words.punct bounded (codes "{")) (known.words.and_then bounded (cases_holds known bounded n) (known.words.and_then bounded (known.words.last_of bounded n.span) (known.words.punct bounded (codes "}"))))

pub switch_stmt_holds : {X : Type 0} {holds : Bool → Part → Type 0} (known : Known holds X) (bounded : Bool) (n : SwitchStmt X) → holds bounded (switch_stmt (asks_in known) (items_in known) n)
unfolding switch_stmt
switch_stmt_holds known bounded n = known.words.and_then bounded (stmt_word_holds known.words bounded n.span (codes "switch")) (known.words.and_then bounded (enclosed_holds known bounded n.discriminant) (switch_cases_holds known bounded n))

pub while_stmt_holds : {X : Type 0} {holds : Bool → Part → Type 0} (known : Known holds X) (bounded : Bool) (n : WhileStmt X) → holds bounded (while_stmt (items_in known) n)
unfolding while_stmt
while_stmt_holds known bounded n = known.words.and_then bounded (stmt_word_holds known.words bounded n.span (codes "while")) (known.words.and_then bounded (enclosed_holds known bounded n.test) (known.law bounded n.body.node.value (Whole Plain)))

pub loop_test_holds : {X : Type 0} {holds : Bool → Part → Type 0} (known : Known holds X) (bounded : Bool) (n : ExprBox X) → holds bounded (loop_test (items_in known) n)
unfolding loop_test
loop_test_holds known bounded n = known.words.and_then bounded (known.words.keyword bounded None (codes "while")) (known.words.and_then bounded (known.words.formatting_space bounded) (enclosed_holds known bounded n))

pub do_while_stmt_holds : {X : Type 0} {holds : Bool → Part → Type 0} (known : Known holds X) (bounded : Bool) (n : DoWhileStmt X) → holds bounded (do_while_stmt (asks_in known) (items_in known) n)
unfolding do_while_stmt
do_while_stmt_holds known bounded n = known.words.and_then bounded (stmt_word_holds known.words bounded n.span (codes "do")) (known.words.and_then bounded (spaced_holds known bounded n.body.node.value) (known.words.and_then bounded (loop_test_holds known bounded n.test) (known.words.and_then bounded (known.words.loop_ending bounded) (known.words.position bounded n.span.hi))))

pub var_decl_or_expr_holds : {X : Type 0} {holds : Bool → Part → Type 0} (known : Known holds X) (bounded : Bool) (x1 : VarDeclOrExpr X) → holds bounded (var_decl_or_expr (items_in known) x1)
unfolding var_decl_or_expr
var_decl_or_expr_holds known bounded (inits.VarDecl n) = known.law bounded n.node.value (Whole Plain)
var_decl_or_expr_holds known bounded (inits.Expr n) = known.law bounded n.node.value (Whole Plain)

pub for_init_holds : {X : Type 0} {holds : Bool → Part → Type 0} (known : Known holds X) (bounded : Bool) (x1 : Option (VarDeclOrExpr X)) → holds bounded (for_init (items_in known) x1)
unfolding for_init
for_init_holds known bounded None = known.words.none bounded
for_init_holds known bounded (Some n) = var_decl_or_expr_holds known bounded n

pub for_value_holds : {X : Type 0} {holds : Bool → Part → Type 0} (known : Known holds X) (bounded : Bool) (x1 : Option (ExprBox X)) → holds bounded (for_value (items_in known) x1)
unfolding for_value
for_value_holds known bounded None = known.words.none bounded
for_value_holds known bounded (Some n) = known.words.and_then bounded (known.words.formatting_space bounded) (known.law bounded n.node.value (Whole Plain))

pub for_clause_holds : {X : Type 0} {holds : Bool → Part → Type 0} (known : Known holds X) (bounded : Bool) (n : Option (ExprBox X)) → holds bounded (for_clause (items_in known) n)
unfolding for_clause
for_clause_holds known bounded n = known.words.and_then bounded (known.words.punct bounded (codes ";")) (for_value_holds known bounded n)

pub for_control_holds : {X : Type 0} {holds : Bool → Part → Type 0} (known : Known holds X) (bounded : Bool) (n : ForStmt X) → holds bounded (for_control (items_in known) n)
unfolding for_control
for_control_holds known bounded n = known.words.and_then bounded (known.words.punct bounded (codes "(")) (known.words.and_then bounded (for_init_holds known bounded n.init) (known.words.and_then bounded (for_clause_holds known bounded n.test) (known.words.and_then bounded (for_clause_holds known bounded n.update) (known.words.punct bounded (codes ")")))))

pub for_stmt_holds : {X : Type 0} {holds : Bool → Part → Type 0} (known : Known holds X) (bounded : Bool) (n : ForStmt X) → holds bounded (for_stmt (items_in known) n)
unfolding for_stmt
for_stmt_holds known bounded n = known.words.and_then bounded (stmt_word_holds known.words bounded n.span (codes "for")) (known.words.and_then bounded (for_control_holds known bounded n) (known.law bounded n.body.node.value (Whole Plain)))

pub for_head_holds : {X : Type 0} {holds : Bool → Part → Type 0} (known : Known holds X) (bounded : Bool) (x2 : ForHead X) → holds bounded (for_head (asks_in known) (items_in known) x2)
unfolding for_head
for_head_holds known bounded (heads.VarDecl n) = known.law bounded n.node.value (Whole Plain)
for_head_holds known bounded (heads.UsingDecl n) = using_decl_holds known bounded n.value
for_head_holds known bounded (heads.Pat n) = known.law bounded n.node.value (Whole Plain)

pub for_right_holds : {X : Type 0} {holds : Bool → Part → Type 0} (known : Known holds X) (bounded : Bool) (t : List ℕ) (ends : Bool) (n : ExprBox X) → holds bounded (for_right (asks_in known) (items_in known) t ends n)
unfolding for_right
for_right_holds known bounded t ends n = known.words.and_then bounded (blank_holds known.words bounded ends) (known.words.and_then bounded (known.words.keyword bounded None t) (spaced_holds known bounded n.node.value))

pub for_each_holds : {X : Type 0} {holds : Bool → Part → Type 0} (known : Known holds X) (bounded : Bool) (t : List ℕ) (left : ForHead X) (right : ExprBox X) → holds bounded (for_each (asks_in known) (items_in known) t left right)
unfolding for_each
for_each_holds known bounded t left right = known.words.and_then bounded (known.words.punct bounded (codes "(")) (known.words.and_then bounded (for_head_holds known bounded left) (known.words.and_then bounded (for_right_holds known bounded t (head_ends (λ x. ((asks_in known) x).ends) left) right) (known.words.punct bounded (codes ")"))))

pub for_in_stmt_holds : {X : Type 0} {holds : Bool → Part → Type 0} (known : Known holds X) (bounded : Bool) (n : ForInStmt X) → holds bounded (for_in_stmt (asks_in known) (items_in known) n)
unfolding for_in_stmt
for_in_stmt_holds known bounded n = known.words.and_then bounded (stmt_word_holds known.words bounded n.span (codes "for")) (known.words.and_then bounded (for_each_holds known bounded (codes "in") n.left n.right) (known.law bounded n.body.node.value (Whole Plain)))

pub for_await_holds : {holds : Bool → Part → Type 0} (words : OfWords holds) (bounded : Bool) (wanted : Bool) → holds bounded (for_await wanted)
unfolding for_await
for_await_holds words bounded wanted = either words bounded wanted (words.and_then bounded (words.space bounded) (words.keyword bounded None (codes "await"))) (words.none bounded)

pub for_of_stmt_holds : {X : Type 0} {holds : Bool → Part → Type 0} (known : Known holds X) (bounded : Bool) (n : ForOfStmt X) → holds bounded (for_of_stmt (asks_in known) (items_in known) n)
unfolding for_of_stmt
for_of_stmt_holds known bounded n = known.words.and_then bounded (stmt_word_holds known.words bounded n.span (codes "for")) (known.words.and_then bounded (for_await_holds known.words bounded n.is_await) (known.words.and_then bounded (known.words.formatting_space bounded) (known.words.and_then bounded (for_each_holds known bounded (codes "of") n.left n.right) (known.law bounded n.body.node.value (Whole Plain)))))

pub stmt_parts_holds : {X : Type 0} {holds : Bool → Part → Type 0} (known : Known holds X) (bounded : Bool) (x2 : Stmt X) → holds bounded (stmt_parts (asks_in known) (items_in known) x2)
unfolding stmt_parts
stmt_parts_holds known bounded (stmts.Block n) = known.law bounded n.node.value (Whole Plain)
stmt_parts_holds known bounded (stmts.Empty n) = empty_stmt_holds known.words bounded n
stmt_parts_holds known bounded (stmts.Debugger n) = debugger_stmt_holds known.words bounded n
stmt_parts_holds known bounded (stmts.With n) = with_stmt_holds known bounded n
stmt_parts_holds known bounded (stmts.Return n) = return_stmt_holds known bounded n
stmt_parts_holds known bounded (stmts.Labeled n) = labeled_stmt_holds known bounded n
stmt_parts_holds known bounded (stmts.Break n) = break_stmt_holds known.words bounded n
stmt_parts_holds known bounded (stmts.Continue n) = continue_stmt_holds known.words bounded n
stmt_parts_holds known bounded (stmts.If n) = if_stmt_holds known bounded n
stmt_parts_holds known bounded (stmts.Switch n) = switch_stmt_holds known bounded n
stmt_parts_holds known bounded (stmts.Throw n) = throw_stmt_holds known bounded n
stmt_parts_holds known bounded (stmts.Try n) = try_stmt_holds known bounded n
stmt_parts_holds known bounded (stmts.While n) = while_stmt_holds known bounded n
stmt_parts_holds known bounded (stmts.DoWhile n) = do_while_stmt_holds known bounded n
stmt_parts_holds known bounded (stmts.For n) = for_stmt_holds known bounded n
stmt_parts_holds known bounded (stmts.ForIn n) = for_in_stmt_holds known bounded n
stmt_parts_holds known bounded (stmts.ForOf n) = for_of_stmt_holds known bounded n
stmt_parts_holds known bounded (stmts.Decl n) = decl_holds known bounded n (Whole Statement)
stmt_parts_holds known bounded (stmts.Expr n) = expr_stmt_holds known bounded n

pub stmt_closed_holds : {holds : Bool → Part → Type 0} (words : OfWords holds) (bounded : Bool) (block : Bool) (span : Span) → holds bounded (stmt_closed block span)
unfolding stmt_closed
stmt_closed_holds words bounded block span = either words bounded block (words.none bounded) (words.and_then bounded (words.trailing_comments bounded true span.hi) (words.formatting_line bounded))

pub stmt_holds : {X : Type 0} {holds : Bool → Part → Type 0} (known : Known holds X) (bounded : Bool) (n : Stmt X) → holds bounded (stmt (asks_in known) (items_in known) n)
unfolding stmt
stmt_holds known bounded n = known.words.and_then bounded (stmt_parts_holds known bounded n) (stmt_closed_holds known.words bounded (is_block n) (stmt_span (place_of (asks_in known)) n))
