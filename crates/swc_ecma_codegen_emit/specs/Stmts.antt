-- What is written of each statement.
use Rattle.std.specs.Prelude.{ℕ, Bool, true, false, not, if◌then◌else◌, List, [], ◌∷◌, map, codes, Option, Some, None}
use Rattle.swc_ecma_codegen_common.specs.declared.positions.Span.{Span}
use Rattle.swc_ecma_codegen_tree.specs.Links.{BlockStmtBox, ExprBox, PatBox, StmtBox}
use Rattle.swc_ecma_codegen_tree.specs.declared.idents.Ident.{Ident}
use Rattle.swc_ecma_codegen_tree.specs.declared.stmts.BreakStmt.{BreakStmt}
use Rattle.swc_ecma_codegen_tree.specs.declared.stmts.CatchClause.{CatchClause}
use Rattle.swc_ecma_codegen_tree.specs.declared.stmts.ContinueStmt.{ContinueStmt}
use Rattle.swc_ecma_codegen_tree.specs.declared.stmts.DebuggerStmt.{DebuggerStmt}
use Rattle.swc_ecma_codegen_tree.specs.declared.stmts.DoWhileStmt.{DoWhileStmt}
use Rattle.swc_ecma_codegen_tree.specs.declared.stmts.EmptyStmt.{EmptyStmt}
use Rattle.swc_ecma_codegen_tree.specs.declared.stmts.ExprStmt.{ExprStmt}
use Rattle.swc_ecma_codegen_tree.specs.declared.stmts.ForHead.{ForHead}
use Rattle.swc_ecma_codegen_tree.specs.declared.stmts.ForHead.TheVariants as heads
use Rattle.swc_ecma_codegen_tree.specs.declared.stmts.ForInStmt.{ForInStmt}
use Rattle.swc_ecma_codegen_tree.specs.declared.stmts.ForOfStmt.{ForOfStmt}
use Rattle.swc_ecma_codegen_tree.specs.declared.stmts.ForStmt.{ForStmt}
use Rattle.swc_ecma_codegen_tree.specs.declared.stmts.IfStmt.{IfStmt}
use Rattle.swc_ecma_codegen_tree.specs.declared.stmts.LabeledStmt.{LabeledStmt}
use Rattle.swc_ecma_codegen_tree.specs.declared.stmts.ReturnStmt.{ReturnStmt}
use Rattle.swc_ecma_codegen_tree.specs.declared.stmts.Stmt.{Stmt}
use Rattle.swc_ecma_codegen_tree.specs.declared.stmts.Stmt.TheVariants as stmts
use Rattle.swc_ecma_codegen_tree.specs.declared.stmts.SwitchCase.{SwitchCase}
use Rattle.swc_ecma_codegen_tree.specs.declared.stmts.SwitchStmt.{SwitchStmt}
use Rattle.swc_ecma_codegen_tree.specs.declared.stmts.ThrowStmt.{ThrowStmt}
use Rattle.swc_ecma_codegen_tree.specs.declared.stmts.TryStmt.{TryStmt}
use Rattle.swc_ecma_codegen_tree.specs.declared.stmts.VarDeclOrExpr.{VarDeclOrExpr}
use Rattle.swc_ecma_codegen_tree.specs.declared.stmts.VarDeclOrExpr.TheVariants as inits
use Rattle.swc_ecma_codegen_tree.specs.declared.stmts.WhileStmt.{WhileStmt}
use Rattle.swc_ecma_codegen_tree.specs.declared.stmts.WithStmt.{WithStmt}
use Rattle.swc_ecma_codegen_spans.specs.Spans.{stmt_span}
use Rattle.swc_ecma_codegen_grammar.specs.ListFormats.{leading_line}
use Rattle.swc_ecma_codegen_grammar.specs.SourceLines.{Lines}
use Rattle.swc_ecma_codegen_settings.specs.Ends.{head_ends}
use Rattle.swc_ecma_codegen_tokens.specs.Choices.{loop_ending, optional_parentheses}
use Rattle.swc_ecma_codegen_tokens.specs.Lists.{ListChild, by_lines, blank_if, list}
use Rattle.swc_ecma_codegen_tokens.specs.Run.{Part}
use Rattle.swc_ecma_codegen_tokens.specs.Words.{by_maps, keyword, punct, semi, space, formatting_space, formatting_line, commit_pending_semi, start_of, end_of, last_of, leading_comments, trailing_comments}
use Rattle.swc_ecma_codegen_emit.specs.declared.nodes.Context.TheVariants.{Plain, Statement}
use Rattle.swc_ecma_codegen_emit.specs.Places.{Place, Whole}
use Rattle.swc_ecma_codegen_emit.specs.Answers.{Answers, place_of}
use Rattle.swc_ecma_codegen_emit.specs.Branches.{is_block}
use Rattle.swc_ecma_codegen_emit.specs.Decls.{using_decl, decl}
use Rattle.swc_ecma_codegen_emit.specs.Exprs.{blank, space_if, opened, ident}
use Rattle.swc_ecma_codegen_emit.specs.FunctionExprs.{optional_name}
use Rattle.swc_ecma_codegen_emit.specs.Lists.{child_of}

-- ---- parts of statements

-- an expression in parentheses: `(a)`
unfoldable pub enclosed : {X : Type 0} → (X → Place → Part) → ExprBox X → Part
enclosed items n rest = punct (codes "(") (items n.node.value (Whole Plain) (punct (codes ")") rest))

-- a blank, where a word stands before it, and a node: `return a`, minified `return[a]`
unfoldable pub spaced : {X : Type 0} → (X → Answers) → (X → Place → Part) → X → Part
spaced asks items x rest = blank (asks x).starts (items x (Whole Plain) rest)

-- An argument behind such a word, in parentheses where a line ends in or after a comment before it: `return (// a` LF `b)`.
unfoldable pub argument_in : {X : Type 0} → (X → Answers) → (X → Place → Part) → X → Bool → Part
argument_in asks items x true rest = optional_parentheses true (items x (Whole Plain)) rest
argument_in asks items x false rest = spaced asks items x rest

unfoldable pub argument : {X : Type 0} → (X → Answers) → (X → Place → Part) → X → Part
argument asks items x = by_maps (λ maps. argument_in asks items x ((asks x).breaks maps))

-- the word that a statement begins with: `while`
unfoldable pub stmt_word : Span → List ℕ → Part
stmt_word span t rest = commit_pending_semi (opened span (keyword None t rest))

-- such a word and a blank, after the comments before it: `if (a)`
unfoldable pub spaced_word : Span → List ℕ → Part
spaced_word span t rest = leading_comments span.lo (commit_pending_semi (start_of span (keyword None t (formatting_space rest))))

-- `break a;`
unfoldable pub jump : Span → List ℕ → Option Ident → Part
jump span t label rest = commit_pending_semi (start_of span (keyword None t (optional_name label (semi rest))))

-- ---- statements

unfoldable pub empty_stmt : EmptyStmt → Part
empty_stmt n rest = leading_comments n.span.lo (punct (codes ";") rest)

unfoldable pub expr_stmt : {X : Type 0} → (X → Place → Part) → ExprStmt X → Part
expr_stmt items n rest = leading_comments n.span.lo (items n.expr.node.value (Whole Plain) (semi rest))

unfoldable pub debugger_stmt : DebuggerStmt → Part
debugger_stmt n rest = commit_pending_semi (leading_comments n.span.lo (keyword (Some n.span) (codes "debugger") (semi rest)))

-- `with (a) b;`
unfoldable pub with_stmt : {X : Type 0} → (X → Place → Part) → WithStmt X → Part
with_stmt items n rest = commit_pending_semi (start_of n.span (keyword None (codes "with") (formatting_space (enclosed items n.obj (items n.body.node.value (Whole Plain) rest)))))

-- `return a;`, `return;`
unfoldable pub return_arg : {X : Type 0} → (X → Answers) → (X → Place → Part) → Option (ExprBox X) → Part
return_arg asks items None rest = rest
return_arg asks items (Some n) rest = argument asks items n.node.value rest

unfoldable pub return_stmt : {X : Type 0} → (X → Answers) → (X → Place → Part) → ReturnStmt X → Part
return_stmt asks items n rest = stmt_word n.span (codes "return") (return_arg asks items n.arg (semi rest))

-- `a: b;`
unfoldable pub labeled_stmt : {X : Type 0} → (X → Place → Part) → LabeledStmt X → Part
labeled_stmt items n rest = commit_pending_semi (ident n.label (punct (codes ":") (formatting_space (items n.body.node.value (Whole Plain) rest))))

unfoldable pub break_stmt : BreakStmt → Part
break_stmt n rest = jump n.span (codes "break") n.label rest

unfoldable pub continue_stmt : ContinueStmt → Part
continue_stmt n rest = jump n.span (codes "continue") n.label rest

-- `else c;`, behind a blank after a block: else it begins a line
unfoldable pub else_branch : {X : Type 0} → (X → Answers) → (X → Place → Part) → Bool → Option (StmtBox X) → Part
else_branch asks items block None rest = rest
else_branch asks items block (Some n) rest = blank_if block (keyword None (codes "else") (spaced asks items n.node.value rest))

-- `if (a) b; else c;`
unfoldable pub if_stmt : {X : Type 0} → (X → Answers) → (X → Place → Part) → IfStmt X → Part
if_stmt asks items n rest =
    spaced_word n.span (codes "if")
    (enclosed items n.test
    (formatting_space (items n.cons.node.value (Whole Plain) (else_branch asks items (asks n.cons.node.value).block n.alt rest))))

-- `catch {`, `catch (a) {`, with two blanks where nothing is caught
unfoldable pub catch_param : {X : Type 0} → (X → Place → Part) → Option (PatBox X) → Part
catch_param items None rest = rest
catch_param items (Some n) rest = punct (codes "(") (items n.node.value (Whole Plain) (punct (codes ")") rest))

unfoldable pub catch_clause : {X : Type 0} → (X → Place → Part) → CatchClause X → Part
catch_clause items n rest = opened n.span (keyword None (codes "catch") (formatting_space (catch_param items n.param (formatting_space (items n.body.node.value (Whole Plain) rest)))))

unfoldable pub handler : {X : Type 0} → (X → Place → Part) → Option (CatchClause X) → Part
handler items None rest = rest
handler items (Some n) rest = formatting_space (catch_clause items n rest)

-- ` finally{`
unfoldable pub finalizer : {X : Type 0} → (X → Place → Part) → Option (BlockStmtBox X) → Part
finalizer items None rest = rest
finalizer items (Some n) rest = formatting_space (keyword None (codes "finally") (items n.node.value (Whole Plain) rest))

-- `try { a; } catch (b) { c; } finally{ d; }`
unfoldable pub try_stmt : {X : Type 0} → (X → Place → Part) → TryStmt X → Part
try_stmt items n rest = spaced_word n.span (codes "try") (items n.block.node.value (Whole Plain) (handler items n.handler (finalizer items n.finalizer rest)))

unfoldable pub throw_stmt : {X : Type 0} → (X → Answers) → (X → Place → Part) → ThrowStmt X → Part
throw_stmt asks items n rest = opened n.span (keyword None (codes "throw") (argument asks items n.arg.node.value (semi rest)))

-- ---- `switch`

-- `CaseBlockClauses`
abbrev pub cases_format : ℕ
cases_format = 65

-- `PreserveLines`
abbrev pub lines_format : ℕ
lines_format = 2

-- `CaseOrDefaultClauseStatements`, and the same without `MultiLine` and `Indented`
abbrev pub case_format : Bool → ℕ
case_format single = if single then 3072 else 3137

-- `case a`, `default`
unfoldable pub case_test : {X : Type 0} → (X → Answers) → (X → Place → Part) → Option (ExprBox X) → Part
case_test asks items None rest = keyword None (codes "default") rest
case_test asks items (Some n) rest = keyword None (codes "case") (spaced asks items n.node.value rest)

-- There is one statement, on the line of its case as far as the source text says: `case a: b;`
unfoldable pub is_single : {X : Type 0} → (X → Answers) → Lines → Span → List (StmtBox X) → Bool
is_single asks lines span (n ∷ []) = not (leading_line lines lines_format span (asks n.node.value).place)
is_single asks lines span ns = false

-- the statements of a case
unfoldable pub case_body : Bool → Span → List ListChild → Part
case_body single span cs = list (case_format single) span cs

-- the colon and the statements, on the same line where there is a single one
unfoldable pub case_list : Bool → Span → List ListChild → Part
case_list single span cs rest = punct (codes ":") (space_if single (case_body single span cs rest))

-- the statements, as children of a list
abbrev pub case_children : {X : Type 0} → (X → Answers) → (X → Place → Part) → List (StmtBox X) → List ListChild
case_children asks items ns = map (child_of (λ s. (asks s.node.value).place) (λ s place. items s.node.value place)) ns

abbrev pub case_stmts : {X : Type 0} → (X → Answers) → (X → Place → Part) → SwitchCase X → Part
case_stmts asks items n = by_lines (λ lines. case_list (is_single asks lines n.span n.cons.items) n.span (case_children asks items n.cons.items))

unfoldable pub switch_case : {X : Type 0} → (X → Answers) → (X → Place → Part) → SwitchCase X → Part
switch_case asks items n rest = opened n.span (case_test asks items n.test (case_stmts asks items n rest))

abbrev pub case_place : {X : Type 0} → SwitchCase X → Span
case_place n = n.span

-- the cases, each on a line of its own
abbrev pub cases : {X : Type 0} → (X → Answers) → (X → Place → Part) → SwitchStmt X → Part
cases asks items n = list cases_format n.span (map (child_of case_place (λ c place. switch_case asks items c)) n.cases.items)

-- `{ case a: b; }`
unfoldable pub switch_cases : {X : Type 0} → (X → Answers) → (X → Place → Part) → SwitchStmt X → Part
switch_cases asks items n rest =
    punct (codes "{")
    (cases asks items n
    (last_of n.span (punct (codes "}") rest)))

-- `switch(a){ case b: c; }`
unfoldable pub switch_stmt : {X : Type 0} → (X → Answers) → (X → Place → Part) → SwitchStmt X → Part
switch_stmt asks items n rest = stmt_word n.span (codes "switch") (enclosed items n.discriminant (switch_cases asks items n rest))

-- ---- loops

-- `while(a)b;`
unfoldable pub while_stmt : {X : Type 0} → (X → Place → Part) → WhileStmt X → Part
while_stmt items n rest = stmt_word n.span (codes "while") (enclosed items n.test (items n.body.node.value (Whole Plain) rest))

-- `while (a)` at the end of a loop
unfoldable pub loop_test : {X : Type 0} → (X → Place → Part) → ExprBox X → Part
loop_test items n rest = keyword None (codes "while") (formatting_space (enclosed items n rest))

-- `do a; while (b)`, and before 2015 `do a; while (b);`
unfoldable pub do_while_stmt : {X : Type 0} → (X → Answers) → (X → Place → Part) → DoWhileStmt X → Part
do_while_stmt asks items n rest = stmt_word n.span (codes "do") (spaced asks items n.body.node.value (loop_test items n.test (loop_ending (end_of n.span rest))))

unfoldable pub var_decl_or_expr : {X : Type 0} → (X → Place → Part) → VarDeclOrExpr X → Part
var_decl_or_expr items (inits.VarDecl n) rest = items n.node.value (Whole Plain) rest
var_decl_or_expr items (inits.Expr n) rest = items n.node.value (Whole Plain) rest

unfoldable pub for_init : {X : Type 0} → (X → Place → Part) → Option (VarDeclOrExpr X) → Part
for_init items None rest = rest
for_init items (Some n) rest = var_decl_or_expr items n rest

-- a semicolon, and an expression behind a blank, where there is one: `; a`
unfoldable pub for_value : {X : Type 0} → (X → Place → Part) → Option (ExprBox X) → Part
for_value items None rest = rest
for_value items (Some n) rest = formatting_space (items n.node.value (Whole Plain) rest)

unfoldable pub for_clause : {X : Type 0} → (X → Place → Part) → Option (ExprBox X) → Part
for_clause items n rest = punct (codes ";") (for_value items n rest)

-- `(a; b; c)`
unfoldable pub for_control : {X : Type 0} → (X → Place → Part) → ForStmt X → Part
for_control items n rest = punct (codes "(") (for_init items n.init (for_clause items n.test (for_clause items n.update (punct (codes ")") rest))))

-- `for(a; b; c)d;`
unfoldable pub for_stmt : {X : Type 0} → (X → Place → Part) → ForStmt X → Part
for_stmt items n rest = stmt_word n.span (codes "for") (for_control items n (items n.body.node.value (Whole Plain) rest))

-- `let a` of `for (let a of b) c;`
unfoldable pub for_head : {X : Type 0} → (X → Answers) → (X → Place → Part) → ForHead X → Part
for_head asks items (heads.VarDecl n) rest = items n.node.value (Whole Plain) rest
for_head asks items (heads.UsingDecl n) rest = using_decl asks items n.value rest
for_head asks items (heads.Pat n) rest = items n.node.value (Whole Plain) rest

-- ` of b`, minified ` of[b]` after a name and `of b` after a bracket
unfoldable pub for_right : {X : Type 0} → (X → Answers) → (X → Place → Part) → List ℕ → Bool → ExprBox X → Part
for_right asks items t ends n rest = blank ends (keyword None t (spaced asks items n.node.value rest))

-- `(a of b)`
unfoldable pub for_each : {X : Type 0} → (X → Answers) → (X → Place → Part) → List ℕ → ForHead X → ExprBox X → Part
for_each asks items t left right rest = punct (codes "(") (for_head asks items left (for_right asks items t (head_ends (λ x. (asks x).ends) left) right (punct (codes ")") rest)))

-- `for(a in b)c;`
unfoldable pub for_in_stmt : {X : Type 0} → (X → Answers) → (X → Place → Part) → ForInStmt X → Part
for_in_stmt asks items n rest = stmt_word n.span (codes "for") (for_each asks items (codes "in") n.left n.right (items n.body.node.value (Whole Plain) rest))

-- ` await`, where it is so
unfoldable pub for_await : Bool → Part
for_await wanted rest = if wanted then space (keyword None (codes "await") rest) else rest

-- `for (a of b)c;`, `for await (a of b)c;`
unfoldable pub for_of_stmt : {X : Type 0} → (X → Answers) → (X → Place → Part) → ForOfStmt X → Part
for_of_stmt asks items n rest =
    stmt_word n.span (codes "for")
    (for_await n.is_await
    (formatting_space (for_each asks items (codes "of") n.left n.right (items n.body.node.value (Whole Plain) rest))))

-- ---- all of them

-- a statement by its variant
unfoldable pub stmt_parts : {X : Type 0} → (X → Answers) → (X → Place → Part) → Stmt X → Part
stmt_parts asks items (stmts.Block n) rest = items n.node.value (Whole Plain) rest
stmt_parts asks items (stmts.Empty n) rest = empty_stmt n rest
stmt_parts asks items (stmts.Debugger n) rest = debugger_stmt n rest
stmt_parts asks items (stmts.With n) rest = with_stmt items n rest
stmt_parts asks items (stmts.Return n) rest = return_stmt asks items n rest
stmt_parts asks items (stmts.Labeled n) rest = labeled_stmt items n rest
stmt_parts asks items (stmts.Break n) rest = break_stmt n rest
stmt_parts asks items (stmts.Continue n) rest = continue_stmt n rest
stmt_parts asks items (stmts.If n) rest = if_stmt asks items n rest
stmt_parts asks items (stmts.Switch n) rest = switch_stmt asks items n rest
stmt_parts asks items (stmts.Throw n) rest = throw_stmt asks items n rest
stmt_parts asks items (stmts.Try n) rest = try_stmt items n rest
stmt_parts asks items (stmts.While n) rest = while_stmt items n rest
stmt_parts asks items (stmts.DoWhile n) rest = do_while_stmt asks items n rest
stmt_parts asks items (stmts.For n) rest = for_stmt items n rest
stmt_parts asks items (stmts.ForIn n) rest = for_in_stmt asks items n rest
stmt_parts asks items (stmts.ForOf n) rest = for_of_stmt asks items n rest
stmt_parts asks items (stmts.Decl n) rest = decl asks items n (Whole Statement) rest
stmt_parts asks items (stmts.Expr n) rest = expr_stmt items n rest

-- the comments after a statement, and the end of its line, which a block doesn't end
unfoldable pub stmt_closed : Bool → Span → Part
stmt_closed block span rest = if block then rest else trailing_comments true span.hi (formatting_line rest)

unfoldable pub stmt : {X : Type 0} → (X → Answers) → (X → Place → Part) → Stmt X → Part
stmt asks items n rest = stmt_parts asks items n (stmt_closed (is_block n) (stmt_span (place_of asks) n) rest)
