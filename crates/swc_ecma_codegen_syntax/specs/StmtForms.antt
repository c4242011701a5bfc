-- Statements: one production a node, with nonterminals. ECMA-262, section 14.
use Rattle.std.specs.Prelude.{Bool, true, false, ◌||◌, ◌&&◌, not, is_some, is_none, codes, List, [], ◌∷◌, Option, Some, None}
use Rattle.swc_ecma_codegen_tree.specs.declared.links.AnyNode.{AnyNode-F}
use Rattle.swc_ecma_codegen_tree.specs.declared.links.AnyNode.TheOpen as nodes
use Rattle.swc_ecma_codegen_tree.specs.Links.{BlockStmtBox, ExprBox, PatBox, StmtBox}
use Rattle.swc_ecma_codegen_tree.specs.declared.idents.Ident.{Ident}
use Rattle.swc_ecma_codegen_tree.specs.declared.stmts.Stmt.{Stmt}
use Rattle.swc_ecma_codegen_tree.specs.declared.stmts.Stmt.TheVariants as stmts
use Rattle.swc_ecma_codegen_tree.specs.declared.stmts.BlockStmt.{BlockStmt}
use Rattle.swc_ecma_codegen_tree.specs.declared.stmts.BreakStmt.{BreakStmt}
use Rattle.swc_ecma_codegen_tree.specs.declared.stmts.CatchClause.{CatchClause}
use Rattle.swc_ecma_codegen_tree.specs.declared.stmts.ContinueStmt.{ContinueStmt}
use Rattle.swc_ecma_codegen_tree.specs.declared.stmts.DoWhileStmt.{DoWhileStmt}
use Rattle.swc_ecma_codegen_tree.specs.declared.stmts.ExprStmt.{ExprStmt}
use Rattle.swc_ecma_codegen_tree.specs.declared.stmts.ForHead.{ForHead}
use Rattle.swc_ecma_codegen_tree.specs.declared.stmts.ForHead.TheVariants as heads
use Rattle.swc_ecma_codegen_tree.specs.declared.stmts.ForInStmt.{ForInStmt}
use Rattle.swc_ecma_codegen_tree.specs.declared.stmts.ForOfStmt.{ForOfStmt}
use Rattle.swc_ecma_codegen_tree.specs.declared.stmts.ForStmt.{ForStmt}
use Rattle.swc_ecma_codegen_tree.specs.declared.stmts.IfStmt.{IfStmt}
use Rattle.swc_ecma_codegen_tree.specs.declared.stmts.LabeledStmt.{LabeledStmt}
use Rattle.swc_ecma_codegen_tree.specs.declared.stmts.ReturnStmt.{ReturnStmt}
use Rattle.swc_ecma_codegen_tree.specs.declared.stmts.SwitchCase.{SwitchCase}
use Rattle.swc_ecma_codegen_tree.specs.declared.stmts.SwitchStmt.{SwitchStmt}
use Rattle.swc_ecma_codegen_tree.specs.declared.stmts.ThrowStmt.{ThrowStmt}
use Rattle.swc_ecma_codegen_tree.specs.declared.stmts.TryStmt.{TryStmt}
use Rattle.swc_ecma_codegen_tree.specs.declared.stmts.VarDeclOrExpr.{VarDeclOrExpr}
use Rattle.swc_ecma_codegen_tree.specs.declared.stmts.VarDeclOrExpr.TheVariants as inits
use Rattle.swc_ecma_codegen_tree.specs.declared.stmts.WhileStmt.{WhileStmt}
use Rattle.swc_ecma_codegen_tree.specs.declared.stmts.WithStmt.{WithStmt}
use Rattle.swc_ecma_codegen_grammar.specs.Phrases.{Never, Nothing, Chosen, LoopEnding, word, mark, same_line, ending}
use Rattle.swc_ecma_codegen_grammar.specs.FunctionPhrases.{word_if}
use Rattle.swc_ecma_codegen_grammar.specs.StmtPhrases.{empty_stmt, debugger_stmt}
use Rattle.swc_ecma_codegen_grammar.specs.declared.roles.Role.TheVariants.{Statement, Block, VariableDeclaration}
use Rattle.swc_ecma_codegen_syntax.specs.declared.lookahead.Lookahead.{Lookahead}
use Rattle.swc_ecma_codegen_syntax.specs.declared.lookahead.Lookahead.TheVariants.{StatementStart, ForStart, OfStart, AwaitOfStart}
use Rattle.swc_ecma_codegen_syntax.specs.declared.nonterminals.Nonterminal.{Nonterminal}
use Rattle.swc_ecma_codegen_syntax.specs.declared.nonterminals.Nonterminal.TheVariants as nt
use Rattle.swc_ecma_codegen_syntax.specs.declared.parameters.Parameters.{Parameters}
use Rattle.swc_ecma_codegen_syntax.specs.declared.parameters.Position.{Position}
use Rattle.swc_ecma_codegen_syntax.specs.declared.parameters.Position.TheVariants as positions
use Rattle.swc_ecma_codegen_syntax.specs.Parameters.{with_in, of_targets, of_bindings, of_for, of_loop, in_list, in_block, behind_label, in_statement, in_do_while, in_branch, in_if_else, may_await}
use Rattle.swc_ecma_codegen_syntax.specs.Forms.{Form, Fixed, Part, Restricted, Followed, Provided, Bare, ByPlace, ByRule, ByCore, ◌⇢◌, in_order}
use Rattle.swc_ecma_codegen_syntax.specs.NameForms.{name_form}
use Rattle.swc_ecma_codegen_syntax.specs.MemberForms.{expr_part}
use Rattle.swc_ecma_codegen_syntax.specs.PatForms.{pat_part}
use Rattle.swc_ecma_codegen_syntax.specs.DeclForms.{decl_form, decl_nonterminal, using_form}

-- Expression[+In]
abbrev pub expression_part : {X : Type 0} → Parameters → ExprBox X → Form X
expression_part c n = expr_part nt.Expression (with_in c) n

unfoldable pub optional_form : {X : Type 0} → Parameters → Option (ExprBox X) → Form X
optional_form c None = Fixed Nothing
optional_form c (Some n) = expression_part c n

-- a Statement, and the one that ends another, as `b;` of `while (a) b;`
abbrev pub stmt_part : {X : Type 0} → Nonterminal → Parameters → StmtBox X → Form X
stmt_part place c n = Part place c Statement n.node.value

abbrev pub inner_part : {X : Type 0} → Parameters → StmtBox X → Form X
inner_part c n = stmt_part nt.Statement (in_statement c) n

abbrev pub block_part : {X : Type 0} → Parameters → BlockStmtBox X → Form X
block_part c n = Part nt.Block c Block n.node.value

-- 14.5: ExpressionStatement : [lookahead ∉ { `{`, function, async function, class, let [ }] Expression ;
unfoldable pub expr_stmt_form : {X : Type 0} → Parameters → ExprStmt X → Form X
expr_stmt_form c n = Restricted StatementStart nt.Expression (with_in c) false n.expr.node.value ⇢ Fixed ending

-- 14.11: `with (a) b;`, in code that isn't strict
unfoldable pub with_form : {X : Type 0} → Parameters → WithStmt X → Form X
with_form c n =
    Provided ByRule (not c.is_strict)
    (Fixed (word (codes "with")) ⇢ Fixed (mark (codes "(")) ⇢ expression_part c n.obj ⇢ Fixed (mark (codes ")")) ⇢ inner_part c n.body)

-- 14.10: ReturnStatement, under [Return]
unfoldable pub return_rest_form : {X : Type 0} → Parameters → Option (ExprBox X) → Form X
return_rest_form c None = Fixed ending
return_rest_form c (Some n) = Fixed same_line ⇢ Bare (expression_part c n) ⇢ Fixed ending

unfoldable pub return_form : {X : Type 0} → Parameters → ReturnStmt X → Form X
return_form c n = Provided ByRule c.has_return (Fixed (word (codes "return")) ⇢ return_rest_form c n.arg)

-- 14.13: LabelledItem : Statement, FunctionDeclaration. In strict code, and in the statement of another, no label stands before a function.
unfoldable pub labelled_place : Bool → Position → Nonterminal
labelled_place strict positions.Inner = nt.Statement
labelled_place strict positions.Branch = nt.Statement
labelled_place true position = nt.Statement
labelled_place false position = nt.LabelledItem

unfoldable pub labeled_form : {X : Type 0} → Parameters → LabeledStmt X → Form X
labeled_form c n =
    name_form c n.label ⇢ Fixed (mark (codes ":")) ⇢ stmt_part (labelled_place c.is_strict c.position) (behind_label c) n.body

-- 14.8 and 14.9: LabelIdentifier, or none
unfoldable pub jump_form : {X : Type 0} → Parameters → Option Ident → Form X
jump_form c None = Fixed ending
jump_form c (Some n) = Fixed same_line ⇢ name_form c n ⇢ Fixed ending

unfoldable pub break_form : {X : Type 0} → Parameters → BreakStmt → Form X
break_form c n = Fixed (word (codes "break")) ⇢ jump_form c n.label

unfoldable pub continue_form : {X : Type 0} → Parameters → ContinueStmt → Form X
continue_form c n = Fixed (word (codes "continue")) ⇢ jump_form c n.label

-- B.3.3: in sloppy code a branch of `if` may be a function. So may what stands behind a label, which has the same nonterminal.
unfoldable pub branch_place : Bool → Nonterminal
branch_place true = nt.Statement
branch_place false = nt.LabelledItem

-- 14.6: if ( Expression ) Statement else Statement; if ( Expression ) Statement [lookahead ≠ else], which a block mends
unfoldable pub branches_form : {X : Type 0} → Parameters → StmtBox X → Option (StmtBox X) → Form X
branches_form c cons None = Provided ByPlace (not c.before_else) (stmt_part (branch_place c.is_strict) (in_branch c) cons ⇢ Fixed Nothing)
branches_form c cons (Some alt) =
    stmt_part (branch_place c.is_strict) (in_if_else c) cons ⇢ Fixed (word (codes "else")) ⇢ stmt_part (branch_place c.is_strict) (in_branch c) alt

unfoldable pub if_form : {X : Type 0} → Parameters → IfStmt X → Form X
if_form c n =
    Fixed (word (codes "if")) ⇢ Fixed (mark (codes "(")) ⇢ expression_part c n.test ⇢ Fixed (mark (codes ")")) ⇢ branches_form c n.cons n.alt

-- a StatementList of a clause, which links hold
unfoldable pub clause_item_form : {X : Type 0} → Parameters → StmtBox X → List (StmtBox X) → Form X
clause_item_form c x [] = stmt_part nt.StatementListItem (in_list false c) x
clause_item_form c x (y ∷ ys) = Followed nt.StatementListItem (in_list false c) x.node.value y.node.value

unfoldable pub clause_list_form : {X : Type 0} → Parameters → List (StmtBox X) → Form X
clause_list_form c [] = Fixed Nothing
clause_list_form c (x ∷ xs) = clause_item_form c x xs ⇢ clause_list_form c xs

-- 14.12: CaseClause, DefaultClause
unfoldable pub case_test_form : {X : Type 0} → Parameters → Option (ExprBox X) → Form X
case_test_form c None = Fixed (word (codes "default"))
case_test_form c (Some n) = Fixed (word (codes "case")) ⇢ expression_part c n

unfoldable pub case_form : {X : Type 0} → Parameters → SwitchCase X → Form X
case_form c n = case_test_form c n.test ⇢ Fixed (mark (codes ":")) ⇢ clause_list_form c n.cons.items

-- CaseBlock : { CaseClauses DefaultClause CaseClauses }, where each list may be missing: no DefaultClause stands behind another
unfoldable pub is_case_block : {X : Type 0} → Bool → List (SwitchCase X) → Bool
is_case_block with_default [] = true
is_case_block with_default (x ∷ xs) = not (with_default && is_none x.test) && is_case_block (with_default || is_none x.test) xs

unfoldable pub switch_form : {X : Type 0} → Parameters → SwitchStmt X → Form X
switch_form c n =
    Provided ByRule (is_case_block false n.cases.items)
    (Fixed (word (codes "switch")) ⇢ Fixed (mark (codes "(")) ⇢ expression_part c n.discriminant ⇢ Fixed (mark (codes ")")) ⇢ Fixed (mark (codes "{"))
    ⇢ in_order (case_form c) n.cases.items ⇢ Fixed (mark (codes "}")))

-- 14.14: ThrowStatement
unfoldable pub throw_form : {X : Type 0} → Parameters → ThrowStmt X → Form X
throw_form c n = Fixed (word (codes "throw")) ⇢ Fixed same_line ⇢ Bare (expression_part c n.arg) ⇢ Fixed ending

-- 14.15: a CatchParameter is a name or a BindingPattern, without an Initializer
unfoldable pub catch_param_form : {X : Type 0} → Parameters → Option (PatBox X) → Form X
catch_param_form c None = Fixed Nothing
catch_param_form c (Some n) = Fixed (mark (codes "(")) ⇢ pat_part nt.PatternTarget (of_bindings c) n ⇢ Fixed (mark (codes ")"))

unfoldable pub catch_form : {X : Type 0} → Parameters → CatchClause X → Form X
catch_form c n = Fixed (word (codes "catch")) ⇢ catch_param_form c n.param ⇢ block_part c n.body

unfoldable pub handler_form : {X : Type 0} → Parameters → Option (CatchClause X) → Form X
handler_form c None = Fixed Nothing
handler_form c (Some n) = catch_form c n

unfoldable pub finalizer_form : {X : Type 0} → Parameters → Option (BlockStmtBox X) → Form X
finalizer_form c None = Fixed Nothing
finalizer_form c (Some n) = Fixed (word (codes "finally")) ⇢ block_part c n

-- TryStatement : try Block Catch, try Block Finally, try Block Catch Finally
unfoldable pub try_form : {X : Type 0} → Parameters → TryStmt X → Form X
try_form c n =
    Provided ByRule (is_some n.handler || is_some n.finalizer)
    (Fixed (word (codes "try")) ⇢ block_part c n.block ⇢ handler_form c n.handler ⇢ finalizer_form c n.finalizer)

-- 14.7.3
unfoldable pub while_form : {X : Type 0} → Parameters → WhileStmt X → Form X
while_form c n =
    Fixed (word (codes "while")) ⇢ Fixed (mark (codes "(")) ⇢ expression_part c n.test ⇢ Fixed (mark (codes ")")) ⇢ inner_part c n.body

-- 14.7.2, and 12.10.1: the semicolon of an empty statement right behind it would be its own
unfoldable pub do_while_form : {X : Type 0} → Parameters → DoWhileStmt X → Form X
do_while_form c n =
    Provided ByRule (not c.before_empty)
    (Fixed (word (codes "do")) ⇢ stmt_part nt.Statement (in_do_while c) n.body ⇢ Fixed (word (codes "while")) ⇢ Fixed (mark (codes "("))
    ⇢ expression_part c n.test ⇢ Fixed (mark (codes ")")) ⇢ Fixed (Chosen LoopEnding))

-- 14.7.4: `in` is no operator in what stands first, and it does not begin with `let [`
unfoldable pub for_init_form : {X : Type 0} → Parameters → Option (VarDeclOrExpr X) → Form X
for_init_form c None = Fixed Nothing
for_init_form c (Some (inits.VarDecl n)) = Part nt.VariableDeclarations (of_for c) VariableDeclaration n.node.value
for_init_form c (Some (inits.Expr n)) = Restricted ForStart nt.Expression (of_for c) false n.node.value

unfoldable pub for_form : {X : Type 0} → Parameters → ForStmt X → Form X
for_form c n =
    Fixed (word (codes "for")) ⇢ Fixed (mark (codes "(")) ⇢ for_init_form c n.init ⇢ Fixed (mark (codes ";")) ⇢ optional_form c n.test
    ⇢ Fixed (mark (codes ";")) ⇢ optional_form c n.update ⇢ Fixed (mark (codes ")")) ⇢ inner_part c n.body

-- the head of `for (a of b)`
unfoldable pub is_of_head : Lookahead → Bool
is_of_head ForStart = false
is_of_head lookahead = true

-- whether a `var` may have a value in the head: B.3.5
abbrev pub initializes_in : Lookahead → Parameters → Bool
initializes_in lookahead c = not (is_of_head lookahead) && not c.is_strict

-- 14.7.5: ForBinding, ForDeclaration, or a LeftHandSideExpression, or the pattern that it covers, with a lookahead restriction. `using a` is of a proposal,
-- before `of` alone.
unfoldable pub head_form : {X : Type 0} → Lookahead → Parameters → ForHead X → Form X
head_form lookahead c (heads.VarDecl n) = Part nt.VariableDeclarations (of_loop (initializes_in lookahead c) c) VariableDeclaration n.node.value
head_form lookahead c (heads.UsingDecl n) = Provided ByCore false (Provided ByRule (is_of_head lookahead) (using_form (of_loop false c) n.value))
head_form lookahead c (heads.Pat n) = Restricted lookahead nt.PatternTarget (of_targets c) true n.node.value

unfoldable pub for_in_form : {X : Type 0} → Parameters → ForInStmt X → Form X
for_in_form c n =
    Fixed (word (codes "for")) ⇢ Fixed (mark (codes "(")) ⇢ head_form ForStart c n.left ⇢ Fixed (word (codes "in")) ⇢ expression_part c n.right
    ⇢ Fixed (mark (codes ")")) ⇢ inner_part c n.body

-- `for (async of a)` would begin an arrow function; `for await (async of a)` doesn't
unfoldable pub of_start : Bool → Lookahead
of_start true = AwaitOfStart
of_start false = OfStart

-- `for await` stands where `await` may
unfoldable pub for_of_form : {X : Type 0} → Parameters → ForOfStmt X → Form X
for_of_form c n =
    Provided ByRule (not n.is_await || may_await c)
    (Fixed (word (codes "for")) ⇢ Fixed (word_if n.is_await (word (codes "await"))) ⇢ Fixed (mark (codes "("))
    ⇢ head_form (of_start n.is_await) c n.left ⇢ Fixed (word (codes "of")) ⇢ expr_part nt.AssignmentExpression (with_in c) n.right ⇢ Fixed (mark (codes ")")) ⇢ inner_part c n.body)

unfoldable pub stmt_form : {X : Type 0} → Parameters → Stmt X → Form X
stmt_form c (stmts.Block n) = block_part c n
stmt_form c (stmts.Empty n) = Fixed (empty_stmt n)
stmt_form c (stmts.Debugger n) = Fixed (debugger_stmt n)
stmt_form c (stmts.With n) = with_form c n
stmt_form c (stmts.Return n) = return_form c n
stmt_form c (stmts.Labeled n) = labeled_form c n
stmt_form c (stmts.Break n) = break_form c n
stmt_form c (stmts.Continue n) = continue_form c n
stmt_form c (stmts.If n) = if_form c n
stmt_form c (stmts.Switch n) = switch_form c n
stmt_form c (stmts.Throw n) = throw_form c n
stmt_form c (stmts.Try n) = try_form c n
stmt_form c (stmts.While n) = while_form c n
stmt_form c (stmts.DoWhile n) = do_while_form c n
stmt_form c (stmts.For n) = for_form c n
stmt_form c (stmts.ForIn n) = for_in_form c n
stmt_form c (stmts.ForOf n) = for_of_form c n
stmt_form c (stmts.Decl n) = decl_form c n
stmt_form c (stmts.Expr n) = expr_stmt_form c n

-- a Statement, or a Declaration: section 14
unfoldable pub stmt_nonterminal : {X : Type 0} → Stmt X → Nonterminal
stmt_nonterminal (stmts.Decl n) = decl_nonterminal n
stmt_nonterminal n = nt.Statement

unfoldable pub is_empty : {X : Type 0} → Stmt X → Bool
is_empty (stmts.Empty n) = true
is_empty n = false

unfoldable pub is_empty_node : {X : Type 0} → AnyNode-F X → Bool
is_empty_node (nodes.Stmt n) = is_empty n
is_empty_node n = false

unfoldable pub begins_empty : {X : Type 0} → List (Stmt X) → Bool
begins_empty [] = false
begins_empty (x ∷ xs) = is_empty x

-- 14.2: StatementList
unfoldable pub list_form : {X : Type 0} → Parameters → List (Stmt X) → Form X
list_form c [] = Fixed Nothing
list_form c (x ∷ xs) = stmt_form (in_list (begins_empty xs) c) x ⇢ list_form c xs

unfoldable pub block_form : {X : Type 0} → Parameters → BlockStmt X → Form X
block_form c n = Fixed (mark (codes "{")) ⇢ list_form (in_block c) n.stmts.items ⇢ Fixed (mark (codes "}"))
