-- Statements and programs: one production a node. `f` says what is read of what a link holds, in its role.
use Rattle.std.specs.Prelude.{map, codes, ◌++◌, Option, Some, None}
use Rattle.std.specs.declared.string.String.{String}
use Rattle.swc_ecma_codegen_tree.specs.declared.idents.Ident.{Ident}
use Rattle.swc_ecma_codegen_tree.specs.Links.{BlockStmtBox, ExprBox, PatBox, StmtBox}
use Rattle.swc_ecma_codegen_tree.specs.declared.stmts.Stmt.{Stmt}
use Rattle.swc_ecma_codegen_tree.specs.declared.stmts.Stmt.TheVariants as stmts
use Rattle.swc_ecma_codegen_tree.specs.declared.stmts.BlockStmt.{BlockStmt}
use Rattle.swc_ecma_codegen_tree.specs.declared.stmts.BreakStmt.{BreakStmt}
use Rattle.swc_ecma_codegen_tree.specs.declared.stmts.CatchClause.{CatchClause}
use Rattle.swc_ecma_codegen_tree.specs.declared.stmts.ContinueStmt.{ContinueStmt}
use Rattle.swc_ecma_codegen_tree.specs.declared.stmts.DebuggerStmt.{DebuggerStmt}
use Rattle.swc_ecma_codegen_tree.specs.declared.stmts.DoWhileStmt.{DoWhileStmt}
use Rattle.swc_ecma_codegen_tree.specs.declared.stmts.EmptyStmt.{EmptyStmt}
use Rattle.swc_ecma_codegen_tree.specs.declared.stmts.ExprStmt.{ExprStmt}
use Rattle.swc_ecma_codegen_tree.specs.declared.stmts.ForHead.{ForHead}
use Rattle.swc_ecma_codegen_tree.specs.declared.stmts.ForHead.TheVariants as heads
use Rattle.swc_ecma_codegen_tree.specs.declared.stmts.ForInStmt.{ForInStmt}
use Rattle.swc_ecma_codegen_tree.specs.declared.stmts.ForOfStmt.{ForOfStmt}
use Rattle.swc_ecma_codegen_tree.specs.declared.stmts.ForStmt.{ForStmt}
use Rattle.swc_ecma_codegen_tree.specs.declared.stmts.IfStmt.{IfStmt}
use Rattle.swc_ecma_codegen_tree.specs.declared.stmts.LabeledStmt.{LabeledStmt}
use Rattle.swc_ecma_codegen_tree.specs.declared.stmts.ReturnStmt.{ReturnStmt}
use Rattle.swc_ecma_codegen_tree.specs.declared.stmts.SwitchCase.{SwitchCase}
use Rattle.swc_ecma_codegen_tree.specs.declared.stmts.SwitchStmt.{SwitchStmt}
use Rattle.swc_ecma_codegen_tree.specs.declared.stmts.ThrowStmt.{ThrowStmt}
use Rattle.swc_ecma_codegen_tree.specs.declared.stmts.TryStmt.{TryStmt}
use Rattle.swc_ecma_codegen_tree.specs.declared.stmts.VarDeclOrExpr.{VarDeclOrExpr}
use Rattle.swc_ecma_codegen_tree.specs.declared.stmts.VarDeclOrExpr.TheVariants as inits
use Rattle.swc_ecma_codegen_tree.specs.declared.stmts.WhileStmt.{WhileStmt}
use Rattle.swc_ecma_codegen_tree.specs.declared.stmts.WithStmt.{WithStmt}
use Rattle.swc_ecma_codegen_tree.specs.declared.programs.Program.{Program}
use Rattle.swc_ecma_codegen_tree.specs.declared.programs.Program.TheVariants as programs
use Rattle.swc_ecma_codegen_tree.specs.declared.programs.Module.{Module}
use Rattle.swc_ecma_codegen_tree.specs.declared.programs.ModuleItem.{ModuleItem}
use Rattle.swc_ecma_codegen_tree.specs.declared.programs.ModuleItem.TheVariants as module_items
use Rattle.swc_ecma_codegen_tree.specs.declared.programs.Script.{Script}
use Rattle.swc_ecma_codegen_grammar.specs.declared.kinds.Kind.TheVariants.{Hashbang}
use Rattle.swc_ecma_codegen_grammar.specs.Chars.{is_one_line}
use Rattle.swc_ecma_codegen_grammar.specs.LitPhrases.{characters}
use Rattle.swc_ecma_codegen_grammar.specs.Tokens.{token_of}
use Rattle.swc_ecma_codegen_grammar.specs.Phrases.{Phrase, Nothing, One, OptionalParentheses, Argument, Chosen, LoopEnding, ◌>◌, where_, word, mark, ending, in_order, same_line}
use Rattle.swc_ecma_codegen_grammar.specs.declared.roles.Role.{Role}
use Rattle.swc_ecma_codegen_grammar.specs.declared.roles.Role.TheVariants.{Statement, Block, ModuleDeclaration}
use Rattle.swc_ecma_codegen_grammar.specs.NamePhrases.{ident}
use Rattle.swc_ecma_codegen_grammar.specs.PatPhrases.{value_at, pat_at}
use Rattle.swc_ecma_codegen_grammar.specs.FunctionPhrases.{word_if, block_at}
use Rattle.swc_ecma_codegen_grammar.specs.DeclPhrases.{var_decl_at, using_decl, decl}
use Rattle.swc_ecma_codegen_grammar.specs.ExprPhrases.{expr_at}

-- a statement that a link holds
abbrev pub stmt_at : {X : Type 0} → (X → Role → Phrase) → StmtBox X → Phrase
stmt_at f n = f n.node.value Statement

-- an expression, where there is one
unfoldable pub optional_value : {X : Type 0} → (X → Role → Phrase) → Option (ExprBox X) → Phrase
optional_value f None = Nothing
optional_value f (Some n) = value_at f n

-- ECMA-262, section 14.4
unfoldable pub empty_stmt : EmptyStmt → Phrase
empty_stmt n = mark (codes ";")

-- section 14.5
unfoldable pub expr_stmt : {X : Type 0} → (X → Role → Phrase) → ExprStmt X → Phrase
expr_stmt f n = expr_at f n.expr > ending

-- section 14.16
unfoldable pub debugger_stmt : DebuggerStmt → Phrase
debugger_stmt n = word (codes "debugger") > ending

-- section 14.11: `with (a) b;`
unfoldable pub with_stmt : {X : Type 0} → (X → Role → Phrase) → WithStmt X → Phrase
with_stmt f n = word (codes "with") > mark (codes "(") > value_at f n.obj > mark (codes ")") > stmt_at f n.body

-- section 14.10: `return a;`, `return;`; parentheses may stand round the argument, and no line may end before it
unfoldable pub return_rest : {X : Type 0} → (X → Role → Phrase) → Option (ExprBox X) → Phrase
return_rest f None = ending
return_rest f (Some n) = same_line > OptionalParentheses Argument (value_at f n) > ending

unfoldable pub return_stmt : {X : Type 0} → (X → Role → Phrase) → ReturnStmt X → Phrase
return_stmt f n = word (codes "return") > return_rest f n.arg

-- section 14.13: `a: b;`
unfoldable pub labeled_stmt : {X : Type 0} → (X → Role → Phrase) → LabeledStmt X → Phrase
labeled_stmt f n = ident n.label > mark (codes ":") > stmt_at f n.body

-- a label, where there is one, on the line of the word before it
unfoldable pub jump_rest : Option Ident → Phrase
jump_rest None = ending
jump_rest (Some n) = same_line > ident n > ending

-- sections 14.9 and 14.8
unfoldable pub break_stmt : BreakStmt → Phrase
break_stmt n = word (codes "break") > jump_rest n.label

unfoldable pub continue_stmt : ContinueStmt → Phrase
continue_stmt n = word (codes "continue") > jump_rest n.label

-- section 14.6: `if (a) b; else c;`
unfoldable pub else_branch : {X : Type 0} → (X → Role → Phrase) → Option (StmtBox X) → Phrase
else_branch f None = Nothing
else_branch f (Some n) = word (codes "else") > stmt_at f n

unfoldable pub if_stmt : {X : Type 0} → (X → Role → Phrase) → IfStmt X → Phrase
if_stmt f n = word (codes "if") > mark (codes "(") > value_at f n.test > mark (codes ")") > stmt_at f n.cons > else_branch f n.alt

-- section 14.12: `case a: b;`, `default: b;`
unfoldable pub case_test : {X : Type 0} → (X → Role → Phrase) → Option (ExprBox X) → Phrase
case_test f None = word (codes "default")
case_test f (Some n) = word (codes "case") > value_at f n

unfoldable pub switch_case : {X : Type 0} → (X → Role → Phrase) → SwitchCase X → Phrase
switch_case f n = case_test f n.test > mark (codes ":") > in_order (map (stmt_at f) n.cons.items)

unfoldable pub switch_stmt : {X : Type 0} → (X → Role → Phrase) → SwitchStmt X → Phrase
switch_stmt f n = word (codes "switch") > mark (codes "(") > value_at f n.discriminant > mark (codes ")") > mark (codes "{") > in_order (map (switch_case f) n.cases.items) > mark (codes "}")

-- section 14.14: parentheses may stand round the argument
unfoldable pub throw_stmt : {X : Type 0} → (X → Role → Phrase) → ThrowStmt X → Phrase
throw_stmt f n = word (codes "throw") > same_line > OptionalParentheses Argument (value_at f n.arg) > ending

-- section 14.15: `catch { b; }`, `catch (a) { b; }`
unfoldable pub catch_param : {X : Type 0} → (X → Role → Phrase) → Option (PatBox X) → Phrase
catch_param f None = Nothing
catch_param f (Some n) = mark (codes "(") > pat_at f n > mark (codes ")")

unfoldable pub catch_clause : {X : Type 0} → (X → Role → Phrase) → CatchClause X → Phrase
catch_clause f n = word (codes "catch") > catch_param f n.param > block_at f n.body

unfoldable pub handler : {X : Type 0} → (X → Role → Phrase) → Option (CatchClause X) → Phrase
handler f None = Nothing
handler f (Some n) = catch_clause f n

unfoldable pub finalizer : {X : Type 0} → (X → Role → Phrase) → Option (BlockStmtBox X) → Phrase
finalizer f None = Nothing
finalizer f (Some n) = word (codes "finally") > block_at f n

unfoldable pub try_stmt : {X : Type 0} → (X → Role → Phrase) → TryStmt X → Phrase
try_stmt f n = word (codes "try") > block_at f n.block > handler f n.handler > finalizer f n.finalizer

-- section 14.7.3: `while (a) b;`
unfoldable pub while_stmt : {X : Type 0} → (X → Role → Phrase) → WhileStmt X → Phrase
while_stmt f n = word (codes "while") > mark (codes "(") > value_at f n.test > mark (codes ")") > stmt_at f n.body

-- section 14.7.2: `do a; while (b)`, and before 2015 `do a; while (b);`
unfoldable pub do_while_stmt : {X : Type 0} → (X → Role → Phrase) → DoWhileStmt X → Phrase
do_while_stmt f n = word (codes "do") > stmt_at f n.body > word (codes "while") > mark (codes "(") > value_at f n.test > mark (codes ")") > Chosen LoopEnding

-- section 14.7.4: `for (a; b; c) d;`, whose head may be `;;`
unfoldable pub var_decl_or_expr : {X : Type 0} → (X → Role → Phrase) → VarDeclOrExpr X → Phrase
var_decl_or_expr f (inits.VarDecl n) = var_decl_at f n
var_decl_or_expr f (inits.Expr n) = value_at f n

unfoldable pub for_init : {X : Type 0} → (X → Role → Phrase) → Option (VarDeclOrExpr X) → Phrase
for_init f None = Nothing
for_init f (Some n) = var_decl_or_expr f n

unfoldable pub for_stmt : {X : Type 0} → (X → Role → Phrase) → ForStmt X → Phrase
for_stmt f n =
    word (codes "for") > mark (codes "(") > for_init f n.init > mark (codes ";") > optional_value f n.test > mark (codes ";") > optional_value f n.update
    > mark (codes ")") > stmt_at f n.body

-- section 14.7.5: `let a` of `for (let a in b) c;`
unfoldable pub for_head : {X : Type 0} → (X → Role → Phrase) → ForHead X → Phrase
for_head f (heads.VarDecl n) = var_decl_at f n
for_head f (heads.UsingDecl n) = using_decl f n.value
for_head f (heads.Pat n) = pat_at f n

unfoldable pub for_in_stmt : {X : Type 0} → (X → Role → Phrase) → ForInStmt X → Phrase
for_in_stmt f n = word (codes "for") > mark (codes "(") > for_head f n.left > word (codes "in") > value_at f n.right > mark (codes ")") > stmt_at f n.body

-- `for await (a of b) c;`
unfoldable pub for_of_stmt : {X : Type 0} → (X → Role → Phrase) → ForOfStmt X → Phrase
for_of_stmt f n =
    word (codes "for") > word_if n.is_await (word (codes "await")) > mark (codes "(") > for_head f n.left > word (codes "of") > value_at f n.right
    > mark (codes ")") > stmt_at f n.body

unfoldable pub stmt : {X : Type 0} → (X → Role → Phrase) → Stmt X → Phrase
stmt f (stmts.Block n) = f n.node.value Block
stmt f (stmts.Empty n) = empty_stmt n
stmt f (stmts.Debugger n) = debugger_stmt n
stmt f (stmts.With n) = with_stmt f n
stmt f (stmts.Return n) = return_stmt f n
stmt f (stmts.Labeled n) = labeled_stmt f n
stmt f (stmts.Break n) = break_stmt n
stmt f (stmts.Continue n) = continue_stmt n
stmt f (stmts.If n) = if_stmt f n
stmt f (stmts.Switch n) = switch_stmt f n
stmt f (stmts.Throw n) = throw_stmt f n
stmt f (stmts.Try n) = try_stmt f n
stmt f (stmts.While n) = while_stmt f n
stmt f (stmts.DoWhile n) = do_while_stmt f n
stmt f (stmts.For n) = for_stmt f n
stmt f (stmts.ForIn n) = for_in_stmt f n
stmt f (stmts.ForOf n) = for_of_stmt f n
stmt f (stmts.Decl n) = decl f n
stmt f (stmts.Expr n) = expr_stmt f n

-- section 14.2
unfoldable pub block_stmt : {X : Type 0} → (X → Role → Phrase) → BlockStmt X → Phrase
block_stmt f n = mark (codes "{") > in_order (map (stmt f) n.stmts.items) > mark (codes "}")

-- section 12.5: what stands behind `#!`, in one line, where there is such
unfoldable pub shebang : {Z : Type 0} → Option (String Z) → Phrase
shebang None = Nothing
shebang (Some text) = where_ (is_one_line (characters text)) (One (token_of Hashbang (codes "#!" ++ characters text)))

-- section 16.1
unfoldable pub script : {X : Type 0} → (X → Role → Phrase) → Script X → Phrase
script f n = shebang n.shebang > in_order (map (stmt f) n.body.items)

-- section 16.2
unfoldable pub module_item : {X : Type 0} → (X → Role → Phrase) → ModuleItem X → Phrase
module_item f (module_items.ModuleDecl n) = f n.node.value ModuleDeclaration
module_item f (module_items.Stmt n) = stmt f n

unfoldable pub whole_module : {X : Type 0} → (X → Role → Phrase) → Module X → Phrase
whole_module f n = shebang n.shebang > in_order (map (module_item f) n.body.items)

unfoldable pub program : {X : Type 0} → (X → Role → Phrase) → Program X → Phrase
program f (programs.Module n) = whole_module f n
program f (programs.Script n) = script f n
