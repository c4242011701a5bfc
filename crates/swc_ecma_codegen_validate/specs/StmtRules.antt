-- The rules of statements, programs and modules.
use Rattle.std.specs.Prelude.{Bool, true, false, ◌&&◌, ◌||◌, not, List, [], ◌∷◌, codes}
use Rattle.std.specs.Option.{is_some, is_none}
use Rattle.swc_ecma_codegen_tree.specs.declared.modules.DefaultDecl.{DefaultDecl}
use Rattle.swc_ecma_codegen_tree.specs.declared.modules.ExportAll.{ExportAll}
use Rattle.swc_ecma_codegen_tree.specs.declared.modules.ExportDecl.{ExportDecl}
use Rattle.swc_ecma_codegen_tree.specs.declared.modules.ExportDefaultDecl.{ExportDefaultDecl}
use Rattle.swc_ecma_codegen_tree.specs.declared.modules.ExportDefaultExpr.{ExportDefaultExpr}
use Rattle.swc_ecma_codegen_tree.specs.declared.modules.ExportNamedSpecifier.{ExportNamedSpecifier}
use Rattle.swc_ecma_codegen_tree.specs.declared.modules.ExportSpecifier.{ExportSpecifier}
use Rattle.swc_ecma_codegen_tree.specs.declared.modules.ImportDecl.{ImportDecl}
use Rattle.swc_ecma_codegen_tree.specs.declared.modules.ImportNamedSpecifier.{ImportNamedSpecifier}
use Rattle.swc_ecma_codegen_tree.specs.declared.modules.ImportSpecifier.{ImportSpecifier}
use Rattle.swc_ecma_codegen_tree.specs.declared.modules.ModuleExportName.{ModuleExportName}
use Rattle.swc_ecma_codegen_tree.specs.declared.modules.NamedExport.{NamedExport}
use Rattle.swc_ecma_codegen_tree.specs.declared.programs.Module.{Module}
use Rattle.swc_ecma_codegen_tree.specs.declared.programs.ModuleDecl.{ModuleDecl}
use Rattle.swc_ecma_codegen_tree.specs.declared.programs.ModuleItem.{ModuleItem}
use Rattle.swc_ecma_codegen_tree.specs.declared.programs.Program.{Program}
use Rattle.swc_ecma_codegen_tree.specs.declared.programs.Script.{Script}
use Rattle.swc_ecma_codegen_tree.specs.declared.stmts.BlockStmt.{BlockStmt}
use Rattle.swc_ecma_codegen_tree.specs.declared.stmts.BreakStmt.{BreakStmt}
use Rattle.swc_ecma_codegen_tree.specs.declared.stmts.CatchClause.{CatchClause}
use Rattle.swc_ecma_codegen_tree.specs.declared.stmts.ContinueStmt.{ContinueStmt}
use Rattle.swc_ecma_codegen_tree.specs.declared.stmts.DebuggerStmt.{DebuggerStmt}
use Rattle.swc_ecma_codegen_tree.specs.declared.stmts.DoWhileStmt.{DoWhileStmt}
use Rattle.swc_ecma_codegen_tree.specs.declared.stmts.EmptyStmt.{EmptyStmt}
use Rattle.swc_ecma_codegen_tree.specs.declared.stmts.ExprStmt.{ExprStmt}
use Rattle.swc_ecma_codegen_tree.specs.declared.stmts.ForHead.{ForHead}
use Rattle.swc_ecma_codegen_tree.specs.declared.stmts.ForInStmt.{ForInStmt}
use Rattle.swc_ecma_codegen_tree.specs.declared.stmts.ForOfStmt.{ForOfStmt}
use Rattle.swc_ecma_codegen_tree.specs.declared.stmts.ForStmt.{ForStmt}
use Rattle.swc_ecma_codegen_tree.specs.declared.stmts.IfStmt.{IfStmt}
use Rattle.swc_ecma_codegen_tree.specs.declared.stmts.LabeledStmt.{LabeledStmt}
use Rattle.swc_ecma_codegen_tree.specs.declared.stmts.ReturnStmt.{ReturnStmt}
use Rattle.swc_ecma_codegen_tree.specs.declared.stmts.Stmt.{Stmt}
use Rattle.swc_ecma_codegen_tree.specs.declared.stmts.SwitchCase.{SwitchCase}
use Rattle.swc_ecma_codegen_tree.specs.declared.stmts.SwitchStmt.{SwitchStmt}
use Rattle.swc_ecma_codegen_tree.specs.declared.stmts.ThrowStmt.{ThrowStmt}
use Rattle.swc_ecma_codegen_tree.specs.declared.stmts.TryStmt.{TryStmt}
use Rattle.swc_ecma_codegen_tree.specs.declared.stmts.VarDeclOrExpr.{VarDeclOrExpr}
use Rattle.swc_ecma_codegen_tree.specs.declared.stmts.WhileStmt.{WhileStmt}
use Rattle.swc_ecma_codegen_tree.specs.declared.stmts.WithStmt.{WithStmt}
use Rattle.swc_ecma_codegen_tree.specs.declared.stmts.Stmt.TheVariants as stmts
use Rattle.swc_ecma_codegen_tree.specs.declared.stmts.ForHead.TheVariants as for_heads
use Rattle.swc_ecma_codegen_tree.specs.declared.stmts.VarDeclOrExpr.TheVariants as var_decl_or_exprs
use Rattle.swc_ecma_codegen_tree.specs.declared.programs.Program.TheVariants as programs
use Rattle.swc_ecma_codegen_tree.specs.declared.programs.ModuleItem.TheVariants as module_items
use Rattle.swc_ecma_codegen_tree.specs.declared.programs.ModuleDecl.TheVariants as module_decls
use Rattle.swc_ecma_codegen_tree.specs.declared.modules.ImportSpecifier.TheVariants as import_specifiers
use Rattle.swc_ecma_codegen_tree.specs.declared.modules.ExportSpecifier.TheVariants as export_specifiers
use Rattle.swc_ecma_codegen_tree.specs.declared.modules.ModuleExportName.TheVariants as module_export_names
use Rattle.swc_ecma_codegen_tree.specs.declared.modules.DefaultDecl.TheVariants as default_decls
use Rattle.swc_ecma_codegen_grammar.specs.declared.roles.Role.TheVariants.{Block, ExportedHead, ExportedTail, Expression, ModuleDeclaration, ObjectLiteral, Pattern, Statement, VariableDeclaration}
use Rattle.swc_ecma_codegen_grammar.specs.StmtPhrases.{shebang}
use Rattle.swc_ecma_codegen_grammar.specs.Phrases.{is_possible}
use Rattle.swc_ecma_codegen_validate.specs.Rules.{Rules, Free, Each, Optional, ◌&◌, rule, not_here, at, link, leaf}
use Rattle.swc_ecma_codegen_validate.specs.NameRules.{ident, str_lit}
use Rattle.swc_ecma_codegen_validate.specs.TsRules.{ts_interface_decl, ts_import_equals_decl, ts_export_assignment, ts_namespace_export_decl}
use Rattle.swc_ecma_codegen_validate.specs.DeclRules.{fn_expr, using_decl, decl, class_expr}

-- `a` and `a as b` stand in braces
unfoldable pub is_named : ImportSpecifier → Bool
is_named (import_specifiers.Named n) = true
is_named n = false

unfoldable pub are_named : List ImportSpecifier → Bool
are_named [] = true
are_named (n ∷ ns) = is_named n && are_named ns

-- all as a namespace, or names in braces
unfoldable pub are_bindings : List ImportSpecifier → Bool
are_bindings (import_specifiers.Namespace n ∷ []) = true
are_bindings ns = are_named ns

-- a default name stands first at most
unfoldable pub are_imports_in_order : List ImportSpecifier → Bool
are_imports_in_order (import_specifiers.Default n ∷ ns) = are_bindings ns
are_imports_in_order ns = are_bindings ns

-- `* as a`
unfoldable pub is_namespace : ExportSpecifier → Bool
is_namespace (export_specifiers.Namespace n) = true
is_namespace n = false

unfoldable pub has_no_namespace : List ExportSpecifier → Bool
has_no_namespace [] = true
has_no_namespace (n ∷ ns) = not (is_namespace n) && has_no_namespace ns

-- a namespace stands first at most
unfoldable pub are_exports_in_order : List ExportSpecifier → Bool
are_exports_in_order (export_specifiers.Namespace n ∷ ns) = has_no_namespace ns
are_exports_in_order ns = has_no_namespace ns

unfoldable pub expr_stmt : {X : Type 0} → ExprStmt X → Rules X
expr_stmt n = at (codes "expr") (link n.expr Expression)

unfoldable pub for_head : {X : Type 0} → ForHead X → Rules X
for_head (for_heads.VarDecl n) = link n VariableDeclaration
for_head (for_heads.UsingDecl n) = using_decl n.value
for_head (for_heads.Pat n) = link n Pattern

unfoldable pub for_in_stmt : {X : Type 0} → ForInStmt X → Rules X
for_in_stmt n = at (codes "left") (for_head n.left) & at (codes "right") (link n.right Expression) & at (codes "body") (link n.body Statement)

unfoldable pub labeled_stmt : {X : Type 0} → LabeledStmt X → Rules X
labeled_stmt n = at (codes "label") (leaf (ident n.label)) & at (codes "body") (link n.body Statement)

unfoldable pub empty_stmt : EmptyStmt → Rules ⊥
empty_stmt n = Free

unfoldable pub catch_clause : {X : Type 0} → CatchClause X → Rules X
catch_clause n = at (codes "param") (Optional n.param (λ x. link x Pattern)) & at (codes "body") (link n.body Block)

unfoldable pub try_stmt : {X : Type 0} → TryStmt X → Rules X
try_stmt n = at (codes "block") (link n.block Block) & at (codes "handler") (Optional n.handler catch_clause) & at (codes "finalizer") (Optional n.finalizer (λ x. link x Block))

unfoldable pub for_of_stmt : {X : Type 0} → ForOfStmt X → Rules X
for_of_stmt n = at (codes "left") (for_head n.left) & at (codes "right") (link n.right Expression) & at (codes "body") (link n.body Statement)

unfoldable pub debugger_stmt : DebuggerStmt → Rules ⊥
debugger_stmt n = Free

unfoldable pub switch_case : {X : Type 0} → SwitchCase X → Rules X
switch_case n = at (codes "test") (Optional n.test (λ x. link x Expression)) & at (codes "cons") (Each n.cons.items (λ x. link x Statement))

unfoldable pub switch_stmt : {X : Type 0} → SwitchStmt X → Rules X
switch_stmt n = at (codes "discriminant") (link n.discriminant Expression) & at (codes "cases") (Each n.cases.items switch_case)

unfoldable pub do_while_stmt : {X : Type 0} → DoWhileStmt X → Rules X
do_while_stmt n = at (codes "body") (link n.body Statement) & at (codes "test") (link n.test Expression)

unfoldable pub throw_stmt : {X : Type 0} → ThrowStmt X → Rules X
throw_stmt n = at (codes "arg") (link n.arg Expression)

unfoldable pub while_stmt : {X : Type 0} → WhileStmt X → Rules X
while_stmt n = at (codes "test") (link n.test Expression) & at (codes "body") (link n.body Statement)

unfoldable pub if_stmt : {X : Type 0} → IfStmt X → Rules X
if_stmt n = at (codes "test") (link n.test Expression) & at (codes "cons") (link n.cons Statement) & at (codes "alt") (Optional n.alt (λ x. link x Statement))

unfoldable pub break_stmt : BreakStmt → Rules ⊥
break_stmt n = at (codes "label") (Optional n.label (λ x. ident x))

unfoldable pub continue_stmt : ContinueStmt → Rules ⊥
continue_stmt n = at (codes "label") (Optional n.label (λ x. ident x))

unfoldable pub with_stmt : {X : Type 0} → WithStmt X → Rules X
with_stmt n = at (codes "obj") (link n.obj Expression) & at (codes "body") (link n.body Statement)

unfoldable pub return_stmt : {X : Type 0} → ReturnStmt X → Rules X
return_stmt n = at (codes "arg") (Optional n.arg (λ x. link x Expression))

unfoldable pub var_decl_or_expr : {X : Type 0} → VarDeclOrExpr X → Rules X
var_decl_or_expr (var_decl_or_exprs.VarDecl n) = link n VariableDeclaration
var_decl_or_expr (var_decl_or_exprs.Expr n) = link n Expression

unfoldable pub for_stmt : {X : Type 0} → ForStmt X → Rules X
for_stmt n = at (codes "init") (Optional n.init var_decl_or_expr) & at (codes "test") (Optional n.test (λ x. link x Expression)) & at (codes "update") (Optional n.update (λ x. link x Expression)) & at (codes "body") (link n.body Statement)

unfoldable pub stmt : {X : Type 0} → Stmt X → Rules X
stmt (stmts.Block n) = link n Block
stmt (stmts.Empty n) = leaf (empty_stmt n)
stmt (stmts.Debugger n) = leaf (debugger_stmt n)
stmt (stmts.With n) = with_stmt n
stmt (stmts.Return n) = return_stmt n
stmt (stmts.Labeled n) = labeled_stmt n
stmt (stmts.Break n) = leaf (break_stmt n)
stmt (stmts.Continue n) = leaf (continue_stmt n)
stmt (stmts.If n) = if_stmt n
stmt (stmts.Switch n) = switch_stmt n
stmt (stmts.Throw n) = throw_stmt n
stmt (stmts.Try n) = try_stmt n
stmt (stmts.While n) = while_stmt n
stmt (stmts.DoWhile n) = do_while_stmt n
stmt (stmts.For n) = for_stmt n
stmt (stmts.ForIn n) = for_in_stmt n
stmt (stmts.ForOf n) = for_of_stmt n
stmt (stmts.Decl n) = decl n
stmt (stmts.Expr n) = expr_stmt n

unfoldable pub block_stmt : {X : Type 0} → BlockStmt X → Rules X
block_stmt n = at (codes "stmts") (Each n.stmts.items stmt)

unfoldable pub script : {X : Type 0} → Script X → Rules X
script n = rule (is_possible (shebang n.shebang)) (codes "a hashbang has several lines") & at (codes "body") (Each n.body.items stmt)

unfoldable pub module_item : {X : Type 0} → ModuleItem X → Rules X
module_item (module_items.ModuleDecl n) = link n ModuleDeclaration
module_item (module_items.Stmt n) = stmt n

unfoldable pub whole_module : {X : Type 0} → Module X → Rules X
whole_module n = rule (is_possible (shebang n.shebang)) (codes "a hashbang has several lines") & at (codes "body") (Each n.body.items module_item)

unfoldable pub program : {X : Type 0} → Program X → Rules X
program (programs.Module n) = whole_module n
program (programs.Script n) = script n

unfoldable pub module_export_name : ModuleExportName → Rules ⊥
module_export_name (module_export_names.Ident n) = ident n
module_export_name (module_export_names.Str n) = str_lit n

unfoldable pub import_named_specifier : ImportNamedSpecifier → Rules ⊥
import_named_specifier n = at (codes "imported") (Optional n.imported (λ x. module_export_name x)) & at (codes "local") (ident n.local)

unfoldable pub import_specifier : ImportSpecifier → Rules ⊥
import_specifier (import_specifiers.Named n) = import_named_specifier n
import_specifier (import_specifiers.Default n) = at (codes "local") (ident n.local)
import_specifier (import_specifiers.Namespace n) = at (codes "local") (ident n.local)

unfoldable pub import_decl : {X : Type 0} → ImportDecl X → Rules X
import_decl n = rule (are_imports_in_order n.specifiers.items) (codes "what is imported stands in an order that no import has") & at (codes "specifiers") (Each n.specifiers.items (λ x. leaf (import_specifier x))) & at (codes "src") (leaf (str_lit n.src)) & at (codes "with") (Optional n.with (λ x. link x ObjectLiteral))

unfoldable pub export_named_specifier : ExportNamedSpecifier → Rules ⊥
export_named_specifier n = at (codes "orig") (module_export_name n.orig) & at (codes "exported") (Optional n.exported (λ x. module_export_name x))

unfoldable pub export_specifier : ExportSpecifier → Rules ⊥
export_specifier (export_specifiers.Namespace n) = at (codes "name") (module_export_name n.name)
export_specifier (export_specifiers.Default n) = not_here
export_specifier (export_specifiers.Named n) = export_named_specifier n

unfoldable pub named_export : {X : Type 0} → NamedExport X → Rules X
named_export n = rule (is_some n.src || is_none n.with) (codes "an export from no module has attributes") & rule (are_exports_in_order n.specifiers.items) (codes "what is exported stands in an order that no export has") & at (codes "specifiers") (Each n.specifiers.items (λ x. leaf (export_specifier x))) & at (codes "src") (Optional n.src (λ x. leaf (str_lit x))) & at (codes "with") (Optional n.with (λ x. link x ObjectLiteral))

unfoldable pub export_all : {X : Type 0} → ExportAll X → Rules X
export_all n = at (codes "src") (leaf (str_lit n.src)) & at (codes "with") (Optional n.with (λ x. link x ObjectLiteral))

unfoldable pub export_decl : {X : Type 0} → ExportDecl X → Rules X
export_decl n = at (codes "decl") (link n.decl ExportedHead) & at (codes "decl") (link n.decl ExportedTail)

unfoldable pub default_decl : {X : Type 0} → DefaultDecl X → Rules X
default_decl (default_decls.Class n) = class_expr n
default_decl (default_decls.Fn n) = fn_expr n
default_decl (default_decls.TsInterfaceDecl n) = ts_interface_decl n

unfoldable pub export_default_decl : {X : Type 0} → ExportDefaultDecl X → Rules X
export_default_decl n = at (codes "decl") (default_decl n.decl)

unfoldable pub export_default_expr : {X : Type 0} → ExportDefaultExpr X → Rules X
export_default_expr n = at (codes "expr") (link n.expr Expression)

unfoldable pub module_decl : {X : Type 0} → ModuleDecl X → Rules X
module_decl (module_decls.Import n) = import_decl n
module_decl (module_decls.ExportDecl n) = export_decl n
module_decl (module_decls.ExportNamed n) = named_export n
module_decl (module_decls.ExportDefaultDecl n) = export_default_decl n
module_decl (module_decls.ExportDefaultExpr n) = export_default_expr n
module_decl (module_decls.ExportAll n) = export_all n
module_decl (module_decls.TsImportEquals n) = ts_import_equals_decl n
module_decl (module_decls.TsExportAssignment n) = ts_export_assignment n
module_decl (module_decls.TsNamespaceExport n) = leaf (ts_namespace_export_decl n)
