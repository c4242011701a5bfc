-- The same of statements, programs and modules.
use Rattle.std.proofs.Common.{◌≡◌, ◌||◌, ℕ, suc, true, List, [], ◌∷◌, Option, Some, None, refl, sym}
use Rattle.std.proofs.lemmas.Bool.{true≢false}
use Rattle.std.specs.Option.{is_some, is_none}
use Rattle.swc_ecma_codegen_tree.specs.declared.modules.DefaultDecl.{DefaultDecl}
use Rattle.swc_ecma_codegen_tree.specs.declared.modules.ExportAll.{ExportAll}
use Rattle.swc_ecma_codegen_tree.specs.declared.modules.ExportDecl.{ExportDecl}
use Rattle.swc_ecma_codegen_tree.specs.declared.modules.ExportDefaultDecl.{ExportDefaultDecl}
use Rattle.swc_ecma_codegen_tree.specs.declared.modules.ExportDefaultExpr.{ExportDefaultExpr}
use Rattle.swc_ecma_codegen_tree.specs.declared.modules.ExportNamedSpecifier.{ExportNamedSpecifier}
use Rattle.swc_ecma_codegen_tree.specs.declared.modules.ExportSpecifier.{ExportSpecifier}
use Rattle.swc_ecma_codegen_tree.specs.declared.modules.ImportDecl.{ImportDecl}
use Rattle.swc_ecma_codegen_tree.specs.declared.modules.ImportNamedSpecifier.{ImportNamedSpecifier}
use Rattle.swc_ecma_codegen_tree.specs.declared.modules.ImportSpecifier.{ImportSpecifier}
use Rattle.swc_ecma_codegen_tree.specs.declared.modules.ModuleExportName.{ModuleExportName}
use Rattle.swc_ecma_codegen_tree.specs.declared.modules.NamedExport.{NamedExport}
use Rattle.swc_ecma_codegen_tree.specs.declared.programs.Module.{Module}
use Rattle.swc_ecma_codegen_tree.specs.declared.programs.ModuleDecl.{ModuleDecl}
use Rattle.swc_ecma_codegen_tree.specs.declared.programs.ModuleItem.{ModuleItem}
use Rattle.swc_ecma_codegen_tree.specs.declared.programs.Program.{Program}
use Rattle.swc_ecma_codegen_tree.specs.declared.programs.Script.{Script}
use Rattle.swc_ecma_codegen_tree.specs.declared.stmts.BlockStmt.{BlockStmt}
use Rattle.swc_ecma_codegen_tree.specs.declared.stmts.BreakStmt.{BreakStmt}
use Rattle.swc_ecma_codegen_tree.specs.declared.stmts.CatchClause.{CatchClause}
use Rattle.swc_ecma_codegen_tree.specs.declared.stmts.ContinueStmt.{ContinueStmt}
use Rattle.swc_ecma_codegen_tree.specs.declared.stmts.DebuggerStmt.{DebuggerStmt}
use Rattle.swc_ecma_codegen_tree.specs.declared.stmts.DoWhileStmt.{DoWhileStmt}
use Rattle.swc_ecma_codegen_tree.specs.declared.stmts.EmptyStmt.{EmptyStmt}
use Rattle.swc_ecma_codegen_tree.specs.declared.stmts.ExprStmt.{ExprStmt}
use Rattle.swc_ecma_codegen_tree.specs.declared.stmts.ForHead.{ForHead}
use Rattle.swc_ecma_codegen_tree.specs.declared.stmts.ForInStmt.{ForInStmt}
use Rattle.swc_ecma_codegen_tree.specs.declared.stmts.ForOfStmt.{ForOfStmt}
use Rattle.swc_ecma_codegen_tree.specs.declared.stmts.ForStmt.{ForStmt}
use Rattle.swc_ecma_codegen_tree.specs.declared.stmts.IfStmt.{IfStmt}
use Rattle.swc_ecma_codegen_tree.specs.declared.stmts.LabeledStmt.{LabeledStmt}
use Rattle.swc_ecma_codegen_tree.specs.declared.stmts.ReturnStmt.{ReturnStmt}
use Rattle.swc_ecma_codegen_tree.specs.declared.stmts.Stmt.{Stmt}
use Rattle.swc_ecma_codegen_tree.specs.declared.stmts.SwitchCase.{SwitchCase}
use Rattle.swc_ecma_codegen_tree.specs.declared.stmts.SwitchStmt.{SwitchStmt}
use Rattle.swc_ecma_codegen_tree.specs.declared.stmts.ThrowStmt.{ThrowStmt}
use Rattle.swc_ecma_codegen_tree.specs.declared.stmts.TryStmt.{TryStmt}
use Rattle.swc_ecma_codegen_tree.specs.declared.stmts.VarDeclOrExpr.{VarDeclOrExpr}
use Rattle.swc_ecma_codegen_tree.specs.declared.stmts.WhileStmt.{WhileStmt}
use Rattle.swc_ecma_codegen_tree.specs.declared.stmts.WithStmt.{WithStmt}
use Rattle.swc_ecma_codegen_tree.specs.declared.stmts.Stmt.TheVariants as stmts
use Rattle.swc_ecma_codegen_tree.specs.declared.stmts.ForHead.TheVariants as for_heads
use Rattle.swc_ecma_codegen_tree.specs.declared.stmts.VarDeclOrExpr.TheVariants as var_decl_or_exprs
use Rattle.swc_ecma_codegen_tree.specs.declared.programs.Program.TheVariants as programs
use Rattle.swc_ecma_codegen_tree.specs.declared.programs.ModuleItem.TheVariants as module_items
use Rattle.swc_ecma_codegen_tree.specs.declared.programs.ModuleDecl.TheVariants as module_decls
use Rattle.swc_ecma_codegen_tree.specs.declared.modules.ImportSpecifier.TheVariants as import_specifiers
use Rattle.swc_ecma_codegen_tree.specs.declared.modules.ExportSpecifier.TheVariants as export_specifiers
use Rattle.swc_ecma_codegen_tree.specs.declared.modules.ModuleExportName.TheVariants as module_export_names
use Rattle.swc_ecma_codegen_tree.specs.declared.modules.DefaultDecl.TheVariants as default_decls
use Rattle.swc_ecma_codegen_tree.specs.Links.{ObjectLitBox}
use Rattle.swc_ecma_codegen_tree.specs.declared.lits.Str.{Str}
use Rattle.swc_ecma_codegen_validate.specs.ModuleForms.{bindings_fit, exports_fit, imports_fit, others_fit}
use Rattle.swc_ecma_codegen_validate.specs.NameRules as names
use Rattle.swc_ecma_codegen_grammar.specs.declared.roles.Role.{Role}
use Rattle.swc_ecma_codegen_grammar.specs.declared.roles.Role.TheVariants.{Block, ExportedHead, ExportedTail, Expression, ModuleDeclaration, ObjectLiteral, Pattern, Statement, VariableDeclaration}
use Rattle.swc_ecma_codegen_grammar.specs.ModulePhrases.{default_decl, export_all, export_decl, export_default_decl, export_default_expr, export_named, export_named_specifier, export_specifier, exported_as, from_clause, import_decl, import_named, import_specifier, imported_as, module_decl, module_export_name}
use Rattle.swc_ecma_codegen_grammar.specs.Phrases.{Phrase, is_possible}
use Rattle.swc_ecma_codegen_grammar.specs.StmtPhrases.{block_stmt, break_stmt, catch_clause, continue_stmt, debugger_stmt, do_while_stmt, empty_stmt, expr_stmt, for_head, for_in_stmt, for_init, for_of_stmt, for_stmt, handler, if_stmt, labeled_stmt, module_item, program, return_stmt, script, stmt, switch_case, switch_stmt, throw_stmt, try_stmt, var_decl_or_expr, while_stmt, whole_module, with_stmt}
use Rattle.swc_ecma_codegen_validate.specs.Possible.{all_possible}
use Rattle.swc_ecma_codegen_validate.specs.StmtRules as rules
use Rattle.swc_ecma_codegen_validate.specs.Rules.{Findings, findings, no_links, in_each, in_some}
use Rattle.swc_ecma_codegen_validate.proofs.Fitting.{Held, each_fits, optional_value_fits, return_rest_fits, else_branch_fits, case_test_fits, catch_param_fits, finalizer_fits, attributes_fits}
use Rattle.swc_ecma_codegen_validate.proofs.FitsNames.{ident_fits, optional_name_fits, str_lit_fits}
use Rattle.swc_ecma_codegen_validate.proofs.FitsTs.{ts_export_assignment_fits, ts_import_equals_decl_fits, ts_interface_decl_fits, ts_namespace_export_decl_fits}
use Rattle.swc_ecma_codegen_validate.proofs.FitsDecls.{class_expr_fits, decl_fits, fn_expr_fits, using_decl_fits}
use Rattle.swc_ecma_codegen_validate.proofs.FunctionsPossible.{block_possible}
use Rattle.swc_ecma_codegen_validate.proofs.Lists.{in_order_possible}
use Rattle.swc_ecma_codegen_validate.proofs.ModulesPossible.{export_all_possible, export_named_possible, export_named_specifier_possible, import_decl_possible, import_named_possible}
use Rattle.swc_ecma_codegen_validate.proofs.StmtsPossible.{for_of_stmt_possible, jump_possible, switch_case_possible, switch_stmt_possible}

pub empty_stmt_fits : (n : EmptyStmt) → (findings no_links (rules.empty_stmt n)).none → is_possible (empty_stmt n) ≡ true
unfolding findings rules.empty_stmt empty_stmt is_possible
empty_stmt_fits n h = refl

pub debugger_stmt_fits : (n : DebuggerStmt) → (findings no_links (rules.debugger_stmt n)).none → is_possible (debugger_stmt n) ≡ true
unfolding findings rules.debugger_stmt debugger_stmt is_possible
debugger_stmt_fits n h = refl

pub break_stmt_fits : (n : BreakStmt) → (findings no_links (rules.break_stmt n)).none → is_possible (break_stmt n) ≡ true
unfolding findings rules.break_stmt break_stmt is_possible
break_stmt_fits n h = simp (jump_possible, optional_name_fits n.label h)

pub continue_stmt_fits : (n : ContinueStmt) → (findings no_links (rules.continue_stmt n)).none → is_possible (continue_stmt n) ≡ true
unfolding findings rules.continue_stmt continue_stmt is_possible
continue_stmt_fits n h = simp (jump_possible, optional_name_fits n.label h)

pub module_export_name_fits : (n : ModuleExportName) → (findings no_links (rules.module_export_name n)).none → is_possible (module_export_name n) ≡ true
unfolding findings rules.module_export_name module_export_name
module_export_name_fits (module_export_names.Ident n) h = simp (ident_fits n h)
module_export_name_fits (module_export_names.Str n) h = simp (str_lit_fits n h)

imported_as_fits : (o : Option ModuleExportName) → (in_some (λ x. findings no_links (rules.module_export_name x)) o).none → is_possible (imported_as o) ≡ true
unfolding in_some imported_as is_possible
imported_as_fits None h = refl
imported_as_fits (Some n) h = simp (module_export_name_fits n h)

exported_as_fits : (o : Option ModuleExportName) → (in_some (λ x. findings no_links (rules.module_export_name x)) o).none → is_possible (exported_as o) ≡ true
unfolding in_some exported_as is_possible
exported_as_fits None h = refl
exported_as_fits (Some n) h = module_export_name_fits n h

pub import_named_specifier_fits : (n : ImportNamedSpecifier) → (findings no_links (rules.import_named_specifier n)).none → is_possible (import_named n) ≡ true
unfolding findings rules.import_named_specifier
import_named_specifier_fits n h = simp (import_named_possible, imported_as_fits n.imported h.0, ident_fits n.local h.1)

-- what stands in braces, or is a namespace
named_fit : (i : ℕ) (ns : List ImportSpecifier) → rules.are_named ns ≡ true → (in_each (λ x. findings no_links (rules.import_specifier x)) i ns).none → all_possible import_specifier ns ≡ true
unfolding in_each all_possible rules.are_named rules.is_named findings rules.import_specifier import_specifier
named_fit i [] e h = refl
named_fit i (import_specifiers.Named n ∷ ns) e h = simp (import_named_specifier_fits n h.0, named_fit (suc i) ns e h.1)
named_fit i (import_specifiers.Default n ∷ ns) e h = absurd (true≢false (sym e))
named_fit i (import_specifiers.Namespace n ∷ ns) e h = absurd (true≢false (sym e))

bindings_fits : (i : ℕ) (ns : List ImportSpecifier) → rules.are_bindings ns ≡ true → (in_each (λ x. findings no_links (rules.import_specifier x)) i ns).none → bindings_fit ns ≡ true
unfolding in_each bindings_fit rules.are_bindings findings rules.import_specifier
bindings_fits i [] e h = named_fit i [] e h
bindings_fits i (import_specifiers.Namespace n ∷ []) e h = ident_fits n.local h.0
bindings_fits i (import_specifiers.Namespace n ∷ m ∷ ns) e h = named_fit i (import_specifiers.Namespace n ∷ m ∷ ns) e h
bindings_fits i (import_specifiers.Named n ∷ ns) e h = named_fit i (import_specifiers.Named n ∷ ns) e h
bindings_fits i (import_specifiers.Default n ∷ ns) e h = named_fit i (import_specifiers.Default n ∷ ns) e h

others_fits : (i : ℕ) (ns : List ImportSpecifier) → rules.are_bindings ns ≡ true → (in_each (λ x. findings no_links (rules.import_specifier x)) i ns).none → others_fit ns ≡ true
unfolding others_fit
others_fits i [] e h = refl
others_fits i (n ∷ ns) e h = bindings_fits i (n ∷ ns) e h

imports_fits : (i : ℕ) (ns : List ImportSpecifier) → rules.are_imports_in_order ns ≡ true → (in_each (λ x. findings no_links (rules.import_specifier x)) i ns).none → imports_fit ns ≡ true
unfolding in_each imports_fit rules.are_imports_in_order findings rules.import_specifier
imports_fits i [] e h = refl
imports_fits i (import_specifiers.Default n ∷ ns) e h = simp (ident_fits n.local h.0, others_fits (suc i) ns e h.1)
imports_fits i (import_specifiers.Named n ∷ ns) e h = bindings_fits i (import_specifiers.Named n ∷ ns) e h
imports_fits i (import_specifiers.Namespace n ∷ ns) e h = bindings_fits i (import_specifiers.Namespace n ∷ ns) e h

pub export_named_specifier_fits : (n : ExportNamedSpecifier) → (findings no_links (rules.export_named_specifier n)).none → is_possible (export_named_specifier n) ≡ true
unfolding findings rules.export_named_specifier
export_named_specifier_fits n h = simp (export_named_specifier_possible, module_export_name_fits n.orig h.0, exported_as_fits n.exported h.1)

-- the same of exports
all_exported : (i : ℕ) (ns : List ExportSpecifier) → rules.has_no_namespace ns ≡ true → (in_each (λ x. findings no_links (rules.export_specifier x)) i ns).none → all_possible export_specifier ns ≡ true
unfolding in_each all_possible rules.has_no_namespace rules.is_namespace findings rules.export_specifier export_specifier
all_exported i [] e h = refl
all_exported i (export_specifiers.Named n ∷ ns) e h = simp (export_named_specifier_fits n h.0, all_exported (suc i) ns e h.1)
all_exported i (export_specifiers.Default n ∷ ns) e h = absurd (true≢false (sym h.0))
all_exported i (export_specifiers.Namespace n ∷ ns) e h = absurd (true≢false (sym e))

exports_fits : (i : ℕ) (ns : List ExportSpecifier) → rules.are_exports_in_order ns ≡ true → (in_each (λ x. findings no_links (rules.export_specifier x)) i ns).none → exports_fit ns ≡ true
unfolding in_each exports_fit rules.are_exports_in_order findings rules.export_specifier
exports_fits i [] e h = all_exported i [] e h
exports_fits i (export_specifiers.Namespace n ∷ []) e h = module_export_name_fits n.name h.0
exports_fits i (export_specifiers.Namespace n ∷ m ∷ ns) e h = simp (module_export_name_fits n.name h.0, all_exported (suc i) (m ∷ ns) e h.1)
exports_fits i (export_specifiers.Named n ∷ ns) e h = all_exported i (export_specifiers.Named n ∷ ns) e h
exports_fits i (export_specifiers.Default n ∷ ns) e h = all_exported i (export_specifiers.Default n ∷ ns) e h

module _ {X : Type 0} (f : X → Role → Findings) (g : X → Role → Phrase) (held : Held f g) where
  pub expr_stmt_fits : (n : ExprStmt X) → (findings f (rules.expr_stmt n)).none → is_possible (expr_stmt g n) ≡ true
  unfolding findings rules.expr_stmt expr_stmt is_possible
  expr_stmt_fits n h = simp (held.node n.expr.node.value Expression h)

  pub for_head_fits : (n : ForHead X) → (findings f (rules.for_head n)).none → is_possible (for_head g n) ≡ true
  unfolding findings rules.for_head for_head is_possible
  for_head_fits (for_heads.VarDecl n) h = simp (held.node n.node.value VariableDeclaration h)
  for_head_fits (for_heads.UsingDecl n) h = simp (using_decl_fits f g held n.value h)
  for_head_fits (for_heads.Pat n) h = simp (held.node n.node.value Pattern h)

  pub for_in_stmt_fits : (n : ForInStmt X) → (findings f (rules.for_in_stmt n)).none → is_possible (for_in_stmt g n) ≡ true
  unfolding findings rules.for_in_stmt for_in_stmt is_possible
  for_in_stmt_fits n h = simp (for_head_fits n.left h.0, held.node n.right.node.value Expression h.1.0, held.node n.body.node.value Statement h.1.1)

  pub labeled_stmt_fits : (n : LabeledStmt X) → (findings f (rules.labeled_stmt n)).none → is_possible (labeled_stmt g n) ≡ true
  unfolding findings rules.labeled_stmt labeled_stmt is_possible
  labeled_stmt_fits n h = simp (ident_fits n.label h.0, held.node n.body.node.value Statement h.1)

  pub catch_clause_fits : (n : CatchClause X) → (findings f (rules.catch_clause n)).none → is_possible (catch_clause g n) ≡ true
  unfolding findings rules.catch_clause catch_clause is_possible
  catch_clause_fits n h = simp (catch_param_fits f g held n.param h.0, held.node n.body.node.value Block h.1)

  handler_fits : (o : Option (CatchClause X)) → (in_some (λ x. findings f (rules.catch_clause x)) o).none → is_possible (handler g o) ≡ true
  unfolding in_some handler is_possible
  handler_fits None h = refl
  handler_fits (Some n) h = catch_clause_fits n h

  pub try_stmt_fits : (n : TryStmt X) → (findings f (rules.try_stmt n)).none → is_possible (try_stmt g n) ≡ true
  unfolding findings rules.try_stmt try_stmt is_possible
  try_stmt_fits n h = simp (held.node n.block.node.value Block h.0, handler_fits n.handler h.1.0, finalizer_fits f g held n.finalizer h.1.1)

  pub for_of_stmt_fits : (n : ForOfStmt X) → (findings f (rules.for_of_stmt n)).none → is_possible (for_of_stmt g n) ≡ true
  unfolding findings rules.for_of_stmt
  for_of_stmt_fits n h = simp (for_of_stmt_possible, for_head_fits n.left h.0, held.node n.right.node.value Expression h.1.0, held.node n.body.node.value Statement h.1.1)

  pub switch_case_fits : (n : SwitchCase X) → (findings f (rules.switch_case n)).none → is_possible (switch_case g n) ≡ true
  unfolding findings rules.switch_case
  switch_case_fits n h = simp (switch_case_possible, case_test_fits f g held n.test h.0, each_fits _ _ _ n.cons.items h.1 (λ x. held.node x.node.value Statement))

  pub switch_stmt_fits : (n : SwitchStmt X) → (findings f (rules.switch_stmt n)).none → is_possible (switch_stmt g n) ≡ true
  unfolding findings rules.switch_stmt
  switch_stmt_fits n h = simp (switch_stmt_possible, held.node n.discriminant.node.value Expression h.0, each_fits _ (switch_case g) _ n.cases.items h.1 switch_case_fits)

  pub do_while_stmt_fits : (n : DoWhileStmt X) → (findings f (rules.do_while_stmt n)).none → is_possible (do_while_stmt g n) ≡ true
  unfolding findings rules.do_while_stmt do_while_stmt is_possible
  do_while_stmt_fits n h = simp (held.node n.body.node.value Statement h.0, held.node n.test.node.value Expression h.1)

  pub throw_stmt_fits : (n : ThrowStmt X) → (findings f (rules.throw_stmt n)).none → is_possible (throw_stmt g n) ≡ true
  unfolding findings rules.throw_stmt throw_stmt is_possible
  throw_stmt_fits n h = simp (held.node n.arg.node.value Expression h)

  pub while_stmt_fits : (n : WhileStmt X) → (findings f (rules.while_stmt n)).none → is_possible (while_stmt g n) ≡ true
  unfolding findings rules.while_stmt while_stmt is_possible
  while_stmt_fits n h = simp (held.node n.test.node.value Expression h.0, held.node n.body.node.value Statement h.1)

  pub if_stmt_fits : (n : IfStmt X) → (findings f (rules.if_stmt n)).none → is_possible (if_stmt g n) ≡ true
  unfolding findings rules.if_stmt if_stmt is_possible
  if_stmt_fits n h = simp (held.node n.test.node.value Expression h.0, held.node n.cons.node.value Statement h.1.0, else_branch_fits f g held n.alt h.1.1)

  pub with_stmt_fits : (n : WithStmt X) → (findings f (rules.with_stmt n)).none → is_possible (with_stmt g n) ≡ true
  unfolding findings rules.with_stmt with_stmt is_possible
  with_stmt_fits n h = simp (held.node n.obj.node.value Expression h.0, held.node n.body.node.value Statement h.1)

  pub return_stmt_fits : (n : ReturnStmt X) → (findings f (rules.return_stmt n)).none → is_possible (return_stmt g n) ≡ true
  unfolding findings rules.return_stmt return_stmt is_possible
  return_stmt_fits n h = simp (return_rest_fits f g held n.arg h)

  pub var_decl_or_expr_fits : (n : VarDeclOrExpr X) → (findings f (rules.var_decl_or_expr n)).none → is_possible (var_decl_or_expr g n) ≡ true
  unfolding findings rules.var_decl_or_expr var_decl_or_expr is_possible
  var_decl_or_expr_fits (var_decl_or_exprs.VarDecl n) h = simp (held.node n.node.value VariableDeclaration h)
  var_decl_or_expr_fits (var_decl_or_exprs.Expr n) h = simp (held.node n.node.value Expression h)

  for_init_fits : (o : Option (VarDeclOrExpr X)) → (in_some (λ x. findings f (rules.var_decl_or_expr x)) o).none → is_possible (for_init g o) ≡ true
  unfolding in_some for_init is_possible
  for_init_fits None h = refl
  for_init_fits (Some n) h = var_decl_or_expr_fits n h

  pub for_stmt_fits : (n : ForStmt X) → (findings f (rules.for_stmt n)).none → is_possible (for_stmt g n) ≡ true
  unfolding findings rules.for_stmt for_stmt is_possible
  for_stmt_fits n h = simp (for_init_fits n.init h.0, optional_value_fits f g held n.test h.1.0, optional_value_fits f g held n.update h.1.1.0, held.node n.body.node.value Statement h.1.1.1)

  pub stmt_fits : (n : Stmt X) → (findings f (rules.stmt n)).none → is_possible (stmt g n) ≡ true
  unfolding findings rules.stmt stmt is_possible
  stmt_fits (stmts.Block n) h = simp (held.node n.node.value Block h)
  stmt_fits (stmts.Empty n) h = simp (empty_stmt_fits n h)
  stmt_fits (stmts.Debugger n) h = simp (debugger_stmt_fits n h)
  stmt_fits (stmts.With n) h = simp (with_stmt_fits n h)
  stmt_fits (stmts.Return n) h = simp (return_stmt_fits n h)
  stmt_fits (stmts.Labeled n) h = simp (labeled_stmt_fits n h)
  stmt_fits (stmts.Break n) h = simp (break_stmt_fits n h)
  stmt_fits (stmts.Continue n) h = simp (continue_stmt_fits n h)
  stmt_fits (stmts.If n) h = simp (if_stmt_fits n h)
  stmt_fits (stmts.Switch n) h = simp (switch_stmt_fits n h)
  stmt_fits (stmts.Throw n) h = simp (throw_stmt_fits n h)
  stmt_fits (stmts.Try n) h = simp (try_stmt_fits n h)
  stmt_fits (stmts.While n) h = simp (while_stmt_fits n h)
  stmt_fits (stmts.DoWhile n) h = simp (do_while_stmt_fits n h)
  stmt_fits (stmts.For n) h = simp (for_stmt_fits n h)
  stmt_fits (stmts.ForIn n) h = simp (for_in_stmt_fits n h)
  stmt_fits (stmts.ForOf n) h = simp (for_of_stmt_fits n h)
  stmt_fits (stmts.Decl n) h = simp (decl_fits f g held n h)
  stmt_fits (stmts.Expr n) h = simp (expr_stmt_fits n h)

  pub block_stmt_fits : (n : BlockStmt X) → (findings f (rules.block_stmt n)).none → is_possible (block_stmt g n) ≡ true
  unfolding findings rules.block_stmt
  block_stmt_fits n h = simp (block_possible, each_fits _ (stmt g) _ n.stmts.items h stmt_fits)

  pub script_fits : (n : Script X) → (findings f (rules.script n)).none → is_possible (script g n) ≡ true
  unfolding findings rules.script script is_possible
  script_fits n h = simp (in_order_possible, h.0, each_fits _ (stmt g) _ n.body.items h.1 stmt_fits)

  pub module_item_fits : (n : ModuleItem X) → (findings f (rules.module_item n)).none → is_possible (module_item g n) ≡ true
  unfolding findings rules.module_item module_item
  module_item_fits (module_items.ModuleDecl n) h = simp (held.node n.node.value ModuleDeclaration h)
  module_item_fits (module_items.Stmt n) h = simp (stmt_fits n h)

  pub whole_module_fits : (n : Module X) → (findings f (rules.whole_module n)).none → is_possible (whole_module g n) ≡ true
  unfolding findings rules.whole_module whole_module is_possible
  whole_module_fits n h = simp (in_order_possible, h.0, each_fits _ (module_item g) _ n.body.items h.1 module_item_fits)

  pub program_fits : (n : Program X) → (findings f (rules.program n)).none → is_possible (program g n) ≡ true
  unfolding findings rules.program program is_possible
  program_fits (programs.Module n) h = simp (whole_module_fits n h)
  program_fits (programs.Script n) h = simp (script_fits n h)

  pub import_decl_fits : (n : ImportDecl X) → (findings f (rules.import_decl n)).none → is_possible (import_decl g n) ≡ true
  unfolding findings rules.import_decl
  import_decl_fits n h = simp (import_decl_possible, imports_fits 0 n.specifiers.items h.0 h.1.0, str_lit_fits n.src h.1.1.0, attributes_fits f g held n.with h.1.1.1)

  from_fits : (with_ : Option (ObjectLitBox X)) (src : Option Str) → (is_some src || is_none with_) ≡ true → (in_some (λ x. findings no_links (names.str_lit x)) src).none → (in_some {A = ObjectLitBox X} (λ x. f x.node.value ObjectLiteral) with_).none → is_possible (from_clause g with_ src) ≡ true
  unfolding in_some from_clause is_possible
  from_fits with_ (Some n) e p q = simp (str_lit_fits n p, attributes_fits f g held with_ q)
  from_fits None None e p q = refl
  from_fits (Some n) None e p q = absurd (true≢false (sym e))

  pub named_export_fits : (n : NamedExport X) → (findings f (rules.named_export n)).none → is_possible (export_named g n) ≡ true
  unfolding findings rules.named_export
  named_export_fits n h = simp (export_named_possible, exports_fits 0 n.specifiers.items h.1.0 h.1.1.0, from_fits n.with n.src h.0 h.1.1.1.0 h.1.1.1.1)

  pub export_all_fits : (n : ExportAll X) → (findings f (rules.export_all n)).none → is_possible (export_all g n) ≡ true
  unfolding findings rules.export_all
  export_all_fits n h = simp (export_all_possible, str_lit_fits n.src h.0, attributes_fits f g held n.with h.1)

  pub export_decl_fits : (n : ExportDecl X) → (findings f (rules.export_decl n)).none → is_possible (export_decl g n) ≡ true
  unfolding findings rules.export_decl export_decl is_possible
  export_decl_fits n h = simp (held.node n.decl.node.value ExportedHead h.0, held.node n.decl.node.value ExportedTail h.1)

  pub default_decl_fits : (n : DefaultDecl X) → (findings f (rules.default_decl n)).none → is_possible (default_decl g n) ≡ true
  unfolding findings rules.default_decl default_decl is_possible
  default_decl_fits (default_decls.Class n) h = simp (class_expr_fits f g held n h)
  default_decl_fits (default_decls.Fn n) h = simp (fn_expr_fits f g held n h)
  default_decl_fits (default_decls.TsInterfaceDecl n) h = simp (ts_interface_decl_fits f g held n h)

  pub export_default_decl_fits : (n : ExportDefaultDecl X) → (findings f (rules.export_default_decl n)).none → is_possible (export_default_decl g n) ≡ true
  unfolding findings rules.export_default_decl export_default_decl is_possible
  export_default_decl_fits n h = simp (default_decl_fits n.decl h)

  pub export_default_expr_fits : (n : ExportDefaultExpr X) → (findings f (rules.export_default_expr n)).none → is_possible (export_default_expr g n) ≡ true
  unfolding findings rules.export_default_expr export_default_expr is_possible
  export_default_expr_fits n h = simp (held.node n.expr.node.value Expression h)

  pub module_decl_fits : (n : ModuleDecl X) → (findings f (rules.module_decl n)).none → is_possible (module_decl g n) ≡ true
  unfolding findings rules.module_decl module_decl is_possible
  module_decl_fits (module_decls.Import n) h = simp (import_decl_fits n h)
  module_decl_fits (module_decls.ExportDecl n) h = simp (export_decl_fits n h)
  module_decl_fits (module_decls.ExportNamed n) h = simp (named_export_fits n h)
  module_decl_fits (module_decls.ExportDefaultDecl n) h = simp (export_default_decl_fits n h)
  module_decl_fits (module_decls.ExportDefaultExpr n) h = simp (export_default_expr_fits n h)
  module_decl_fits (module_decls.ExportAll n) h = simp (export_all_fits n h)
  module_decl_fits (module_decls.TsImportEquals n) h = simp (ts_import_equals_decl_fits f g held n h)
  module_decl_fits (module_decls.TsExportAssignment n) h = simp (ts_export_assignment_fits f g held n h)
  module_decl_fits (module_decls.TsNamespaceExport n) h = simp (ts_namespace_export_decl_fits n h)
