-- Modules and programs that are the same but for what their links hold: that stands in the relation `m`.
use Rattle.std.specs.Prelude.{◌≡◌}
use Rattle.swc_ecma_codegen_tree.specs.declared.modules.DefaultDecl.{DefaultDecl}
use Rattle.swc_ecma_codegen_tree.specs.declared.modules.DefaultDecl.TheVariants as default_decls
use Rattle.swc_ecma_codegen_tree.specs.declared.modules.ExportDecl.{ExportDecl}
use Rattle.swc_ecma_codegen_tree.specs.declared.modules.ExportDefaultDecl.{ExportDefaultDecl}
use Rattle.swc_ecma_codegen_tree.specs.declared.modules.ExportDefaultExpr.{ExportDefaultExpr}
use Rattle.swc_ecma_codegen_tree.specs.declared.programs.Module.{Module}
use Rattle.swc_ecma_codegen_tree.specs.declared.programs.ModuleDecl.{ModuleDecl}
use Rattle.swc_ecma_codegen_tree.specs.declared.programs.ModuleDecl.TheVariants as module_decls
use Rattle.swc_ecma_codegen_tree.specs.declared.programs.ModuleItem.{ModuleItem}
use Rattle.swc_ecma_codegen_tree.specs.declared.programs.ModuleItem.TheVariants as module_items
use Rattle.swc_ecma_codegen_tree.specs.declared.programs.Program.{Program}
use Rattle.swc_ecma_codegen_tree.specs.declared.programs.Program.TheVariants as programs
use Rattle.swc_ecma_codegen_tree.specs.declared.programs.Script.{Script}
use Rattle.swc_ecma_codegen_parentheses.specs.declared.mends.Usage.{Usage}
use Rattle.swc_ecma_codegen_syntax.specs.declared.lookahead.Lookahead.TheVariants.{DefaultStart}
use Rattle.swc_ecma_codegen_syntax.specs.declared.nonterminals.Nonterminal.TheVariants as nt
use Rattle.swc_ecma_codegen_parentheses.specs.Operands.{under}
use Rattle.swc_ecma_codegen_parentheses.specs.Lists.{Pairwise, linked, linked_as}
use Rattle.swc_ecma_codegen_parentheses.specs.SameExprs.{same_class_expr, same_fn_expr}
use Rattle.swc_ecma_codegen_parentheses.specs.SameStmts.{same_stmt}
use Rattle.swc_ecma_codegen_parentheses.specs.SameTsDecls.{same_ts_export_assignment}

unfoldable pub same_export_decl : {X : Type 0} → (Usage → X → X → Type 0) → ExportDecl X → ExportDecl X → Type 0
same_export_decl m n r = (r ≡ record n { decl = r.decl }) × linked m n.decl r.decl

unfoldable pub same_default_decl : {X : Type 0} → (Usage → X → X → Type 0) → DefaultDecl X → DefaultDecl X → Type 0
same_default_decl m (default_decls.Class n) (default_decls.Class r) = same_class_expr m n r
same_default_decl m (default_decls.Fn n) (default_decls.Fn r) = same_fn_expr m n r
same_default_decl m n r = n ≡ r

unfoldable pub same_export_default_decl : {X : Type 0} → (Usage → X → X → Type 0) → ExportDefaultDecl X → ExportDefaultDecl X → Type 0
same_export_default_decl m n r = (r ≡ record n { decl = r.decl }) × same_default_decl m n.decl r.decl

unfoldable pub same_export_default_expr : {X : Type 0} → (Usage → X → X → Type 0) → ExportDefaultExpr X → ExportDefaultExpr X → Type 0
same_export_default_expr m n r = (r ≡ record n { expr = r.expr }) × linked_as (under DefaultStart nt.AssignmentExpression) m n.expr r.expr

unfoldable pub same_module_item : {X : Type 0} → (Usage → X → X → Type 0) → ModuleItem X → ModuleItem X → Type 0
same_module_item m (module_items.ModuleDecl n) (module_items.ModuleDecl r) = linked m n r
same_module_item m (module_items.Stmt n) (module_items.Stmt r) = same_stmt m n r
same_module_item m n r = ⊥

unfoldable pub same_module : {X : Type 0} → (Usage → X → X → Type 0) → Module X → Module X → Type 0
same_module m n r = (r ≡ record n { body = r.body }) × Pairwise (same_module_item m) n.body.items r.body.items

unfoldable pub same_script : {X : Type 0} → (Usage → X → X → Type 0) → Script X → Script X → Type 0
same_script m n r = (r ≡ record n { body = r.body }) × Pairwise (same_stmt m) n.body.items r.body.items

unfoldable pub same_program : {X : Type 0} → (Usage → X → X → Type 0) → Program X → Program X → Type 0
same_program m (programs.Module n) (programs.Module r) = same_module m n r
same_program m (programs.Script n) (programs.Script r) = same_script m n r
same_program m n r = ⊥

unfoldable pub same_module_decl : {X : Type 0} → (Usage → X → X → Type 0) → ModuleDecl X → ModuleDecl X → Type 0
same_module_decl m (module_decls.ExportDecl n) (module_decls.ExportDecl r) = same_export_decl m n r
same_module_decl m (module_decls.ExportDefaultDecl n) (module_decls.ExportDefaultDecl r) = same_export_default_decl m n r
same_module_decl m (module_decls.ExportDefaultExpr n) (module_decls.ExportDefaultExpr r) = same_export_default_expr m n r
same_module_decl m (module_decls.TsExportAssignment n) (module_decls.TsExportAssignment r) = same_ts_export_assignment m n r
same_module_decl m n r = n ≡ r
