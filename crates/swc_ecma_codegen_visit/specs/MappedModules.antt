-- Maps of modules, scripts and namespaces: of each type, over names and what links hold as something else. Made by scripts/dev/make-visit-files.
use Rattle.std.specs.formers.vec.Vec.{mapped as vec_mapped}
use Rattle.swc_ecma_codegen_tree.specs.declared.modules.DefaultDecl.{DefaultDecl}
use Rattle.swc_ecma_codegen_tree.specs.declared.modules.ExportAll.{ExportAll}
use Rattle.swc_ecma_codegen_tree.specs.declared.modules.ExportDecl.{ExportDecl}
use Rattle.swc_ecma_codegen_tree.specs.declared.modules.ExportDefaultDecl.{ExportDefaultDecl}
use Rattle.swc_ecma_codegen_tree.specs.declared.modules.ExportDefaultExpr.{ExportDefaultExpr}
use Rattle.swc_ecma_codegen_tree.specs.declared.modules.ExportDefaultSpecifier.{ExportDefaultSpecifier}
use Rattle.swc_ecma_codegen_tree.specs.declared.modules.ExportNamedSpecifier.{ExportNamedSpecifier}
use Rattle.swc_ecma_codegen_tree.specs.declared.modules.ExportNamespaceSpecifier.{ExportNamespaceSpecifier}
use Rattle.swc_ecma_codegen_tree.specs.declared.modules.ExportSpecifier.{ExportSpecifier}
use Rattle.swc_ecma_codegen_tree.specs.declared.idents.Ident.{Ident}
use Rattle.swc_ecma_codegen_tree.specs.declared.modules.ImportDecl.{ImportDecl}
use Rattle.swc_ecma_codegen_tree.specs.declared.modules.ImportDefaultSpecifier.{ImportDefaultSpecifier}
use Rattle.swc_ecma_codegen_tree.specs.declared.modules.ImportNamedSpecifier.{ImportNamedSpecifier}
use Rattle.swc_ecma_codegen_tree.specs.declared.modules.ImportSpecifier.{ImportSpecifier}
use Rattle.swc_ecma_codegen_tree.specs.declared.modules.ImportStarAsSpecifier.{ImportStarAsSpecifier}
use Rattle.swc_ecma_codegen_tree.specs.declared.programs.Module.{Module}
use Rattle.swc_ecma_codegen_tree.specs.declared.programs.ModuleDecl.{ModuleDecl}
use Rattle.swc_ecma_codegen_tree.specs.declared.modules.ModuleExportName.{ModuleExportName}
use Rattle.swc_ecma_codegen_tree.specs.declared.programs.ModuleItem.{ModuleItem}
use Rattle.swc_ecma_codegen_tree.specs.declared.modules.NamedExport.{NamedExport}
use Rattle.swc_ecma_codegen_tree.specs.declared.programs.Program.{Program}
use Rattle.swc_ecma_codegen_tree.specs.declared.programs.Script.{Script}
use Rattle.swc_ecma_codegen_tree.specs.declared.ts_decls.TsModuleBlock.{TsModuleBlock}
use Rattle.swc_ecma_codegen_tree.specs.declared.ts_decls.TsNamespaceBody.{TsNamespaceBody}
use Rattle.swc_ecma_codegen_tree.specs.declared.ts_decls.TsNamespaceDecl.{TsNamespaceDecl}
use Rattle.swc_ecma_codegen_tree.specs.declared.modules.DefaultDecl.TheVariants as default_decls
use Rattle.swc_ecma_codegen_tree.specs.declared.modules.ExportSpecifier.TheVariants as export_specifiers
use Rattle.swc_ecma_codegen_tree.specs.declared.modules.ImportSpecifier.TheVariants as import_specifiers
use Rattle.swc_ecma_codegen_tree.specs.declared.programs.ModuleDecl.TheVariants as module_decls
use Rattle.swc_ecma_codegen_tree.specs.declared.modules.ModuleExportName.TheVariants as module_export_names
use Rattle.swc_ecma_codegen_tree.specs.declared.programs.ModuleItem.TheVariants as module_items
use Rattle.swc_ecma_codegen_tree.specs.declared.programs.Program.TheVariants as programs
use Rattle.swc_ecma_codegen_tree.specs.declared.ts_decls.TsNamespaceBody.TheVariants as ts_namespace_bodys
use Rattle.swc_ecma_codegen_visit.specs.Mapping.{map_link, map_option}
use Rattle.swc_ecma_codegen_visit.specs.MappedExprs.{map_class_expr, map_fn_expr}
use Rattle.swc_ecma_codegen_visit.specs.MappedTsDecls.{map_ts_export_assignment, map_ts_import_equals_decl, map_ts_interface_decl}
use Rattle.swc_ecma_codegen_visit.specs.MappedTsDecls.{map_ts_namespace_export_decl}
use Rattle.swc_ecma_codegen_visit.specs.MappedStmts.{map_stmt}

abbrev pub map_module_export_name : (Ident → Ident) → ModuleExportName → ModuleExportName
map_module_export_name g (module_export_names.Ident n) = module_export_names.Ident (g n)
map_module_export_name g (module_export_names.Str n) = module_export_names.Str n

abbrev pub map_import_named_specifier : (Ident → Ident) → ImportNamedSpecifier → ImportNamedSpecifier
map_import_named_specifier g n = record n { local = g n.local; imported = map_option (map_module_export_name g) n.imported }

abbrev pub map_import_default_specifier : (Ident → Ident) → ImportDefaultSpecifier → ImportDefaultSpecifier
map_import_default_specifier g n = record n { local = g n.local }

abbrev pub map_import_star_as_specifier : (Ident → Ident) → ImportStarAsSpecifier → ImportStarAsSpecifier
map_import_star_as_specifier g n = record n { local = g n.local }

abbrev pub map_import_specifier : (Ident → Ident) → ImportSpecifier → ImportSpecifier
map_import_specifier g (import_specifiers.Named n) = import_specifiers.Named (map_import_named_specifier g n)
map_import_specifier g (import_specifiers.Default n) = import_specifiers.Default (map_import_default_specifier g n)
map_import_specifier g (import_specifiers.Namespace n) = import_specifiers.Namespace (map_import_star_as_specifier g n)

abbrev pub map_import_decl : {X : Type 0} → (Ident → Ident) → (X → X) → ImportDecl X → ImportDecl X
map_import_decl g f n = record n { specifiers = vec_mapped (map_import_specifier g) n.specifiers; with = map_option (map_link f) n.with }

abbrev pub map_export_decl : {X : Type 0} → (Ident → Ident) → (X → X) → ExportDecl X → ExportDecl X
map_export_decl g f n = record n { decl = map_link f n.decl }

abbrev pub map_export_namespace_specifier : (Ident → Ident) → ExportNamespaceSpecifier → ExportNamespaceSpecifier
map_export_namespace_specifier g n = record n { name = map_module_export_name g n.name }

abbrev pub map_export_default_specifier : (Ident → Ident) → ExportDefaultSpecifier → ExportDefaultSpecifier
map_export_default_specifier g n = record n { exported = g n.exported }

abbrev pub map_export_named_specifier : (Ident → Ident) → ExportNamedSpecifier → ExportNamedSpecifier
map_export_named_specifier g n = record n {
  orig = map_module_export_name g n.orig;
  exported = map_option (map_module_export_name g) n.exported;
}

abbrev pub map_export_specifier : (Ident → Ident) → ExportSpecifier → ExportSpecifier
map_export_specifier g (export_specifiers.Namespace n) = export_specifiers.Namespace (map_export_namespace_specifier g n)
map_export_specifier g (export_specifiers.Default n) = export_specifiers.Default (map_export_default_specifier g n)
map_export_specifier g (export_specifiers.Named n) = export_specifiers.Named (map_export_named_specifier g n)

abbrev pub map_named_export : {X : Type 0} → (Ident → Ident) → (X → X) → NamedExport X → NamedExport X
map_named_export g f n = record n { specifiers = vec_mapped (map_export_specifier g) n.specifiers; with = map_option (map_link f) n.with }

abbrev pub map_default_decl : {X : Type 0} → (Ident → Ident) → (X → X) → DefaultDecl X → DefaultDecl X
map_default_decl g f (default_decls.Class n) = default_decls.Class (map_class_expr g f n)
map_default_decl g f (default_decls.Fn n) = default_decls.Fn (map_fn_expr g f n)
map_default_decl g f (default_decls.TsInterfaceDecl n) = default_decls.TsInterfaceDecl (map_ts_interface_decl g f n)

abbrev pub map_export_default_decl : {X : Type 0} → (Ident → Ident) → (X → X) → ExportDefaultDecl X → ExportDefaultDecl X
map_export_default_decl g f n = record n { decl = map_default_decl g f n.decl }

abbrev pub map_export_default_expr : {X : Type 0} → (Ident → Ident) → (X → X) → ExportDefaultExpr X → ExportDefaultExpr X
map_export_default_expr g f n = record n { expr = map_link f n.expr }

abbrev pub map_export_all : {X : Type 0} → (Ident → Ident) → (X → X) → ExportAll X → ExportAll X
map_export_all g f n = record n { with = map_option (map_link f) n.with }

abbrev pub map_module_decl : {X : Type 0} → (Ident → Ident) → (X → X) → ModuleDecl X → ModuleDecl X
map_module_decl g f (module_decls.Import n) = module_decls.Import (map_import_decl g f n)
map_module_decl g f (module_decls.ExportDecl n) = module_decls.ExportDecl (map_export_decl g f n)
map_module_decl g f (module_decls.ExportNamed n) = module_decls.ExportNamed (map_named_export g f n)
map_module_decl g f (module_decls.ExportDefaultDecl n) = module_decls.ExportDefaultDecl (map_export_default_decl g f n)
map_module_decl g f (module_decls.ExportDefaultExpr n) = module_decls.ExportDefaultExpr (map_export_default_expr g f n)
map_module_decl g f (module_decls.ExportAll n) = module_decls.ExportAll (map_export_all g f n)
map_module_decl g f (module_decls.TsImportEquals n) = module_decls.TsImportEquals (map_ts_import_equals_decl g f n)
map_module_decl g f (module_decls.TsExportAssignment n) = module_decls.TsExportAssignment (map_ts_export_assignment g f n)
map_module_decl g f (module_decls.TsNamespaceExport n) = module_decls.TsNamespaceExport (map_ts_namespace_export_decl g n)

abbrev pub map_module_item : {X : Type 0} → (Ident → Ident) → (X → X) → ModuleItem X → ModuleItem X
map_module_item g f (module_items.ModuleDecl n) = module_items.ModuleDecl (map_link f n)
map_module_item g f (module_items.Stmt n) = module_items.Stmt (map_stmt g f n)

abbrev pub map_ts_module_block : {X : Type 0} → (Ident → Ident) → (X → X) → TsModuleBlock X → TsModuleBlock X
map_ts_module_block g f n = record n { body = vec_mapped (map_module_item g f) n.body }

abbrev pub map_ts_namespace_decl : {X : Type 0} → (Ident → Ident) → (X → X) → TsNamespaceDecl X → TsNamespaceDecl X
map_ts_namespace_decl g f n = record n { id = g n.id; body = map_link f n.body }

abbrev pub map_ts_namespace_body : {X : Type 0} → (Ident → Ident) → (X → X) → TsNamespaceBody X → TsNamespaceBody X
map_ts_namespace_body g f (ts_namespace_bodys.TsModuleBlock n) = ts_namespace_bodys.TsModuleBlock (map_ts_module_block g f n)
map_ts_namespace_body g f (ts_namespace_bodys.TsNamespaceDecl n) = ts_namespace_bodys.TsNamespaceDecl (map_ts_namespace_decl g f n)

abbrev pub map_module : {X : Type 0} → (Ident → Ident) → (X → X) → Module X → Module X
map_module g f n = record n { body = vec_mapped (map_module_item g f) n.body }

abbrev pub map_script : {X : Type 0} → (Ident → Ident) → (X → X) → Script X → Script X
map_script g f n = record n { body = vec_mapped (map_stmt g f) n.body }

abbrev pub map_program : {X : Type 0} → (Ident → Ident) → (X → X) → Program X → Program X
map_program g f (programs.Module n) = programs.Module (map_module g f n)
map_program g f (programs.Script n) = programs.Script (map_script g f n)
