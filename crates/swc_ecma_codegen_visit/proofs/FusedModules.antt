-- One map of modules, scripts and namespaces behind another is one map. Made by scripts/dev/make-visit-files.
use Rattle.std.proofs.Common.{◌≡◌, refl, ap}
use Rattle.swc_ecma_codegen_tree.specs.declared.modules.DefaultDecl.{DefaultDecl}
use Rattle.swc_ecma_codegen_tree.specs.declared.modules.ExportAll.{ExportAll}
use Rattle.swc_ecma_codegen_tree.specs.declared.modules.ExportDefaultDecl.{ExportDefaultDecl}
use Rattle.swc_ecma_codegen_tree.specs.declared.modules.ExportNamedSpecifier.{ExportNamedSpecifier}
use Rattle.swc_ecma_codegen_tree.specs.declared.modules.ExportNamespaceSpecifier.{ExportNamespaceSpecifier}
use Rattle.swc_ecma_codegen_tree.specs.declared.modules.ExportSpecifier.{ExportSpecifier}
use Rattle.swc_ecma_codegen_tree.specs.declared.idents.Ident.{Ident}
use Rattle.swc_ecma_codegen_tree.specs.declared.modules.ImportDecl.{ImportDecl}
use Rattle.swc_ecma_codegen_tree.specs.declared.modules.ImportNamedSpecifier.{ImportNamedSpecifier}
use Rattle.swc_ecma_codegen_tree.specs.declared.modules.ImportSpecifier.{ImportSpecifier}
use Rattle.swc_ecma_codegen_tree.specs.declared.programs.Module.{Module}
use Rattle.swc_ecma_codegen_tree.specs.declared.programs.ModuleDecl.{ModuleDecl}
use Rattle.swc_ecma_codegen_tree.specs.declared.modules.ModuleExportName.{ModuleExportName}
use Rattle.swc_ecma_codegen_tree.specs.declared.programs.ModuleItem.{ModuleItem}
use Rattle.swc_ecma_codegen_tree.specs.declared.modules.NamedExport.{NamedExport}
use Rattle.swc_ecma_codegen_tree.specs.declared.programs.Program.{Program}
use Rattle.swc_ecma_codegen_tree.specs.declared.programs.Script.{Script}
use Rattle.swc_ecma_codegen_tree.specs.declared.ts_decls.TsModuleBlock.{TsModuleBlock}
use Rattle.swc_ecma_codegen_tree.specs.declared.ts_decls.TsNamespaceBody.{TsNamespaceBody}
use Rattle.swc_ecma_codegen_tree.specs.declared.modules.DefaultDecl.TheVariants as default_decls
use Rattle.swc_ecma_codegen_tree.specs.declared.modules.ExportSpecifier.TheVariants as export_specifiers
use Rattle.swc_ecma_codegen_tree.specs.declared.modules.ImportSpecifier.TheVariants as import_specifiers
use Rattle.swc_ecma_codegen_tree.specs.declared.programs.ModuleDecl.TheVariants as module_decls
use Rattle.swc_ecma_codegen_tree.specs.declared.modules.ModuleExportName.TheVariants as module_export_names
use Rattle.swc_ecma_codegen_tree.specs.declared.programs.ModuleItem.TheVariants as module_items
use Rattle.swc_ecma_codegen_tree.specs.declared.programs.Program.TheVariants as programs
use Rattle.swc_ecma_codegen_tree.specs.declared.ts_decls.TsNamespaceBody.TheVariants as ts_namespace_bodys
use Rattle.swc_ecma_codegen_visit.specs.Mapping.{map_link}
use Rattle.swc_ecma_codegen_visit.specs.MappedStmts.{map_stmt}
use Rattle.swc_ecma_codegen_visit.specs.MappedModules.{map_default_decl, map_export_all, map_export_default_decl}
use Rattle.swc_ecma_codegen_visit.specs.MappedModules.{map_export_named_specifier, map_export_namespace_specifier, map_export_specifier}
use Rattle.swc_ecma_codegen_visit.specs.MappedModules.{map_import_decl, map_import_named_specifier, map_import_specifier, map_module}
use Rattle.swc_ecma_codegen_visit.specs.MappedModules.{map_module_decl, map_module_export_name, map_module_item, map_named_export}
use Rattle.swc_ecma_codegen_visit.specs.MappedModules.{map_program, map_script, map_ts_module_block, map_ts_namespace_body}
use Rattle.swc_ecma_codegen_visit.proofs.Fused.{option_fused, vec_fused}
use Rattle.swc_ecma_codegen_visit.proofs.FusedExprs.{fused_class_expr, fused_fn_expr}
use Rattle.swc_ecma_codegen_visit.proofs.FusedTsDecls.{fused_ts_import_equals_decl, fused_ts_interface_decl}
use Rattle.swc_ecma_codegen_visit.proofs.FusedStmts.{fused_stmt}

pub fused_module_export_name : (g h : Ident → Ident) (n : ModuleExportName) → map_module_export_name g (map_module_export_name h n) ≡
    map_module_export_name (λ x. g (h x)) n
fused_module_export_name g h (module_export_names.Ident n) = refl
fused_module_export_name g h (module_export_names.Str n) = refl

pub fused_import_named_specifier : (g h : Ident → Ident) (n : ImportNamedSpecifier) → map_import_named_specifier g
    (map_import_named_specifier h n) ≡ map_import_named_specifier (λ x. g (h x)) n
fused_import_named_specifier g h n = λ i. record n {
  local = g (h n.local);
  imported = (option_fused (map_module_export_name g) (map_module_export_name h) (map_module_export_name (λ x. g (h x))) (fused_module_export_name g h)) n.imported i;
}

pub fused_import_specifier : (g h : Ident → Ident) (n : ImportSpecifier) → map_import_specifier g (map_import_specifier h n) ≡
    map_import_specifier (λ x. g (h x)) n
fused_import_specifier g h (import_specifiers.Named n) = ap import_specifiers.Named ((fused_import_named_specifier g h) n)
fused_import_specifier g h (import_specifiers.Default n) = refl
fused_import_specifier g h (import_specifiers.Namespace n) = refl

pub fused_import_decl : {X : Type 0} (g h : Ident → Ident) (f k : X → X) (n : ImportDecl X) → map_import_decl g f (map_import_decl h k n) ≡
    map_import_decl (λ x. g (h x)) (λ x. f (k x)) n
fused_import_decl g h f k n = λ i. record n {
  specifiers = (vec_fused (map_import_specifier g) (map_import_specifier h) (map_import_specifier (λ x. g (h x))) (fused_import_specifier g h)) n.specifiers i;
  with = (option_fused (map_link f) (map_link k) (map_link (λ x. f (k x))) (λ x. refl)) n.with i;
}

pub fused_export_namespace_specifier : (g h : Ident → Ident) (n : ExportNamespaceSpecifier) → map_export_namespace_specifier g
    (map_export_namespace_specifier h n) ≡ map_export_namespace_specifier (λ x. g (h x)) n
fused_export_namespace_specifier g h n = λ i. record n { name = (fused_module_export_name g h) n.name i }

pub fused_export_named_specifier : (g h : Ident → Ident) (n : ExportNamedSpecifier) → map_export_named_specifier g
    (map_export_named_specifier h n) ≡ map_export_named_specifier (λ x. g (h x)) n
fused_export_named_specifier g h n = λ i. record n {
  orig = (fused_module_export_name g h) n.orig i;
  exported = (option_fused (map_module_export_name g) (map_module_export_name h) (map_module_export_name (λ x. g (h x))) (fused_module_export_name g h)) n.exported i;
}

pub fused_export_specifier : (g h : Ident → Ident) (n : ExportSpecifier) → map_export_specifier g (map_export_specifier h n) ≡
    map_export_specifier (λ x. g (h x)) n
fused_export_specifier g h (export_specifiers.Namespace n) = ap export_specifiers.Namespace ((fused_export_namespace_specifier g h) n)
fused_export_specifier g h (export_specifiers.Default n) = refl
fused_export_specifier g h (export_specifiers.Named n) = ap export_specifiers.Named ((fused_export_named_specifier g h) n)

pub fused_named_export : {X : Type 0} (g h : Ident → Ident) (f k : X → X) (n : NamedExport X) → map_named_export g f (map_named_export h k
    n) ≡ map_named_export (λ x. g (h x)) (λ x. f (k x)) n
fused_named_export g h f k n = λ i. record n {
  specifiers = (vec_fused (map_export_specifier g) (map_export_specifier h) (map_export_specifier (λ x. g (h x))) (fused_export_specifier g h)) n.specifiers i;
  with = (option_fused (map_link f) (map_link k) (map_link (λ x. f (k x))) (λ x. refl)) n.with i;
}

pub fused_default_decl : {X : Type 0} (g h : Ident → Ident) (f k : X → X) (n : DefaultDecl X) → map_default_decl g f (map_default_decl h k
    n) ≡ map_default_decl (λ x. g (h x)) (λ x. f (k x)) n
fused_default_decl g h f k (default_decls.Class n) = ap default_decls.Class ((fused_class_expr g h f k) n)
fused_default_decl g h f k (default_decls.Fn n) = ap default_decls.Fn ((fused_fn_expr g h f k) n)
fused_default_decl g h f k (default_decls.TsInterfaceDecl n) = ap default_decls.TsInterfaceDecl ((fused_ts_interface_decl g h f k) n)

pub fused_export_default_decl : {X : Type 0} (g h : Ident → Ident) (f k : X → X) (n : ExportDefaultDecl X) → map_export_default_decl g f
    (map_export_default_decl h k n) ≡ map_export_default_decl (λ x. g (h x)) (λ x. f (k x)) n
fused_export_default_decl g h f k n = λ i. record n { decl = (fused_default_decl g h f k) n.decl i }

pub fused_export_all : {X : Type 0} (g h : Ident → Ident) (f k : X → X) (n : ExportAll X) → map_export_all g f (map_export_all h k n) ≡
    map_export_all (λ x. g (h x)) (λ x. f (k x)) n
fused_export_all g h f k n = λ i. record n {
  with = (option_fused (map_link f) (map_link k) (map_link (λ x. f (k x))) (λ x. refl)) n.with i;
}

pub fused_module_decl : {X : Type 0} (g h : Ident → Ident) (f k : X → X) (n : ModuleDecl X) → map_module_decl g f (map_module_decl h k n) ≡
    map_module_decl (λ x. g (h x)) (λ x. f (k x)) n
fused_module_decl g h f k (module_decls.Import n) = ap module_decls.Import ((fused_import_decl g h f k) n)
fused_module_decl g h f k (module_decls.ExportDecl n) = refl
fused_module_decl g h f k (module_decls.ExportNamed n) = ap module_decls.ExportNamed ((fused_named_export g h f k) n)
fused_module_decl g h f k (module_decls.ExportDefaultDecl n) = ap module_decls.ExportDefaultDecl ((fused_export_default_decl g h f k) n)
fused_module_decl g h f k (module_decls.ExportDefaultExpr n) = refl
fused_module_decl g h f k (module_decls.ExportAll n) = ap module_decls.ExportAll ((fused_export_all g h f k) n)
fused_module_decl g h f k (module_decls.TsImportEquals n) = ap module_decls.TsImportEquals ((fused_ts_import_equals_decl g h f k) n)
fused_module_decl g h f k (module_decls.TsExportAssignment n) = refl
fused_module_decl g h f k (module_decls.TsNamespaceExport n) = refl

pub fused_module_item : {X : Type 0} (g h : Ident → Ident) (f k : X → X) (n : ModuleItem X) → map_module_item g f (map_module_item h k n) ≡
    map_module_item (λ x. g (h x)) (λ x. f (k x)) n
fused_module_item g h f k (module_items.ModuleDecl n) = refl
fused_module_item g h f k (module_items.Stmt n) = ap module_items.Stmt ((fused_stmt g h f k) n)

pub fused_ts_module_block : {X : Type 0} (g h : Ident → Ident) (f k : X → X) (n : TsModuleBlock X) → map_ts_module_block g f
    (map_ts_module_block h k n) ≡ map_ts_module_block (λ x. g (h x)) (λ x. f (k x)) n
fused_ts_module_block g h f k n = λ i. record n {
  body = (vec_fused (map_module_item g f) (map_module_item h k) (map_module_item (λ x. g (h x)) (λ x. f (k x))) (fused_module_item g h f k)) n.body i;
}

pub fused_ts_namespace_body : {X : Type 0} (g h : Ident → Ident) (f k : X → X) (n : TsNamespaceBody X) → map_ts_namespace_body g f
    (map_ts_namespace_body h k n) ≡ map_ts_namespace_body (λ x. g (h x)) (λ x. f (k x)) n
fused_ts_namespace_body g h f k (ts_namespace_bodys.TsModuleBlock n) = ap ts_namespace_bodys.TsModuleBlock ((fused_ts_module_block g h f k)
    n)
fused_ts_namespace_body g h f k (ts_namespace_bodys.TsNamespaceDecl n) = refl

pub fused_module : {X : Type 0} (g h : Ident → Ident) (f k : X → X) (n : Module X) → map_module g f (map_module h k n) ≡ map_module (λ x. g
    (h x)) (λ x. f (k x)) n
fused_module g h f k n = λ i. record n {
  body = (vec_fused (map_module_item g f) (map_module_item h k) (map_module_item (λ x. g (h x)) (λ x. f (k x))) (fused_module_item g h f k)) n.body i;
}

pub fused_script : {X : Type 0} (g h : Ident → Ident) (f k : X → X) (n : Script X) → map_script g f (map_script h k n) ≡ map_script (λ x. g
    (h x)) (λ x. f (k x)) n
fused_script g h f k n = λ i. record n {
  body = (vec_fused (map_stmt g f) (map_stmt h k) (map_stmt (λ x. g (h x)) (λ x. f (k x))) (fused_stmt g h f k)) n.body i;
}

pub fused_program : {X : Type 0} (g h : Ident → Ident) (f k : X → X) (n : Program X) → map_program g f (map_program h k n) ≡ map_program (λ
    x. g (h x)) (λ x. f (k x)) n
fused_program g h f k (programs.Module n) = ap programs.Module ((fused_module g h f k) n)
fused_program g h f k (programs.Script n) = ap programs.Script ((fused_script g h f k) n)
