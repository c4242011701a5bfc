-- Where the map of modules, scripts and namespaces is another map of the same type, with names as they are. Made by scripts/dev/make-visit-files.
use Rattle.std.proofs.Common.{◌≡◌, refl, ap, ◌∙◌, Option}
use Rattle.std.specs.declared.alloc.Global.{Global}
use Rattle.std.specs.declared.vec.Vec.{Vec}
use Rattle.std.specs.formers.vec.Vec.{mapped as vec_mapped}
use Rattle.swc_ecma_codegen_tree.specs.declared.exprs.ClassExpr.{ClassExpr}
use Rattle.swc_ecma_codegen_tree.specs.declared.modules.DefaultDecl.{DefaultDecl}
use Rattle.swc_ecma_codegen_tree.specs.declared.modules.ExportAll.{ExportAll}
use Rattle.swc_ecma_codegen_tree.specs.declared.modules.ExportDecl.{ExportDecl}
use Rattle.swc_ecma_codegen_tree.specs.declared.modules.ExportDefaultDecl.{ExportDefaultDecl}
use Rattle.swc_ecma_codegen_tree.specs.declared.modules.ExportDefaultExpr.{ExportDefaultExpr}
use Rattle.swc_ecma_codegen_tree.specs.declared.modules.ExportNamedSpecifier.{ExportNamedSpecifier}
use Rattle.swc_ecma_codegen_tree.specs.declared.modules.ExportNamespaceSpecifier.{ExportNamespaceSpecifier}
use Rattle.swc_ecma_codegen_tree.specs.declared.modules.ExportSpecifier.{ExportSpecifier}
use Rattle.swc_ecma_codegen_tree.specs.declared.exprs.FnExpr.{FnExpr}
use Rattle.swc_ecma_codegen_tree.specs.declared.modules.ImportDecl.{ImportDecl}
use Rattle.swc_ecma_codegen_tree.specs.declared.modules.ImportNamedSpecifier.{ImportNamedSpecifier}
use Rattle.swc_ecma_codegen_tree.specs.declared.modules.ImportSpecifier.{ImportSpecifier}
use Rattle.swc_ecma_codegen_tree.specs.declared.programs.Module.{Module}
use Rattle.swc_ecma_codegen_tree.specs.declared.programs.ModuleDecl.{ModuleDecl}
use Rattle.swc_ecma_codegen_tree.specs.declared.modules.ModuleExportName.{ModuleExportName}
use Rattle.swc_ecma_codegen_tree.specs.declared.programs.ModuleItem.{ModuleItem}
use Rattle.swc_ecma_codegen_tree.specs.declared.modules.NamedExport.{NamedExport}
use Rattle.swc_ecma_codegen_tree.specs.declared.programs.Program.{Program}
use Rattle.swc_ecma_codegen_tree.specs.declared.programs.Script.{Script}
use Rattle.swc_ecma_codegen_tree.specs.declared.stmts.Stmt.{Stmt}
use Rattle.swc_ecma_codegen_tree.specs.declared.ts_decls.TsExportAssignment.{TsExportAssignment}
use Rattle.swc_ecma_codegen_tree.specs.declared.ts_decls.TsImportEqualsDecl.{TsImportEqualsDecl}
use Rattle.swc_ecma_codegen_tree.specs.declared.ts_decls.TsInterfaceDecl.{TsInterfaceDecl}
use Rattle.swc_ecma_codegen_tree.specs.declared.ts_decls.TsModuleBlock.{TsModuleBlock}
use Rattle.swc_ecma_codegen_tree.specs.declared.ts_decls.TsNamespaceBody.{TsNamespaceBody}
use Rattle.swc_ecma_codegen_tree.specs.declared.ts_decls.TsNamespaceDecl.{TsNamespaceDecl}
use Rattle.swc_ecma_codegen_tree.specs.declared.ts_decls.TsNamespaceExportDecl.{TsNamespaceExportDecl}
use Rattle.swc_ecma_codegen_tree.specs.declared.modules.DefaultDecl.TheVariants as default_decls
use Rattle.swc_ecma_codegen_tree.specs.declared.modules.ExportSpecifier.TheVariants as export_specifiers
use Rattle.swc_ecma_codegen_tree.specs.declared.modules.ImportSpecifier.TheVariants as import_specifiers
use Rattle.swc_ecma_codegen_tree.specs.declared.programs.ModuleDecl.TheVariants as module_decls
use Rattle.swc_ecma_codegen_tree.specs.declared.modules.ModuleExportName.TheVariants as module_export_names
use Rattle.swc_ecma_codegen_tree.specs.declared.programs.ModuleItem.TheVariants as module_items
use Rattle.swc_ecma_codegen_tree.specs.declared.programs.Program.TheVariants as programs
use Rattle.swc_ecma_codegen_tree.specs.declared.ts_decls.TsNamespaceBody.TheVariants as ts_namespace_bodys
use Rattle.swc_ecma_codegen_tree.specs.Links.{ModuleDeclBox, ObjectLitBox}
use Rattle.swc_ecma_codegen_visit.specs.Mapping.{map_link, map_option}
use Rattle.swc_ecma_codegen_visit.specs.MappedExprs.{map_class_expr, map_fn_expr}
use Rattle.swc_ecma_codegen_visit.specs.MappedTsDecls.{map_ts_export_assignment, map_ts_import_equals_decl, map_ts_interface_decl}
use Rattle.swc_ecma_codegen_visit.specs.MappedStmts.{map_stmt}
use Rattle.swc_ecma_codegen_visit.specs.MappedModules.{map_default_decl, map_export_all, map_export_decl, map_export_default_decl}
use Rattle.swc_ecma_codegen_visit.specs.MappedModules.{map_export_default_expr, map_export_named_specifier, map_export_namespace_specifier}
use Rattle.swc_ecma_codegen_visit.specs.MappedModules.{map_export_specifier, map_import_decl, map_import_named_specifier}
use Rattle.swc_ecma_codegen_visit.specs.MappedModules.{map_import_specifier, map_module, map_module_decl, map_module_export_name}
use Rattle.swc_ecma_codegen_visit.specs.MappedModules.{map_module_item, map_named_export, map_program, map_script, map_ts_module_block}
use Rattle.swc_ecma_codegen_visit.specs.MappedModules.{map_ts_namespace_body, map_ts_namespace_decl}
use Rattle.swc_ecma_codegen_visit.proofs.Rules.{option_kept}

pub kept_module_export_name : (n : ModuleExportName) → map_module_export_name (λ x. x) n ≡ n
kept_module_export_name (module_export_names.Ident n) = refl
kept_module_export_name (module_export_names.Str n) = refl

pub kept_import_named_specifier : (n : ImportNamedSpecifier) → map_import_named_specifier (λ x. x) n ≡ n
kept_import_named_specifier n = λ i. record n { imported = (option_kept kept_module_export_name) n.imported i }

pub kept_import_specifier : (n : ImportSpecifier) → map_import_specifier (λ x. x) n ≡ n
kept_import_specifier (import_specifiers.Named n) = ap import_specifiers.Named (kept_import_named_specifier n)
kept_import_specifier (import_specifiers.Default n) = refl
kept_import_specifier (import_specifiers.Namespace n) = refl

pub in_import_decl : {X : Type 0} (f : X → X) (D : ImportDecl X → ImportDecl X)
    {to_a : Vec ImportSpecifier Global → Vec ImportSpecifier Global} {to_b : Option (ObjectLitBox X) → Option (ObjectLitBox X)} → ((n :
    ImportDecl X) (a : Vec ImportSpecifier Global) (b : Option (ObjectLitBox X)) → record n { specifiers = to_a a; with = to_b b } ≡ D
    (record n { specifiers = a; with = b })) → ((x : Vec ImportSpecifier Global) → vec_mapped (map_import_specifier (λ x. x)) x ≡ to_a x) →
    ((x : Option (ObjectLitBox X)) → map_option (map_link f) x ≡ to_b x) → (n : ImportDecl X) → map_import_decl (λ x. x) f n ≡ D n
in_import_decl f D is at_a at_b n = (λ i. record n { specifiers = at_a n.specifiers i; with = at_b n.with i }) ∙ is n n.specifiers n.with

pub kept_export_namespace_specifier : (n : ExportNamespaceSpecifier) → map_export_namespace_specifier (λ x. x) n ≡ n
kept_export_namespace_specifier n = λ i. record n { name = kept_module_export_name n.name i }

pub kept_export_named_specifier : (n : ExportNamedSpecifier) → map_export_named_specifier (λ x. x) n ≡ n
kept_export_named_specifier n = λ i. record n {
  orig = kept_module_export_name n.orig i;
  exported = (option_kept kept_module_export_name) n.exported i;
}

pub kept_export_specifier : (n : ExportSpecifier) → map_export_specifier (λ x. x) n ≡ n
kept_export_specifier (export_specifiers.Namespace n) = ap export_specifiers.Namespace (kept_export_namespace_specifier n)
kept_export_specifier (export_specifiers.Default n) = refl
kept_export_specifier (export_specifiers.Named n) = ap export_specifiers.Named (kept_export_named_specifier n)

pub in_named_export : {X : Type 0} (f : X → X) (D : NamedExport X → NamedExport X)
    {to_a : Vec ExportSpecifier Global → Vec ExportSpecifier Global} {to_b : Option (ObjectLitBox X) → Option (ObjectLitBox X)} → ((n :
    NamedExport X) (a : Vec ExportSpecifier Global) (b : Option (ObjectLitBox X)) → record n { specifiers = to_a a; with = to_b b } ≡ D
    (record n { specifiers = a; with = b })) → ((x : Vec ExportSpecifier Global) → vec_mapped (map_export_specifier (λ x. x)) x ≡ to_a x) →
    ((x : Option (ObjectLitBox X)) → map_option (map_link f) x ≡ to_b x) → (n : NamedExport X) → map_named_export (λ x. x) f n ≡ D n
in_named_export f D is at_a at_b n = (λ i. record n { specifiers = at_a n.specifiers i; with = at_b n.with i }) ∙ is n n.specifiers n.with

pub in_default_decl : {X : Type 0} (f : X → X) (D : DefaultDecl X → DefaultDecl X) {to_Class : ClassExpr X → ClassExpr X}
    {to_Fn : FnExpr X → FnExpr X} {to_TsInterfaceDecl : TsInterfaceDecl X → TsInterfaceDecl X} → ((n : ClassExpr X) → default_decls.Class
    (to_Class n) ≡ D (default_decls.Class n)) → ((n : ClassExpr X) → map_class_expr (λ x. x) f n ≡ to_Class n) → ((n : FnExpr X) →
    default_decls.Fn (to_Fn n) ≡ D (default_decls.Fn n)) → ((n : FnExpr X) → map_fn_expr (λ x. x) f n ≡ to_Fn n) → ((n : TsInterfaceDecl X)
    → default_decls.TsInterfaceDecl (to_TsInterfaceDecl n) ≡ D (default_decls.TsInterfaceDecl n)) → ((n : TsInterfaceDecl X) →
    map_ts_interface_decl (λ x. x) f n ≡ to_TsInterfaceDecl n) → (n : DefaultDecl X) → map_default_decl (λ x. x) f n ≡ D n
in_default_decl f D is_Class at_Class is_Fn at_Fn is_TsInterfaceDecl at_TsInterfaceDecl (default_decls.Class n) = ap default_decls.Class
    (at_Class n) ∙ is_Class n
in_default_decl f D is_Class at_Class is_Fn at_Fn is_TsInterfaceDecl at_TsInterfaceDecl (default_decls.Fn n) = ap default_decls.Fn (at_Fn n)
    ∙ is_Fn n
in_default_decl f D is_Class at_Class is_Fn at_Fn is_TsInterfaceDecl at_TsInterfaceDecl (default_decls.TsInterfaceDecl n) = ap
    default_decls.TsInterfaceDecl (at_TsInterfaceDecl n) ∙ is_TsInterfaceDecl n

pub in_export_default_decl : {X : Type 0} (f : X → X) (D : ExportDefaultDecl X → ExportDefaultDecl X) {to_a : DefaultDecl X → DefaultDecl X}
    → ((n : ExportDefaultDecl X) (a : DefaultDecl X) → record n { decl = to_a a } ≡ D (record n { decl = a })) → ((x : DefaultDecl X) →
    map_default_decl (λ x. x) f x ≡ to_a x) → (n : ExportDefaultDecl X) → map_export_default_decl (λ x. x) f n ≡ D n
in_export_default_decl f D is at_a n = (λ i. record n { decl = at_a n.decl i }) ∙ is n n.decl

pub in_export_all : {X : Type 0} (f : X → X) (D : ExportAll X → ExportAll X) {to_a : Option (ObjectLitBox X) → Option (ObjectLitBox X)} →
    ((n : ExportAll X) (a : Option (ObjectLitBox X)) → record n { with = to_a a } ≡ D (record n { with = a })) → ((x : Option (ObjectLitBox
    X)) → map_option (map_link f) x ≡ to_a x) → (n : ExportAll X) → map_export_all (λ x. x) f n ≡ D n
in_export_all f D is at_a n = (λ i. record n { with = at_a n.with i }) ∙ is n n.with

pub in_module_decl : {X : Type 0} (f : X → X) (D : ModuleDecl X → ModuleDecl X) {to_Import : ImportDecl X → ImportDecl X}
    {to_ExportNamed : NamedExport X → NamedExport X} {to_ExportDefaultDecl : ExportDefaultDecl X → ExportDefaultDecl X}
    {to_ExportAll : ExportAll X → ExportAll X} {to_TsImportEquals : TsImportEqualsDecl X → TsImportEqualsDecl X} → ((n : ImportDecl X) →
    module_decls.Import (to_Import n) ≡ D (module_decls.Import n)) → ((n : ImportDecl X) → map_import_decl (λ x. x) f n ≡ to_Import n) → ((n
    : ExportDecl X) → module_decls.ExportDecl (map_export_decl (λ x. x) f n) ≡ D (module_decls.ExportDecl n)) → ((n : NamedExport X) →
    module_decls.ExportNamed (to_ExportNamed n) ≡ D (module_decls.ExportNamed n)) → ((n : NamedExport X) → map_named_export (λ x. x) f n ≡
    to_ExportNamed n) → ((n : ExportDefaultDecl X) → module_decls.ExportDefaultDecl (to_ExportDefaultDecl n) ≡ D
    (module_decls.ExportDefaultDecl n)) → ((n : ExportDefaultDecl X) → map_export_default_decl (λ x. x) f n ≡ to_ExportDefaultDecl n) → ((n
    : ExportDefaultExpr X) → module_decls.ExportDefaultExpr (map_export_default_expr (λ x. x) f n) ≡ D (module_decls.ExportDefaultExpr n)) →
    ((n : ExportAll X) → module_decls.ExportAll (to_ExportAll n) ≡ D (module_decls.ExportAll n)) → ((n : ExportAll X) → map_export_all (λ x.
    x) f n ≡ to_ExportAll n) → ((n : TsImportEqualsDecl X) → module_decls.TsImportEquals (to_TsImportEquals n) ≡ D
    (module_decls.TsImportEquals n)) → ((n : TsImportEqualsDecl X) → map_ts_import_equals_decl (λ x. x) f n ≡ to_TsImportEquals n) → ((n :
    TsExportAssignment X) → module_decls.TsExportAssignment (map_ts_export_assignment (λ x. x) f n) ≡ D (module_decls.TsExportAssignment n))
    → ((n : TsNamespaceExportDecl) → module_decls.TsNamespaceExport n ≡ D (module_decls.TsNamespaceExport n)) → (n : ModuleDecl X) →
    map_module_decl (λ x. x) f n ≡ D n
in_module_decl f D is_Import at_Import is_ExportDecl is_ExportNamed at_ExportNamed is_ExportDefaultDecl at_ExportDefaultDecl
    is_ExportDefaultExpr is_ExportAll at_ExportAll is_TsImportEquals at_TsImportEquals is_TsExportAssignment is_TsNamespaceExport
    (module_decls.Import n) = ap module_decls.Import (at_Import n) ∙ is_Import n
in_module_decl f D is_Import at_Import is_ExportDecl is_ExportNamed at_ExportNamed is_ExportDefaultDecl at_ExportDefaultDecl
    is_ExportDefaultExpr is_ExportAll at_ExportAll is_TsImportEquals at_TsImportEquals is_TsExportAssignment is_TsNamespaceExport
    (module_decls.ExportDecl n) = is_ExportDecl n
in_module_decl f D is_Import at_Import is_ExportDecl is_ExportNamed at_ExportNamed is_ExportDefaultDecl at_ExportDefaultDecl
    is_ExportDefaultExpr is_ExportAll at_ExportAll is_TsImportEquals at_TsImportEquals is_TsExportAssignment is_TsNamespaceExport
    (module_decls.ExportNamed n) = ap module_decls.ExportNamed (at_ExportNamed n) ∙ is_ExportNamed n
in_module_decl f D is_Import at_Import is_ExportDecl is_ExportNamed at_ExportNamed is_ExportDefaultDecl at_ExportDefaultDecl
    is_ExportDefaultExpr is_ExportAll at_ExportAll is_TsImportEquals at_TsImportEquals is_TsExportAssignment is_TsNamespaceExport
    (module_decls.ExportDefaultDecl n) = ap module_decls.ExportDefaultDecl (at_ExportDefaultDecl n) ∙ is_ExportDefaultDecl n
in_module_decl f D is_Import at_Import is_ExportDecl is_ExportNamed at_ExportNamed is_ExportDefaultDecl at_ExportDefaultDecl
    is_ExportDefaultExpr is_ExportAll at_ExportAll is_TsImportEquals at_TsImportEquals is_TsExportAssignment is_TsNamespaceExport
    (module_decls.ExportDefaultExpr n) = is_ExportDefaultExpr n
in_module_decl f D is_Import at_Import is_ExportDecl is_ExportNamed at_ExportNamed is_ExportDefaultDecl at_ExportDefaultDecl
    is_ExportDefaultExpr is_ExportAll at_ExportAll is_TsImportEquals at_TsImportEquals is_TsExportAssignment is_TsNamespaceExport
    (module_decls.ExportAll n) = ap module_decls.ExportAll (at_ExportAll n) ∙ is_ExportAll n
in_module_decl f D is_Import at_Import is_ExportDecl is_ExportNamed at_ExportNamed is_ExportDefaultDecl at_ExportDefaultDecl
    is_ExportDefaultExpr is_ExportAll at_ExportAll is_TsImportEquals at_TsImportEquals is_TsExportAssignment is_TsNamespaceExport
    (module_decls.TsImportEquals n) = ap module_decls.TsImportEquals (at_TsImportEquals n) ∙ is_TsImportEquals n
in_module_decl f D is_Import at_Import is_ExportDecl is_ExportNamed at_ExportNamed is_ExportDefaultDecl at_ExportDefaultDecl
    is_ExportDefaultExpr is_ExportAll at_ExportAll is_TsImportEquals at_TsImportEquals is_TsExportAssignment is_TsNamespaceExport
    (module_decls.TsExportAssignment n) = is_TsExportAssignment n
in_module_decl f D is_Import at_Import is_ExportDecl is_ExportNamed at_ExportNamed is_ExportDefaultDecl at_ExportDefaultDecl
    is_ExportDefaultExpr is_ExportAll at_ExportAll is_TsImportEquals at_TsImportEquals is_TsExportAssignment is_TsNamespaceExport
    (module_decls.TsNamespaceExport n) = is_TsNamespaceExport n

pub in_module_item : {X : Type 0} (f : X → X) (D : ModuleItem X → ModuleItem X) {to_Stmt : Stmt X → Stmt X} → ((n : ModuleDeclBox X) →
    module_items.ModuleDecl (map_link f n) ≡ D (module_items.ModuleDecl n)) → ((n : Stmt X) → module_items.Stmt (to_Stmt n) ≡ D
    (module_items.Stmt n)) → ((n : Stmt X) → map_stmt (λ x. x) f n ≡ to_Stmt n) → (n : ModuleItem X) → map_module_item (λ x. x) f n ≡ D n
in_module_item f D is_ModuleDecl is_Stmt at_Stmt (module_items.ModuleDecl n) = is_ModuleDecl n
in_module_item f D is_ModuleDecl is_Stmt at_Stmt (module_items.Stmt n) = ap module_items.Stmt (at_Stmt n) ∙ is_Stmt n

pub in_ts_module_block : {X : Type 0} (f : X → X) (D : TsModuleBlock X → TsModuleBlock X)
    {to_a : Vec (ModuleItem X) Global → Vec (ModuleItem X) Global} → ((n : TsModuleBlock X) (a : Vec (ModuleItem X) Global) → record n
    { body = to_a a } ≡ D (record n { body = a })) → ((x : Vec (ModuleItem X) Global) → vec_mapped (map_module_item (λ x. x) f) x ≡ to_a x)
    → (n : TsModuleBlock X) → map_ts_module_block (λ x. x) f n ≡ D n
in_ts_module_block f D is at_a n = (λ i. record n { body = at_a n.body i }) ∙ is n n.body

pub in_ts_namespace_body : {X : Type 0} (f : X → X) (D : TsNamespaceBody X → TsNamespaceBody X)
    {to_TsModuleBlock : TsModuleBlock X → TsModuleBlock X} → ((n : TsModuleBlock X) → ts_namespace_bodys.TsModuleBlock (to_TsModuleBlock n)
    ≡ D (ts_namespace_bodys.TsModuleBlock n)) → ((n : TsModuleBlock X) → map_ts_module_block (λ x. x) f n ≡ to_TsModuleBlock n) → ((n :
    TsNamespaceDecl X) → ts_namespace_bodys.TsNamespaceDecl (map_ts_namespace_decl (λ x. x) f n) ≡ D (ts_namespace_bodys.TsNamespaceDecl n))
    → (n : TsNamespaceBody X) → map_ts_namespace_body (λ x. x) f n ≡ D n
in_ts_namespace_body f D is_TsModuleBlock at_TsModuleBlock is_TsNamespaceDecl (ts_namespace_bodys.TsModuleBlock n) = ap
    ts_namespace_bodys.TsModuleBlock (at_TsModuleBlock n) ∙ is_TsModuleBlock n
in_ts_namespace_body f D is_TsModuleBlock at_TsModuleBlock is_TsNamespaceDecl (ts_namespace_bodys.TsNamespaceDecl n) = is_TsNamespaceDecl n

pub in_module : {X : Type 0} (f : X → X) (D : Module X → Module X) {to_a : Vec (ModuleItem X) Global → Vec (ModuleItem X) Global} → ((n :
    Module X) (a : Vec (ModuleItem X) Global) → record n { body = to_a a } ≡ D (record n { body = a })) → ((x : Vec (ModuleItem X) Global) →
    vec_mapped (map_module_item (λ x. x) f) x ≡ to_a x) → (n : Module X) → map_module (λ x. x) f n ≡ D n
in_module f D is at_a n = (λ i. record n { body = at_a n.body i }) ∙ is n n.body

pub in_script : {X : Type 0} (f : X → X) (D : Script X → Script X) {to_a : Vec (Stmt X) Global → Vec (Stmt X) Global} → ((n : Script X) (a :
    Vec (Stmt X) Global) → record n { body = to_a a } ≡ D (record n { body = a })) → ((x : Vec (Stmt X) Global) → vec_mapped (map_stmt (λ x.
    x) f) x ≡ to_a x) → (n : Script X) → map_script (λ x. x) f n ≡ D n
in_script f D is at_a n = (λ i. record n { body = at_a n.body i }) ∙ is n n.body

pub in_program : {X : Type 0} (f : X → X) (D : Program X → Program X) {to_Module : Module X → Module X} {to_Script : Script X → Script X} →
    ((n : Module X) → programs.Module (to_Module n) ≡ D (programs.Module n)) → ((n : Module X) → map_module (λ x. x) f n ≡ to_Module n) →
    ((n : Script X) → programs.Script (to_Script n) ≡ D (programs.Script n)) → ((n : Script X) → map_script (λ x. x) f n ≡ to_Script n) → (n
    : Program X) → map_program (λ x. x) f n ≡ D n
in_program f D is_Module at_Module is_Script at_Script (programs.Module n) = ap programs.Module (at_Module n) ∙ is_Module n
in_program f D is_Module at_Module is_Script at_Script (programs.Script n) = ap programs.Script (at_Script n) ∙ is_Script n
