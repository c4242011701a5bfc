-- Maps of declarations of TypeScript: of each type, over names and what links hold as something else. Made by scripts/dev/make-visit-files.
use Rattle.std.specs.formers.vec.Vec.{mapped as vec_mapped}
use Rattle.swc_ecma_codegen_tree.specs.declared.idents.Ident.{Ident}
use Rattle.swc_ecma_codegen_tree.specs.declared.ts_decls.TsEnumDecl.{TsEnumDecl}
use Rattle.swc_ecma_codegen_tree.specs.declared.ts_decls.TsEnumMember.{TsEnumMember}
use Rattle.swc_ecma_codegen_tree.specs.declared.ts_decls.TsEnumMemberId.{TsEnumMemberId}
use Rattle.swc_ecma_codegen_tree.specs.declared.ts_decls.TsExportAssignment.{TsExportAssignment}
use Rattle.swc_ecma_codegen_tree.specs.declared.ts_decls.TsExprWithTypeArgs.{TsExprWithTypeArgs}
use Rattle.swc_ecma_codegen_tree.specs.declared.ts_decls.TsImportEqualsDecl.{TsImportEqualsDecl}
use Rattle.swc_ecma_codegen_tree.specs.declared.ts_decls.TsInterfaceDecl.{TsInterfaceDecl}
use Rattle.swc_ecma_codegen_tree.specs.declared.ts_decls.TsModuleDecl.{TsModuleDecl}
use Rattle.swc_ecma_codegen_tree.specs.declared.ts_decls.TsModuleName.{TsModuleName}
use Rattle.swc_ecma_codegen_tree.specs.declared.ts_decls.TsModuleRef.{TsModuleRef}
use Rattle.swc_ecma_codegen_tree.specs.declared.ts_decls.TsNamespaceExportDecl.{TsNamespaceExportDecl}
use Rattle.swc_ecma_codegen_tree.specs.declared.ts_decls.TsTypeAliasDecl.{TsTypeAliasDecl}
use Rattle.swc_ecma_codegen_tree.specs.declared.ts_decls.TsEnumMemberId.TheVariants as ts_enum_member_ids
use Rattle.swc_ecma_codegen_tree.specs.declared.ts_decls.TsModuleName.TheVariants as ts_module_names
use Rattle.swc_ecma_codegen_tree.specs.declared.ts_decls.TsModuleRef.TheVariants as ts_module_refs
use Rattle.swc_ecma_codegen_visit.specs.Mapping.{map_link, map_option}

abbrev pub map_ts_expr_with_type_args : {X : Type 0} → (Ident → Ident) → (X → X) → TsExprWithTypeArgs X → TsExprWithTypeArgs X
map_ts_expr_with_type_args g f n = record n { expr = map_link f n.expr; type_args = map_option (map_link f) n.type_args }

abbrev pub map_ts_interface_decl : {X : Type 0} → (Ident → Ident) → (X → X) → TsInterfaceDecl X → TsInterfaceDecl X
map_ts_interface_decl g f n = record n {
  id = g n.id;
  type_params = map_option (map_link f) n.type_params;
  extends = vec_mapped (map_ts_expr_with_type_args g f) n.extends;
  body = map_link f n.body;
}

abbrev pub map_ts_type_alias_decl : {X : Type 0} → (Ident → Ident) → (X → X) → TsTypeAliasDecl X → TsTypeAliasDecl X
map_ts_type_alias_decl g f n = record n {
  id = g n.id;
  type_params = map_option (map_link f) n.type_params;
  type_ann = map_link f n.type_ann;
}

abbrev pub map_ts_enum_member_id : (Ident → Ident) → TsEnumMemberId → TsEnumMemberId
map_ts_enum_member_id g (ts_enum_member_ids.Ident n) = ts_enum_member_ids.Ident (g n)
map_ts_enum_member_id g (ts_enum_member_ids.Str n) = ts_enum_member_ids.Str n

abbrev pub map_ts_enum_member : {X : Type 0} → (Ident → Ident) → (X → X) → TsEnumMember X → TsEnumMember X
map_ts_enum_member g f n = record n { id = map_ts_enum_member_id g n.id; init = map_option (map_link f) n.init }

abbrev pub map_ts_enum_decl : {X : Type 0} → (Ident → Ident) → (X → X) → TsEnumDecl X → TsEnumDecl X
map_ts_enum_decl g f n = record n { id = g n.id; members = vec_mapped (map_ts_enum_member g f) n.members }

abbrev pub map_ts_module_name : (Ident → Ident) → TsModuleName → TsModuleName
map_ts_module_name g (ts_module_names.Ident n) = ts_module_names.Ident (g n)
map_ts_module_name g (ts_module_names.Str n) = ts_module_names.Str n

abbrev pub map_ts_module_decl : {X : Type 0} → (Ident → Ident) → (X → X) → TsModuleDecl X → TsModuleDecl X
map_ts_module_decl g f n = record n { id = map_ts_module_name g n.id; body = map_option (map_link f) n.body }

abbrev pub map_ts_module_ref : {X : Type 0} → (Ident → Ident) → (X → X) → TsModuleRef X → TsModuleRef X
map_ts_module_ref g f (ts_module_refs.TsEntityName n) = ts_module_refs.TsEntityName (map_link f n)
map_ts_module_ref g f (ts_module_refs.TsExternalModuleRef n) = ts_module_refs.TsExternalModuleRef n

abbrev pub map_ts_import_equals_decl : {X : Type 0} → (Ident → Ident) → (X → X) → TsImportEqualsDecl X → TsImportEqualsDecl X
map_ts_import_equals_decl g f n = record n { id = g n.id; module_ref = map_ts_module_ref g f n.module_ref }

abbrev pub map_ts_export_assignment : {X : Type 0} → (Ident → Ident) → (X → X) → TsExportAssignment X → TsExportAssignment X
map_ts_export_assignment g f n = record n { expr = map_link f n.expr }

abbrev pub map_ts_namespace_export_decl : (Ident → Ident) → TsNamespaceExportDecl → TsNamespaceExportDecl
map_ts_namespace_export_decl g n = record n { id = g n.id }
