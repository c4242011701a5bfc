-- One map of declarations of TypeScript behind another is one map. Made by scripts/dev/make-visit-files.
use Rattle.std.proofs.Common.{◌≡◌, refl}
use Rattle.swc_ecma_codegen_tree.specs.declared.idents.Ident.{Ident}
use Rattle.swc_ecma_codegen_tree.specs.declared.ts_decls.TsEnumDecl.{TsEnumDecl}
use Rattle.swc_ecma_codegen_tree.specs.declared.ts_decls.TsEnumMember.{TsEnumMember}
use Rattle.swc_ecma_codegen_tree.specs.declared.ts_decls.TsEnumMemberId.{TsEnumMemberId}
use Rattle.swc_ecma_codegen_tree.specs.declared.ts_decls.TsExprWithTypeArgs.{TsExprWithTypeArgs}
use Rattle.swc_ecma_codegen_tree.specs.declared.ts_decls.TsImportEqualsDecl.{TsImportEqualsDecl}
use Rattle.swc_ecma_codegen_tree.specs.declared.ts_decls.TsInterfaceDecl.{TsInterfaceDecl}
use Rattle.swc_ecma_codegen_tree.specs.declared.ts_decls.TsModuleDecl.{TsModuleDecl}
use Rattle.swc_ecma_codegen_tree.specs.declared.ts_decls.TsModuleName.{TsModuleName}
use Rattle.swc_ecma_codegen_tree.specs.declared.ts_decls.TsModuleRef.{TsModuleRef}
use Rattle.swc_ecma_codegen_tree.specs.declared.ts_decls.TsTypeAliasDecl.{TsTypeAliasDecl}
use Rattle.swc_ecma_codegen_tree.specs.declared.ts_decls.TsEnumMemberId.TheVariants as ts_enum_member_ids
use Rattle.swc_ecma_codegen_tree.specs.declared.ts_decls.TsModuleName.TheVariants as ts_module_names
use Rattle.swc_ecma_codegen_tree.specs.declared.ts_decls.TsModuleRef.TheVariants as ts_module_refs
use Rattle.swc_ecma_codegen_visit.specs.Mapping.{map_link}
use Rattle.swc_ecma_codegen_visit.specs.MappedTsDecls.{map_ts_enum_decl, map_ts_enum_member, map_ts_enum_member_id}
use Rattle.swc_ecma_codegen_visit.specs.MappedTsDecls.{map_ts_expr_with_type_args, map_ts_import_equals_decl, map_ts_interface_decl}
use Rattle.swc_ecma_codegen_visit.specs.MappedTsDecls.{map_ts_module_decl, map_ts_module_name, map_ts_module_ref, map_ts_type_alias_decl}
use Rattle.swc_ecma_codegen_visit.proofs.Fused.{option_fused, vec_fused}

pub fused_ts_expr_with_type_args : {X : Type 0} (g h : Ident → Ident) (f k : X → X) (n : TsExprWithTypeArgs X) → map_ts_expr_with_type_args
    g f (map_ts_expr_with_type_args h k n) ≡ map_ts_expr_with_type_args (λ x. g (h x)) (λ x. f (k x)) n
fused_ts_expr_with_type_args g h f k n = λ i. record n {
  expr = map_link (λ x. f (k x)) n.expr;
  type_args = (option_fused (map_link f) (map_link k) (map_link (λ x. f (k x))) (λ x. refl)) n.type_args i;
}

pub fused_ts_interface_decl : {X : Type 0} (g h : Ident → Ident) (f k : X → X) (n : TsInterfaceDecl X) → map_ts_interface_decl g f
    (map_ts_interface_decl h k n) ≡ map_ts_interface_decl (λ x. g (h x)) (λ x. f (k x)) n
fused_ts_interface_decl g h f k n = λ i. record n {
  id = g (h n.id);
  type_params = (option_fused (map_link f) (map_link k) (map_link (λ x. f (k x))) (λ x. refl)) n.type_params i;
  extends = (vec_fused (map_ts_expr_with_type_args g f) (map_ts_expr_with_type_args h k) (map_ts_expr_with_type_args (λ x. g (h x)) (λ x. f (k x))) (fused_ts_expr_with_type_args g h f k)) n.extends i;
  body = map_link (λ x. f (k x)) n.body;
}

pub fused_ts_type_alias_decl : {X : Type 0} (g h : Ident → Ident) (f k : X → X) (n : TsTypeAliasDecl X) → map_ts_type_alias_decl g f
    (map_ts_type_alias_decl h k n) ≡ map_ts_type_alias_decl (λ x. g (h x)) (λ x. f (k x)) n
fused_ts_type_alias_decl g h f k n = λ i. record n {
  id = g (h n.id);
  type_params = (option_fused (map_link f) (map_link k) (map_link (λ x. f (k x))) (λ x. refl)) n.type_params i;
  type_ann = map_link (λ x. f (k x)) n.type_ann;
}

pub fused_ts_enum_member_id : (g h : Ident → Ident) (n : TsEnumMemberId) → map_ts_enum_member_id g (map_ts_enum_member_id h n) ≡
    map_ts_enum_member_id (λ x. g (h x)) n
fused_ts_enum_member_id g h (ts_enum_member_ids.Ident n) = refl
fused_ts_enum_member_id g h (ts_enum_member_ids.Str n) = refl

pub fused_ts_enum_member : {X : Type 0} (g h : Ident → Ident) (f k : X → X) (n : TsEnumMember X) → map_ts_enum_member g f
    (map_ts_enum_member h k n) ≡ map_ts_enum_member (λ x. g (h x)) (λ x. f (k x)) n
fused_ts_enum_member g h f k n = λ i. record n {
  id = (fused_ts_enum_member_id g h) n.id i;
  init = (option_fused (map_link f) (map_link k) (map_link (λ x. f (k x))) (λ x. refl)) n.init i;
}

pub fused_ts_enum_decl : {X : Type 0} (g h : Ident → Ident) (f k : X → X) (n : TsEnumDecl X) → map_ts_enum_decl g f (map_ts_enum_decl h k n)
    ≡ map_ts_enum_decl (λ x. g (h x)) (λ x. f (k x)) n
fused_ts_enum_decl g h f k n = λ i. record n {
  id = g (h n.id);
  members = (vec_fused (map_ts_enum_member g f) (map_ts_enum_member h k) (map_ts_enum_member (λ x. g (h x)) (λ x. f (k x))) (fused_ts_enum_member g h f k)) n.members i;
}

pub fused_ts_module_name : (g h : Ident → Ident) (n : TsModuleName) → map_ts_module_name g (map_ts_module_name h n) ≡ map_ts_module_name (λ
    x. g (h x)) n
fused_ts_module_name g h (ts_module_names.Ident n) = refl
fused_ts_module_name g h (ts_module_names.Str n) = refl

pub fused_ts_module_decl : {X : Type 0} (g h : Ident → Ident) (f k : X → X) (n : TsModuleDecl X) → map_ts_module_decl g f
    (map_ts_module_decl h k n) ≡ map_ts_module_decl (λ x. g (h x)) (λ x. f (k x)) n
fused_ts_module_decl g h f k n = λ i. record n {
  id = (fused_ts_module_name g h) n.id i;
  body = (option_fused (map_link f) (map_link k) (map_link (λ x. f (k x))) (λ x. refl)) n.body i;
}

pub fused_ts_module_ref : {X : Type 0} (g h : Ident → Ident) (f k : X → X) (n : TsModuleRef X) → map_ts_module_ref g f (map_ts_module_ref h
    k n) ≡ map_ts_module_ref (λ x. g (h x)) (λ x. f (k x)) n
fused_ts_module_ref g h f k (ts_module_refs.TsEntityName n) = refl
fused_ts_module_ref g h f k (ts_module_refs.TsExternalModuleRef n) = refl

pub fused_ts_import_equals_decl : {X : Type 0} (g h : Ident → Ident) (f k : X → X) (n : TsImportEqualsDecl X) → map_ts_import_equals_decl g
    f (map_ts_import_equals_decl h k n) ≡ map_ts_import_equals_decl (λ x. g (h x)) (λ x. f (k x)) n
fused_ts_import_equals_decl g h f k n = λ i. record n { id = g (h n.id); module_ref = (fused_ts_module_ref g h f k) n.module_ref i }
