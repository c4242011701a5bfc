-- Where the map of declarations of TypeScript is another map of the same type, with names as they are. Made by scripts/dev/make-visit-files.
use Rattle.std.proofs.Common.{◌≡◌, refl, ◌∙◌, Option}
use Rattle.std.specs.declared.alloc.Global.{Global}
use Rattle.std.specs.declared.vec.Vec.{Vec}
use Rattle.std.specs.formers.vec.Vec.{mapped as vec_mapped}
use Rattle.swc_ecma_codegen_tree.specs.declared.ts_decls.TsEnumDecl.{TsEnumDecl}
use Rattle.swc_ecma_codegen_tree.specs.declared.ts_decls.TsEnumMember.{TsEnumMember}
use Rattle.swc_ecma_codegen_tree.specs.declared.ts_decls.TsEnumMemberId.{TsEnumMemberId}
use Rattle.swc_ecma_codegen_tree.specs.declared.ts_decls.TsExprWithTypeArgs.{TsExprWithTypeArgs}
use Rattle.swc_ecma_codegen_tree.specs.declared.ts_decls.TsExternalModuleRef.{TsExternalModuleRef}
use Rattle.swc_ecma_codegen_tree.specs.declared.ts_decls.TsImportEqualsDecl.{TsImportEqualsDecl}
use Rattle.swc_ecma_codegen_tree.specs.declared.ts_decls.TsInterfaceDecl.{TsInterfaceDecl}
use Rattle.swc_ecma_codegen_tree.specs.declared.ts_decls.TsModuleDecl.{TsModuleDecl}
use Rattle.swc_ecma_codegen_tree.specs.declared.ts_decls.TsModuleName.{TsModuleName}
use Rattle.swc_ecma_codegen_tree.specs.declared.ts_decls.TsModuleRef.{TsModuleRef}
use Rattle.swc_ecma_codegen_tree.specs.declared.ts_decls.TsTypeAliasDecl.{TsTypeAliasDecl}
use Rattle.swc_ecma_codegen_tree.specs.declared.ts_decls.TsEnumMemberId.TheVariants as ts_enum_member_ids
use Rattle.swc_ecma_codegen_tree.specs.declared.ts_decls.TsModuleName.TheVariants as ts_module_names
use Rattle.swc_ecma_codegen_tree.specs.declared.ts_decls.TsModuleRef.TheVariants as ts_module_refs
use Rattle.swc_ecma_codegen_tree.specs.Links.{ExprBox, TsEntityNameBox, TsNamespaceBodyBox, TsTypeParamDeclBox, TsTypeParamInstantiationBox}
use Rattle.swc_ecma_codegen_visit.specs.Mapping.{map_link, map_option}
use Rattle.swc_ecma_codegen_visit.specs.MappedTsDecls.{map_ts_enum_decl, map_ts_enum_member, map_ts_enum_member_id}
use Rattle.swc_ecma_codegen_visit.specs.MappedTsDecls.{map_ts_expr_with_type_args, map_ts_import_equals_decl, map_ts_interface_decl}
use Rattle.swc_ecma_codegen_visit.specs.MappedTsDecls.{map_ts_module_decl, map_ts_module_name, map_ts_module_ref, map_ts_type_alias_decl}

pub in_ts_expr_with_type_args : {X : Type 0} (f : X → X) (D : TsExprWithTypeArgs X → TsExprWithTypeArgs X)
    {to_a : Option (TsTypeParamInstantiationBox X) → Option (TsTypeParamInstantiationBox X)} → ((n : TsExprWithTypeArgs X) (a : Option
    (TsTypeParamInstantiationBox X)) → record n { expr = map_link f n.expr; type_args = to_a a } ≡ D (record n { type_args = a })) → ((x :
    Option (TsTypeParamInstantiationBox X)) → map_option (map_link f) x ≡ to_a x) → (n : TsExprWithTypeArgs X) → map_ts_expr_with_type_args
    (λ x. x) f n ≡ D n
in_ts_expr_with_type_args f D is at_a n = (λ i. record n { expr = map_link f n.expr; type_args = at_a n.type_args i }) ∙ is n n.type_args

pub in_ts_interface_decl : {X : Type 0} (f : X → X) (D : TsInterfaceDecl X → TsInterfaceDecl X)
    {to_a : Option (TsTypeParamDeclBox X) → Option (TsTypeParamDeclBox X)}
    {to_b : Vec (TsExprWithTypeArgs X) Global → Vec (TsExprWithTypeArgs X) Global} → ((n : TsInterfaceDecl X) (a : Option
    (TsTypeParamDeclBox X)) (b : Vec (TsExprWithTypeArgs X) Global) → record n
    { type_params = to_a a; extends = to_b b; body = map_link f n.body } ≡ D (record n { type_params = a; extends = b })) → ((x : Option
    (TsTypeParamDeclBox X)) → map_option (map_link f) x ≡ to_a x) → ((x : Vec (TsExprWithTypeArgs X) Global) → vec_mapped
    (map_ts_expr_with_type_args (λ x. x) f) x ≡ to_b x) → (n : TsInterfaceDecl X) → map_ts_interface_decl (λ x. x) f n ≡ D n
in_ts_interface_decl f D is at_a at_b n = (λ i. record n
    { type_params = at_a n.type_params i; extends = at_b n.extends i; body = map_link f n.body }) ∙ is n n.type_params n.extends

pub in_ts_type_alias_decl : {X : Type 0} (f : X → X) (D : TsTypeAliasDecl X → TsTypeAliasDecl X)
    {to_a : Option (TsTypeParamDeclBox X) → Option (TsTypeParamDeclBox X)} → ((n : TsTypeAliasDecl X) (a : Option (TsTypeParamDeclBox X)) →
    record n { type_params = to_a a; type_ann = map_link f n.type_ann } ≡ D (record n { type_params = a })) → ((x : Option
    (TsTypeParamDeclBox X)) → map_option (map_link f) x ≡ to_a x) → (n : TsTypeAliasDecl X) → map_ts_type_alias_decl (λ x. x) f n ≡ D n
in_ts_type_alias_decl f D is at_a n = (λ i. record n { type_params = at_a n.type_params i; type_ann = map_link f n.type_ann }) ∙ is n
    n.type_params

pub kept_ts_enum_member_id : (n : TsEnumMemberId) → map_ts_enum_member_id (λ x. x) n ≡ n
kept_ts_enum_member_id (ts_enum_member_ids.Ident n) = refl
kept_ts_enum_member_id (ts_enum_member_ids.Str n) = refl

pub in_ts_enum_member : {X : Type 0} (f : X → X) (D : TsEnumMember X → TsEnumMember X) {to_a : TsEnumMemberId → TsEnumMemberId}
    {to_b : Option (ExprBox X) → Option (ExprBox X)} → ((n : TsEnumMember X) (a : TsEnumMemberId) (b : Option (ExprBox X)) → record n
    { id = to_a a; init = to_b b } ≡ D (record n { id = a; init = b })) → ((x : TsEnumMemberId) → map_ts_enum_member_id (λ x. x) x ≡ to_a x)
    → ((x : Option (ExprBox X)) → map_option (map_link f) x ≡ to_b x) → (n : TsEnumMember X) → map_ts_enum_member (λ x. x) f n ≡ D n
in_ts_enum_member f D is at_a at_b n = (λ i. record n { id = at_a n.id i; init = at_b n.init i }) ∙ is n n.id n.init

pub in_ts_enum_decl : {X : Type 0} (f : X → X) (D : TsEnumDecl X → TsEnumDecl X)
    {to_a : Vec (TsEnumMember X) Global → Vec (TsEnumMember X) Global} → ((n : TsEnumDecl X) (a : Vec (TsEnumMember X) Global) → record n
    { members = to_a a } ≡ D (record n { members = a })) → ((x : Vec (TsEnumMember X) Global) → vec_mapped (map_ts_enum_member (λ x. x) f) x
    ≡ to_a x) → (n : TsEnumDecl X) → map_ts_enum_decl (λ x. x) f n ≡ D n
in_ts_enum_decl f D is at_a n = (λ i. record n { members = at_a n.members i }) ∙ is n n.members

pub kept_ts_module_name : (n : TsModuleName) → map_ts_module_name (λ x. x) n ≡ n
kept_ts_module_name (ts_module_names.Ident n) = refl
kept_ts_module_name (ts_module_names.Str n) = refl

pub in_ts_module_decl : {X : Type 0} (f : X → X) (D : TsModuleDecl X → TsModuleDecl X) {to_a : TsModuleName → TsModuleName}
    {to_b : Option (TsNamespaceBodyBox X) → Option (TsNamespaceBodyBox X)} → ((n : TsModuleDecl X) (a : TsModuleName) (b : Option
    (TsNamespaceBodyBox X)) → record n { id = to_a a; body = to_b b } ≡ D (record n { id = a; body = b })) → ((x : TsModuleName) →
    map_ts_module_name (λ x. x) x ≡ to_a x) → ((x : Option (TsNamespaceBodyBox X)) → map_option (map_link f) x ≡ to_b x) → (n : TsModuleDecl
    X) → map_ts_module_decl (λ x. x) f n ≡ D n
in_ts_module_decl f D is at_a at_b n = (λ i. record n { id = at_a n.id i; body = at_b n.body i }) ∙ is n n.id n.body

pub in_ts_module_ref : {X : Type 0} (f : X → X) (D : TsModuleRef X → TsModuleRef X) → ((n : TsEntityNameBox X) → ts_module_refs.TsEntityName
    (map_link f n) ≡ D (ts_module_refs.TsEntityName n)) → ((n : TsExternalModuleRef) → ts_module_refs.TsExternalModuleRef n ≡ D
    (ts_module_refs.TsExternalModuleRef n)) → (n : TsModuleRef X) → map_ts_module_ref (λ x. x) f n ≡ D n
in_ts_module_ref f D is_TsEntityName is_TsExternalModuleRef (ts_module_refs.TsEntityName n) = is_TsEntityName n
in_ts_module_ref f D is_TsEntityName is_TsExternalModuleRef (ts_module_refs.TsExternalModuleRef n) = is_TsExternalModuleRef n

pub in_ts_import_equals_decl : {X : Type 0} (f : X → X) (D : TsImportEqualsDecl X → TsImportEqualsDecl X)
    {to_a : TsModuleRef X → TsModuleRef X} → ((n : TsImportEqualsDecl X) (a : TsModuleRef X) → record n { module_ref = to_a a } ≡ D (record
    n { module_ref = a })) → ((x : TsModuleRef X) → map_ts_module_ref (λ x. x) f x ≡ to_a x) → (n : TsImportEqualsDecl X) →
    map_ts_import_equals_decl (λ x. x) f n ≡ D n
in_ts_import_equals_decl f D is at_a n = (λ i. record n { module_ref = at_a n.module_ref i }) ∙ is n n.module_ref
