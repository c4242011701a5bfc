-- The rules of declarations, expressions and members of TypeScript.
use Rattle.std.specs.Prelude.{codes}
use Rattle.swc_ecma_codegen_tree.specs.declared.ts_decls.TsEnumDecl.{TsEnumDecl}
use Rattle.swc_ecma_codegen_tree.specs.declared.ts_decls.TsEnumMember.{TsEnumMember}
use Rattle.swc_ecma_codegen_tree.specs.declared.ts_decls.TsEnumMemberId.{TsEnumMemberId}
use Rattle.swc_ecma_codegen_tree.specs.declared.ts_decls.TsExportAssignment.{TsExportAssignment}
use Rattle.swc_ecma_codegen_tree.specs.declared.ts_decls.TsExprWithTypeArgs.{TsExprWithTypeArgs}
use Rattle.swc_ecma_codegen_tree.specs.declared.ts_decls.TsExternalModuleRef.{TsExternalModuleRef}
use Rattle.swc_ecma_codegen_tree.specs.declared.ts_decls.TsImportEqualsDecl.{TsImportEqualsDecl}
use Rattle.swc_ecma_codegen_tree.specs.declared.ts_decls.TsInterfaceDecl.{TsInterfaceDecl}
use Rattle.swc_ecma_codegen_tree.specs.declared.ts_decls.TsModuleDecl.{TsModuleDecl}
use Rattle.swc_ecma_codegen_tree.specs.declared.ts_decls.TsModuleName.{TsModuleName}
use Rattle.swc_ecma_codegen_tree.specs.declared.ts_decls.TsModuleRef.{TsModuleRef}
use Rattle.swc_ecma_codegen_tree.specs.declared.ts_decls.TsNamespaceExportDecl.{TsNamespaceExportDecl}
use Rattle.swc_ecma_codegen_tree.specs.declared.ts_decls.TsTypeAliasDecl.{TsTypeAliasDecl}
use Rattle.swc_ecma_codegen_tree.specs.declared.ts_exprs.TsAsExpr.{TsAsExpr}
use Rattle.swc_ecma_codegen_tree.specs.declared.ts_exprs.TsConstAssertion.{TsConstAssertion}
use Rattle.swc_ecma_codegen_tree.specs.declared.ts_exprs.TsInstantiation.{TsInstantiation}
use Rattle.swc_ecma_codegen_tree.specs.declared.ts_exprs.TsNonNullExpr.{TsNonNullExpr}
use Rattle.swc_ecma_codegen_tree.specs.declared.ts_exprs.TsSatisfiesExpr.{TsSatisfiesExpr}
use Rattle.swc_ecma_codegen_tree.specs.declared.ts_exprs.TsTypeAssertion.{TsTypeAssertion}
use Rattle.swc_ecma_codegen_tree.specs.declared.ts_members.TsCallSignatureDecl.{TsCallSignatureDecl}
use Rattle.swc_ecma_codegen_tree.specs.declared.ts_members.TsConstructSignatureDecl.{TsConstructSignatureDecl}
use Rattle.swc_ecma_codegen_tree.specs.declared.ts_members.TsGetterSignature.{TsGetterSignature}
use Rattle.swc_ecma_codegen_tree.specs.declared.ts_members.TsIndexSignature.{TsIndexSignature}
use Rattle.swc_ecma_codegen_tree.specs.declared.ts_members.TsInterfaceBody.{TsInterfaceBody}
use Rattle.swc_ecma_codegen_tree.specs.declared.ts_members.TsMethodSignature.{TsMethodSignature}
use Rattle.swc_ecma_codegen_tree.specs.declared.ts_members.TsPropertySignature.{TsPropertySignature}
use Rattle.swc_ecma_codegen_tree.specs.declared.ts_members.TsSetterSignature.{TsSetterSignature}
use Rattle.swc_ecma_codegen_tree.specs.declared.ts_members.TsTypeElement.{TsTypeElement}
use Rattle.swc_ecma_codegen_tree.specs.declared.ts_members.TsTypeElement.TheVariants as ts_type_elements
use Rattle.swc_ecma_codegen_tree.specs.declared.ts_decls.TsEnumMemberId.TheVariants as ts_enum_member_ids
use Rattle.swc_ecma_codegen_tree.specs.declared.ts_decls.TsModuleName.TheVariants as ts_module_names
use Rattle.swc_ecma_codegen_tree.specs.declared.ts_decls.TsModuleRef.TheVariants as ts_module_refs
use Rattle.swc_ecma_codegen_grammar.specs.declared.roles.Role.TheVariants.{Annotation, AnyType, DottedBody, EntityName, Expression, InterfaceBody, SignatureParameter, TypeArguments, TypeParameters}
use Rattle.swc_ecma_codegen_validate.specs.Rules.{Rules, Each, Optional, ◌&◌, at, link, leaf}
use Rattle.swc_ecma_codegen_validate.specs.NameRules.{ident, str_lit}

unfoldable pub ts_expr_with_type_args : {X : Type 0} → TsExprWithTypeArgs X → Rules X
ts_expr_with_type_args n = at (codes "expr") (link n.expr Expression) & at (codes "type_args") (Optional n.type_args (λ x. link x TypeArguments))

unfoldable pub ts_interface_decl : {X : Type 0} → TsInterfaceDecl X → Rules X
ts_interface_decl n = at (codes "id") (leaf (ident n.id)) & at (codes "type_params") (Optional n.type_params (λ x. link x TypeParameters)) & at (codes "extends") (Each n.extends.items ts_expr_with_type_args) & at (codes "body") (link n.body InterfaceBody)

unfoldable pub ts_type_alias_decl : {X : Type 0} → TsTypeAliasDecl X → Rules X
ts_type_alias_decl n = at (codes "id") (leaf (ident n.id)) & at (codes "type_params") (Optional n.type_params (λ x. link x TypeParameters)) & at (codes "type_ann") (link n.type_ann AnyType)

unfoldable pub ts_enum_member_id : TsEnumMemberId → Rules ⊥
ts_enum_member_id (ts_enum_member_ids.Ident n) = ident n
ts_enum_member_id (ts_enum_member_ids.Str n) = str_lit n

unfoldable pub ts_enum_member : {X : Type 0} → TsEnumMember X → Rules X
ts_enum_member n = at (codes "id") (leaf (ts_enum_member_id n.id)) & at (codes "init") (Optional n.init (λ x. link x Expression))

unfoldable pub ts_enum_decl : {X : Type 0} → TsEnumDecl X → Rules X
ts_enum_decl n = at (codes "id") (leaf (ident n.id)) & at (codes "members") (Each n.members.items ts_enum_member)

unfoldable pub ts_module_name : TsModuleName → Rules ⊥
ts_module_name (ts_module_names.Ident n) = ident n
ts_module_name (ts_module_names.Str n) = str_lit n

unfoldable pub ts_module_decl : {X : Type 0} → TsModuleDecl X → Rules X
ts_module_decl n = at (codes "id") (leaf (ts_module_name n.id)) & at (codes "body") (Optional n.body (λ x. link x DottedBody))

unfoldable pub ts_external_module_ref : TsExternalModuleRef → Rules ⊥
ts_external_module_ref n = at (codes "expr") (str_lit n.expr)

unfoldable pub ts_module_ref : {X : Type 0} → TsModuleRef X → Rules X
ts_module_ref (ts_module_refs.TsEntityName n) = link n EntityName
ts_module_ref (ts_module_refs.TsExternalModuleRef n) = leaf (ts_external_module_ref n)

unfoldable pub ts_import_equals_decl : {X : Type 0} → TsImportEqualsDecl X → Rules X
ts_import_equals_decl n = at (codes "id") (leaf (ident n.id)) & at (codes "module_ref") (ts_module_ref n.module_ref)

unfoldable pub ts_export_assignment : {X : Type 0} → TsExportAssignment X → Rules X
ts_export_assignment n = at (codes "expr") (link n.expr Expression)

unfoldable pub ts_namespace_export_decl : TsNamespaceExportDecl → Rules ⊥
ts_namespace_export_decl n = at (codes "id") (ident n.id)

unfoldable pub ts_as_expr : {X : Type 0} → TsAsExpr X → Rules X
ts_as_expr n = at (codes "expr") (link n.expr Expression) & at (codes "type_ann") (link n.type_ann AnyType)

unfoldable pub ts_const_assertion : {X : Type 0} → TsConstAssertion X → Rules X
ts_const_assertion n = at (codes "expr") (link n.expr Expression)

unfoldable pub ts_satisfies_expr : {X : Type 0} → TsSatisfiesExpr X → Rules X
ts_satisfies_expr n = at (codes "expr") (link n.expr Expression) & at (codes "type_ann") (link n.type_ann AnyType)

unfoldable pub ts_non_null_expr : {X : Type 0} → TsNonNullExpr X → Rules X
ts_non_null_expr n = at (codes "expr") (link n.expr Expression)

unfoldable pub ts_type_assertion : {X : Type 0} → TsTypeAssertion X → Rules X
ts_type_assertion n = at (codes "type_ann") (link n.type_ann AnyType) & at (codes "expr") (link n.expr Expression)

unfoldable pub ts_instantiation : {X : Type 0} → TsInstantiation X → Rules X
ts_instantiation n = at (codes "expr") (link n.expr Expression) & at (codes "type_args") (link n.type_args TypeArguments)

unfoldable pub ts_call_signature_decl : {X : Type 0} → TsCallSignatureDecl X → Rules X
ts_call_signature_decl n = at (codes "type_params") (Optional n.type_params (λ x. link x TypeParameters)) & at (codes "params") (Each n.params.items (λ x. link x SignatureParameter)) & at (codes "type_ann") (Optional n.type_ann (λ x. link x Annotation))

unfoldable pub ts_construct_signature_decl : {X : Type 0} → TsConstructSignatureDecl X → Rules X
ts_construct_signature_decl n = at (codes "type_params") (Optional n.type_params (λ x. link x TypeParameters)) & at (codes "params") (Each n.params.items (λ x. link x SignatureParameter)) & at (codes "type_ann") (Optional n.type_ann (λ x. link x Annotation))

unfoldable pub ts_property_signature : {X : Type 0} → TsPropertySignature X → Rules X
ts_property_signature n = at (codes "key") (link n.key Expression) & at (codes "type_ann") (Optional n.type_ann (λ x. link x Annotation))

unfoldable pub ts_getter_signature : {X : Type 0} → TsGetterSignature X → Rules X
ts_getter_signature n = at (codes "key") (link n.key Expression) & at (codes "type_ann") (Optional n.type_ann (λ x. link x Annotation))

unfoldable pub ts_setter_signature : {X : Type 0} → TsSetterSignature X → Rules X
ts_setter_signature n = at (codes "key") (link n.key Expression) & at (codes "param") (link n.param SignatureParameter)

unfoldable pub ts_method_signature : {X : Type 0} → TsMethodSignature X → Rules X
ts_method_signature n = at (codes "key") (link n.key Expression) & at (codes "type_params") (Optional n.type_params (λ x. link x TypeParameters)) & at (codes "params") (Each n.params.items (λ x. link x SignatureParameter)) & at (codes "type_ann") (Optional n.type_ann (λ x. link x Annotation))

unfoldable pub ts_index_signature : {X : Type 0} → TsIndexSignature X → Rules X
ts_index_signature n = at (codes "params") (Each n.params.items (λ x. link x SignatureParameter)) & at (codes "type_ann") (Optional n.type_ann (λ x. link x Annotation))

unfoldable pub ts_type_element : {X : Type 0} → TsTypeElement X → Rules X
ts_type_element (ts_type_elements.TsCallSignatureDecl n) = ts_call_signature_decl n
ts_type_element (ts_type_elements.TsConstructSignatureDecl n) = ts_construct_signature_decl n
ts_type_element (ts_type_elements.TsPropertySignature n) = ts_property_signature n
ts_type_element (ts_type_elements.TsGetterSignature n) = ts_getter_signature n
ts_type_element (ts_type_elements.TsSetterSignature n) = ts_setter_signature n
ts_type_element (ts_type_elements.TsMethodSignature n) = ts_method_signature n
ts_type_element (ts_type_elements.TsIndexSignature n) = ts_index_signature n

unfoldable pub ts_interface_body : {X : Type 0} → TsInterfaceBody X → Rules X
ts_interface_body n = at (codes "body") (Each n.body.items ts_type_element)
