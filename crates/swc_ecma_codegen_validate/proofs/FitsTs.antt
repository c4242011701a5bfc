-- The same of declarations, expressions and members of TypeScript.
use Rattle.std.proofs.Common.{◌≡◌, true}
use Rattle.swc_ecma_codegen_tree.specs.declared.ts_decls.TsEnumDecl.{TsEnumDecl}
use Rattle.swc_ecma_codegen_tree.specs.declared.ts_decls.TsEnumMember.{TsEnumMember}
use Rattle.swc_ecma_codegen_tree.specs.declared.ts_decls.TsEnumMemberId.{TsEnumMemberId}
use Rattle.swc_ecma_codegen_tree.specs.declared.ts_decls.TsExportAssignment.{TsExportAssignment}
use Rattle.swc_ecma_codegen_tree.specs.declared.ts_decls.TsExprWithTypeArgs.{TsExprWithTypeArgs}
use Rattle.swc_ecma_codegen_tree.specs.declared.ts_decls.TsExternalModuleRef.{TsExternalModuleRef}
use Rattle.swc_ecma_codegen_tree.specs.declared.ts_decls.TsImportEqualsDecl.{TsImportEqualsDecl}
use Rattle.swc_ecma_codegen_tree.specs.declared.ts_decls.TsInterfaceDecl.{TsInterfaceDecl}
use Rattle.swc_ecma_codegen_tree.specs.declared.ts_decls.TsModuleDecl.{TsModuleDecl}
use Rattle.swc_ecma_codegen_tree.specs.declared.ts_decls.TsModuleName.{TsModuleName}
use Rattle.swc_ecma_codegen_tree.specs.declared.ts_decls.TsModuleRef.{TsModuleRef}
use Rattle.swc_ecma_codegen_tree.specs.declared.ts_decls.TsNamespaceExportDecl.{TsNamespaceExportDecl}
use Rattle.swc_ecma_codegen_tree.specs.declared.ts_decls.TsTypeAliasDecl.{TsTypeAliasDecl}
use Rattle.swc_ecma_codegen_tree.specs.declared.ts_exprs.TsAsExpr.{TsAsExpr}
use Rattle.swc_ecma_codegen_tree.specs.declared.ts_exprs.TsConstAssertion.{TsConstAssertion}
use Rattle.swc_ecma_codegen_tree.specs.declared.ts_exprs.TsInstantiation.{TsInstantiation}
use Rattle.swc_ecma_codegen_tree.specs.declared.ts_exprs.TsNonNullExpr.{TsNonNullExpr}
use Rattle.swc_ecma_codegen_tree.specs.declared.ts_exprs.TsSatisfiesExpr.{TsSatisfiesExpr}
use Rattle.swc_ecma_codegen_tree.specs.declared.ts_exprs.TsTypeAssertion.{TsTypeAssertion}
use Rattle.swc_ecma_codegen_tree.specs.declared.ts_members.TsCallSignatureDecl.{TsCallSignatureDecl}
use Rattle.swc_ecma_codegen_tree.specs.declared.ts_members.TsConstructSignatureDecl.{TsConstructSignatureDecl}
use Rattle.swc_ecma_codegen_tree.specs.declared.ts_members.TsGetterSignature.{TsGetterSignature}
use Rattle.swc_ecma_codegen_tree.specs.declared.ts_members.TsIndexSignature.{TsIndexSignature}
use Rattle.swc_ecma_codegen_tree.specs.declared.ts_members.TsInterfaceBody.{TsInterfaceBody}
use Rattle.swc_ecma_codegen_tree.specs.declared.ts_members.TsMethodSignature.{TsMethodSignature}
use Rattle.swc_ecma_codegen_tree.specs.declared.ts_members.TsPropertySignature.{TsPropertySignature}
use Rattle.swc_ecma_codegen_tree.specs.declared.ts_members.TsSetterSignature.{TsSetterSignature}
use Rattle.swc_ecma_codegen_tree.specs.declared.ts_members.TsTypeElement.{TsTypeElement}
use Rattle.swc_ecma_codegen_tree.specs.declared.ts_members.TsTypeElement.TheVariants as ts_type_elements
use Rattle.swc_ecma_codegen_tree.specs.declared.ts_decls.TsEnumMemberId.TheVariants as ts_enum_member_ids
use Rattle.swc_ecma_codegen_tree.specs.declared.ts_decls.TsModuleName.TheVariants as ts_module_names
use Rattle.swc_ecma_codegen_tree.specs.declared.ts_decls.TsModuleRef.TheVariants as ts_module_refs
use Rattle.swc_ecma_codegen_grammar.specs.declared.roles.Role.{Role}
use Rattle.swc_ecma_codegen_grammar.specs.declared.roles.Role.TheVariants.{Annotation, AnyType, EntityName, Expression, InterfaceBody, SignatureParameter, TypeArguments, TypeParameters}
use Rattle.swc_ecma_codegen_grammar.specs.MemberPhrases.{ts_call_signature_decl, ts_construct_signature_decl, ts_getter_signature, ts_index_signature, ts_interface_body, ts_method_signature, ts_property_signature, ts_setter_signature, ts_signature, ts_type_element}
use Rattle.swc_ecma_codegen_grammar.specs.Phrases.{Phrase, is_possible}
use Rattle.swc_ecma_codegen_grammar.specs.TsDeclPhrases.{ts_enum_decl, ts_enum_member, ts_enum_member_id, ts_export_assignment, ts_expr_with_type_args, ts_external_module_ref, ts_import_equals_decl, ts_interface_decl, ts_module_decl, ts_module_name, ts_module_ref, ts_namespace_export_decl, ts_type_alias_decl}
use Rattle.swc_ecma_codegen_grammar.specs.TsExprPhrases.{ts_as_expr, ts_const_assertion, ts_instantiation, ts_non_null_expr, ts_satisfies_expr, ts_type_assertion}
use Rattle.swc_ecma_codegen_validate.specs.TsRules as rules
use Rattle.swc_ecma_codegen_validate.specs.Rules.{Findings, findings, no_links}
use Rattle.swc_ecma_codegen_validate.proofs.Fitting.{Held, each_fits, some_fits, initializer_fits, module_tail_fits}
use Rattle.swc_ecma_codegen_validate.proofs.FitsNames.{ident_fits, str_lit_fits}
use Rattle.swc_ecma_codegen_validate.proofs.MembersPossible.{call_signature_possible, construct_signature_possible, getter_signature_possible, index_signature_possible, interface_body_possible, method_signature_possible, property_signature_possible, setter_signature_possible, type_element_possible}
use Rattle.swc_ecma_codegen_validate.proofs.TsDeclsPossible.{alias_possible, enum_possible, export_assignment_possible, expr_with_type_args_possible, external_ref_possible, import_equals_possible, interface_decl_possible, module_decl_possible, namespace_export_possible}
use Rattle.swc_ecma_codegen_validate.proofs.TsExprsPossible.{const_assertion_possible, non_null_possible}

pub ts_enum_member_id_fits : (n : TsEnumMemberId) → (findings no_links (rules.ts_enum_member_id n)).none → is_possible (ts_enum_member_id n) ≡ true
unfolding findings rules.ts_enum_member_id ts_enum_member_id is_possible
ts_enum_member_id_fits (ts_enum_member_ids.Ident n) h = simp (ident_fits n h)
ts_enum_member_id_fits (ts_enum_member_ids.Str n) h = simp (str_lit_fits n h)

pub ts_module_name_fits : (n : TsModuleName) → (findings no_links (rules.ts_module_name n)).none → is_possible (ts_module_name n) ≡ true
unfolding findings rules.ts_module_name ts_module_name is_possible
ts_module_name_fits (ts_module_names.Ident n) h = simp (ident_fits n h)
ts_module_name_fits (ts_module_names.Str n) h = simp (str_lit_fits n h)

pub ts_external_module_ref_fits : (n : TsExternalModuleRef) → (findings no_links (rules.ts_external_module_ref n)).none → is_possible (ts_external_module_ref n) ≡ true
unfolding findings rules.ts_external_module_ref
ts_external_module_ref_fits n h = simp (external_ref_possible, str_lit_fits n.expr h)

pub ts_namespace_export_decl_fits : (n : TsNamespaceExportDecl) → (findings no_links (rules.ts_namespace_export_decl n)).none → is_possible (ts_namespace_export_decl n) ≡ true
unfolding findings rules.ts_namespace_export_decl
ts_namespace_export_decl_fits n h = simp (namespace_export_possible, ident_fits n.id h)

module _ {X : Type 0} (f : X → Role → Findings) (g : X → Role → Phrase) (held : Held f g) where
  pub ts_expr_with_type_args_fits : (n : TsExprWithTypeArgs X) → (findings f (rules.ts_expr_with_type_args n)).none → is_possible (ts_expr_with_type_args g n) ≡ true
  unfolding findings rules.ts_expr_with_type_args
  ts_expr_with_type_args_fits n h = simp (expr_with_type_args_possible, held.node n.expr.node.value Expression h.0, some_fits _ _ n.type_args h.1 (λ x. held.node x.node.value TypeArguments))

  pub ts_interface_decl_fits : (n : TsInterfaceDecl X) → (findings f (rules.ts_interface_decl n)).none → is_possible (ts_interface_decl g n) ≡ true
  unfolding findings rules.ts_interface_decl
  ts_interface_decl_fits n h = simp (interface_decl_possible, ident_fits n.id h.0, some_fits _ _ n.type_params h.1.0 (λ x. held.node x.node.value TypeParameters), each_fits _ (ts_expr_with_type_args g) _ n.extends.items h.1.1.0 ts_expr_with_type_args_fits, held.node n.body.node.value InterfaceBody h.1.1.1)

  pub ts_type_alias_decl_fits : (n : TsTypeAliasDecl X) → (findings f (rules.ts_type_alias_decl n)).none → is_possible (ts_type_alias_decl g n) ≡ true
  unfolding findings rules.ts_type_alias_decl
  ts_type_alias_decl_fits n h = simp (alias_possible, ident_fits n.id h.0, some_fits _ _ n.type_params h.1.0 (λ x. held.node x.node.value TypeParameters), held.node n.type_ann.node.value AnyType h.1.1)

  pub ts_enum_member_fits : (n : TsEnumMember X) → (findings f (rules.ts_enum_member n)).none → is_possible (ts_enum_member g n) ≡ true
  unfolding findings rules.ts_enum_member ts_enum_member is_possible
  ts_enum_member_fits n h = simp (ts_enum_member_id_fits n.id h.0, initializer_fits f g held n.init h.1)

  pub ts_enum_decl_fits : (n : TsEnumDecl X) → (findings f (rules.ts_enum_decl n)).none → is_possible (ts_enum_decl g n) ≡ true
  unfolding findings rules.ts_enum_decl
  ts_enum_decl_fits n h = simp (enum_possible, ident_fits n.id h.0, each_fits _ (ts_enum_member g) _ n.members.items h.1 ts_enum_member_fits)

  pub ts_module_decl_fits : (n : TsModuleDecl X) → (findings f (rules.ts_module_decl n)).none → is_possible (ts_module_decl g n) ≡ true
  unfolding findings rules.ts_module_decl
  ts_module_decl_fits n h = simp (module_decl_possible, ts_module_name_fits n.id h.0, module_tail_fits f g held n.body h.1)

  pub ts_module_ref_fits : (n : TsModuleRef X) → (findings f (rules.ts_module_ref n)).none → is_possible (ts_module_ref g n) ≡ true
  unfolding findings rules.ts_module_ref ts_module_ref is_possible
  ts_module_ref_fits (ts_module_refs.TsEntityName n) h = simp (held.node n.node.value EntityName h)
  ts_module_ref_fits (ts_module_refs.TsExternalModuleRef n) h = simp (ts_external_module_ref_fits n h)

  pub ts_import_equals_decl_fits : (n : TsImportEqualsDecl X) → (findings f (rules.ts_import_equals_decl n)).none → is_possible (ts_import_equals_decl g n) ≡ true
  unfolding findings rules.ts_import_equals_decl
  ts_import_equals_decl_fits n h = simp (import_equals_possible, ident_fits n.id h.0, ts_module_ref_fits n.module_ref h.1)

  pub ts_export_assignment_fits : (n : TsExportAssignment X) → (findings f (rules.ts_export_assignment n)).none → is_possible (ts_export_assignment g n) ≡ true
  unfolding findings rules.ts_export_assignment
  ts_export_assignment_fits n h = simp (export_assignment_possible, held.node n.expr.node.value Expression h)

  pub ts_as_expr_fits : (n : TsAsExpr X) → (findings f (rules.ts_as_expr n)).none → is_possible (ts_as_expr g n) ≡ true
  unfolding findings rules.ts_as_expr ts_as_expr is_possible
  ts_as_expr_fits n h = simp (held.node n.expr.node.value Expression h.0, held.node n.type_ann.node.value AnyType h.1)

  pub ts_const_assertion_fits : (n : TsConstAssertion X) → (findings f (rules.ts_const_assertion n)).none → is_possible (ts_const_assertion g n) ≡ true
  unfolding findings rules.ts_const_assertion
  ts_const_assertion_fits n h = simp (const_assertion_possible, held.node n.expr.node.value Expression h)

  pub ts_satisfies_expr_fits : (n : TsSatisfiesExpr X) → (findings f (rules.ts_satisfies_expr n)).none → is_possible (ts_satisfies_expr g n) ≡ true
  unfolding findings rules.ts_satisfies_expr ts_satisfies_expr is_possible
  ts_satisfies_expr_fits n h = simp (held.node n.expr.node.value Expression h.0, held.node n.type_ann.node.value AnyType h.1)

  pub ts_non_null_expr_fits : (n : TsNonNullExpr X) → (findings f (rules.ts_non_null_expr n)).none → is_possible (ts_non_null_expr g n) ≡ true
  unfolding findings rules.ts_non_null_expr
  ts_non_null_expr_fits n h = simp (non_null_possible, held.node n.expr.node.value Expression h)

  pub ts_type_assertion_fits : (n : TsTypeAssertion X) → (findings f (rules.ts_type_assertion n)).none → is_possible (ts_type_assertion g n) ≡ true
  unfolding findings rules.ts_type_assertion ts_type_assertion is_possible
  ts_type_assertion_fits n h = simp (held.node n.type_ann.node.value AnyType h.0, held.node n.expr.node.value Expression h.1)

  pub ts_instantiation_fits : (n : TsInstantiation X) → (findings f (rules.ts_instantiation n)).none → is_possible (ts_instantiation g n) ≡ true
  unfolding findings rules.ts_instantiation ts_instantiation is_possible
  ts_instantiation_fits n h = simp (held.node n.expr.node.value Expression h.0, held.node n.type_args.node.value TypeArguments h.1)

  pub ts_call_signature_decl_fits : (n : TsCallSignatureDecl X) → (findings f (rules.ts_call_signature_decl n)).none → is_possible (ts_call_signature_decl g n) ≡ true
  unfolding findings rules.ts_call_signature_decl
  ts_call_signature_decl_fits n h = simp (call_signature_possible, some_fits _ _ n.type_params h.0 (λ x. held.node x.node.value TypeParameters), each_fits _ _ _ n.params.items h.1.0 (λ x. held.node x.node.value SignatureParameter), some_fits _ _ n.type_ann h.1.1 (λ x. held.node x.node.value Annotation))

  pub ts_construct_signature_decl_fits : (n : TsConstructSignatureDecl X) → (findings f (rules.ts_construct_signature_decl n)).none → is_possible (ts_construct_signature_decl g n) ≡ true
  unfolding findings rules.ts_construct_signature_decl
  ts_construct_signature_decl_fits n h = simp (construct_signature_possible, some_fits _ _ n.type_params h.0 (λ x. held.node x.node.value TypeParameters), each_fits _ _ _ n.params.items h.1.0 (λ x. held.node x.node.value SignatureParameter), some_fits _ _ n.type_ann h.1.1 (λ x. held.node x.node.value Annotation))

  pub ts_property_signature_fits : (n : TsPropertySignature X) → (findings f (rules.ts_property_signature n)).none → is_possible (ts_property_signature g n) ≡ true
  unfolding findings rules.ts_property_signature
  ts_property_signature_fits n h = simp (property_signature_possible, held.node n.key.node.value Expression h.0, some_fits _ _ n.type_ann h.1 (λ x. held.node x.node.value Annotation))

  pub ts_getter_signature_fits : (n : TsGetterSignature X) → (findings f (rules.ts_getter_signature n)).none → is_possible (ts_getter_signature g n) ≡ true
  unfolding findings rules.ts_getter_signature
  ts_getter_signature_fits n h = simp (getter_signature_possible, held.node n.key.node.value Expression h.0, some_fits _ _ n.type_ann h.1 (λ x. held.node x.node.value Annotation))

  pub ts_setter_signature_fits : (n : TsSetterSignature X) → (findings f (rules.ts_setter_signature n)).none → is_possible (ts_setter_signature g n) ≡ true
  unfolding findings rules.ts_setter_signature
  ts_setter_signature_fits n h = simp (setter_signature_possible, held.node n.key.node.value Expression h.0, held.node n.param.node.value SignatureParameter h.1)

  pub ts_method_signature_fits : (n : TsMethodSignature X) → (findings f (rules.ts_method_signature n)).none → is_possible (ts_method_signature g n) ≡ true
  unfolding findings rules.ts_method_signature
  ts_method_signature_fits n h = simp (method_signature_possible, held.node n.key.node.value Expression h.0, some_fits _ _ n.type_params h.1.0 (λ x. held.node x.node.value TypeParameters), each_fits _ _ _ n.params.items h.1.1.0 (λ x. held.node x.node.value SignatureParameter), some_fits _ _ n.type_ann h.1.1.1 (λ x. held.node x.node.value Annotation))

  pub ts_index_signature_fits : (n : TsIndexSignature X) → (findings f (rules.ts_index_signature n)).none → is_possible (ts_index_signature g n) ≡ true
  unfolding findings rules.ts_index_signature
  ts_index_signature_fits n h = simp (index_signature_possible, each_fits _ _ _ n.params.items h.0 (λ x. held.node x.node.value SignatureParameter), some_fits _ _ n.type_ann h.1 (λ x. held.node x.node.value Annotation))

  pub ts_type_element_fits : (n : TsTypeElement X) → (findings f (rules.ts_type_element n)).none → is_possible (ts_type_element g n) ≡ true
  unfolding findings rules.ts_type_element ts_signature
  ts_type_element_fits (ts_type_elements.TsCallSignatureDecl n) h = simp (ts_call_signature_decl_fits n h, type_element_possible)
  ts_type_element_fits (ts_type_elements.TsConstructSignatureDecl n) h = simp (ts_construct_signature_decl_fits n h, type_element_possible)
  ts_type_element_fits (ts_type_elements.TsPropertySignature n) h = simp (ts_property_signature_fits n h, type_element_possible)
  ts_type_element_fits (ts_type_elements.TsGetterSignature n) h = simp (ts_getter_signature_fits n h, type_element_possible)
  ts_type_element_fits (ts_type_elements.TsSetterSignature n) h = simp (ts_setter_signature_fits n h, type_element_possible)
  ts_type_element_fits (ts_type_elements.TsMethodSignature n) h = simp (ts_method_signature_fits n h, type_element_possible)
  ts_type_element_fits (ts_type_elements.TsIndexSignature n) h = simp (ts_index_signature_fits n h, type_element_possible)

  pub ts_interface_body_fits : (n : TsInterfaceBody X) → (findings f (rules.ts_interface_body n)).none → is_possible (ts_interface_body g n) ≡ true
  unfolding findings rules.ts_interface_body
  ts_interface_body_fits n h = simp (interface_body_possible, each_fits _ (ts_type_element g) _ n.body.items h ts_type_element_fits)
