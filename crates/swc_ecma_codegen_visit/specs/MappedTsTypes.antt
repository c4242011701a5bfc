-- Maps of types of TypeScript: of each type, over names and what links hold as something else. Made by scripts/dev/make-visit-files.
use Rattle.std.specs.formers.vec.Vec.{mapped as vec_mapped}
use Rattle.swc_ecma_codegen_tree.specs.declared.idents.Ident.{Ident}
use Rattle.swc_ecma_codegen_tree.specs.declared.ts_types.TsArrayType.{TsArrayType}
use Rattle.swc_ecma_codegen_tree.specs.declared.ts_members.TsCallSignatureDecl.{TsCallSignatureDecl}
use Rattle.swc_ecma_codegen_tree.specs.declared.ts_types.TsConditionalType.{TsConditionalType}
use Rattle.swc_ecma_codegen_tree.specs.declared.ts_members.TsConstructSignatureDecl.{TsConstructSignatureDecl}
use Rattle.swc_ecma_codegen_tree.specs.declared.ts_types.TsConstructorType.{TsConstructorType}
use Rattle.swc_ecma_codegen_tree.specs.declared.ts_types.TsEntityName.{TsEntityName}
use Rattle.swc_ecma_codegen_tree.specs.declared.ts_types.TsFnOrConstructorType.{TsFnOrConstructorType}
use Rattle.swc_ecma_codegen_tree.specs.declared.ts_types.TsFnParam.{TsFnParam}
use Rattle.swc_ecma_codegen_tree.specs.declared.ts_types.TsFnType.{TsFnType}
use Rattle.swc_ecma_codegen_tree.specs.declared.ts_members.TsGetterSignature.{TsGetterSignature}
use Rattle.swc_ecma_codegen_tree.specs.declared.ts_types.TsImportType.{TsImportType}
use Rattle.swc_ecma_codegen_tree.specs.declared.ts_members.TsIndexSignature.{TsIndexSignature}
use Rattle.swc_ecma_codegen_tree.specs.declared.ts_types.TsIndexedAccessType.{TsIndexedAccessType}
use Rattle.swc_ecma_codegen_tree.specs.declared.ts_types.TsInferType.{TsInferType}
use Rattle.swc_ecma_codegen_tree.specs.declared.ts_members.TsInterfaceBody.{TsInterfaceBody}
use Rattle.swc_ecma_codegen_tree.specs.declared.ts_types.TsIntersectionType.{TsIntersectionType}
use Rattle.swc_ecma_codegen_tree.specs.declared.ts_types.TsLit.{TsLit}
use Rattle.swc_ecma_codegen_tree.specs.declared.ts_types.TsLitType.{TsLitType}
use Rattle.swc_ecma_codegen_tree.specs.declared.ts_types.TsMappedType.{TsMappedType}
use Rattle.swc_ecma_codegen_tree.specs.declared.ts_members.TsMethodSignature.{TsMethodSignature}
use Rattle.swc_ecma_codegen_tree.specs.declared.ts_types.TsOptionalType.{TsOptionalType}
use Rattle.swc_ecma_codegen_tree.specs.declared.ts_types.TsParenthesizedType.{TsParenthesizedType}
use Rattle.swc_ecma_codegen_tree.specs.declared.ts_members.TsPropertySignature.{TsPropertySignature}
use Rattle.swc_ecma_codegen_tree.specs.declared.ts_types.TsQualifiedName.{TsQualifiedName}
use Rattle.swc_ecma_codegen_tree.specs.declared.ts_types.TsRestType.{TsRestType}
use Rattle.swc_ecma_codegen_tree.specs.declared.ts_members.TsSetterSignature.{TsSetterSignature}
use Rattle.swc_ecma_codegen_tree.specs.declared.ts_types.TsThisTypeOrIdent.{TsThisTypeOrIdent}
use Rattle.swc_ecma_codegen_tree.specs.declared.ts_types.TsTplLitType.{TsTplLitType}
use Rattle.swc_ecma_codegen_tree.specs.declared.ts_types.TsTupleElement.{TsTupleElement}
use Rattle.swc_ecma_codegen_tree.specs.declared.ts_types.TsTupleType.{TsTupleType}
use Rattle.swc_ecma_codegen_tree.specs.declared.ts_types.TsType.{TsType}
use Rattle.swc_ecma_codegen_tree.specs.declared.ts_types.TsTypeAnn.{TsTypeAnn}
use Rattle.swc_ecma_codegen_tree.specs.declared.ts_members.TsTypeElement.{TsTypeElement}
use Rattle.swc_ecma_codegen_tree.specs.declared.ts_types.TsTypeLit.{TsTypeLit}
use Rattle.swc_ecma_codegen_tree.specs.declared.ts_types.TsTypeOperator.{TsTypeOperator}
use Rattle.swc_ecma_codegen_tree.specs.declared.ts_types.TsTypeParam.{TsTypeParam}
use Rattle.swc_ecma_codegen_tree.specs.declared.ts_types.TsTypeParamDecl.{TsTypeParamDecl}
use Rattle.swc_ecma_codegen_tree.specs.declared.ts_types.TsTypeParamInstantiation.{TsTypeParamInstantiation}
use Rattle.swc_ecma_codegen_tree.specs.declared.ts_types.TsTypePredicate.{TsTypePredicate}
use Rattle.swc_ecma_codegen_tree.specs.declared.ts_types.TsTypeQuery.{TsTypeQuery}
use Rattle.swc_ecma_codegen_tree.specs.declared.ts_types.TsTypeQueryExpr.{TsTypeQueryExpr}
use Rattle.swc_ecma_codegen_tree.specs.declared.ts_types.TsTypeRef.{TsTypeRef}
use Rattle.swc_ecma_codegen_tree.specs.declared.ts_types.TsUnionOrIntersectionType.{TsUnionOrIntersectionType}
use Rattle.swc_ecma_codegen_tree.specs.declared.ts_types.TsUnionType.{TsUnionType}
use Rattle.swc_ecma_codegen_tree.specs.declared.ts_types.TsEntityName.TheVariants as ts_entity_names
use Rattle.swc_ecma_codegen_tree.specs.declared.ts_types.TsFnOrConstructorType.TheVariants as ts_fn_or_constructor_types
use Rattle.swc_ecma_codegen_tree.specs.declared.ts_types.TsFnParam.TheVariants as ts_fn_params
use Rattle.swc_ecma_codegen_tree.specs.declared.ts_types.TsLit.TheVariants as ts_lits
use Rattle.swc_ecma_codegen_tree.specs.declared.ts_types.TsThisTypeOrIdent.TheVariants as ts_this_type_or_idents
use Rattle.swc_ecma_codegen_tree.specs.declared.ts_types.TsType.TheVariants as ts_types
use Rattle.swc_ecma_codegen_tree.specs.declared.ts_members.TsTypeElement.TheVariants as ts_type_elements
use Rattle.swc_ecma_codegen_tree.specs.declared.ts_types.TsTypeQueryExpr.TheVariants as ts_type_query_exprs
use Rattle.swc_ecma_codegen_tree.specs.declared.ts_types.TsUnionOrIntersectionType.TheVariants as ts_union_or_intersection_types
use Rattle.swc_ecma_codegen_visit.specs.Mapping.{map_box, map_link, map_option}
use Rattle.swc_ecma_codegen_visit.specs.MappedIdents.{map_binding_ident}
use Rattle.swc_ecma_codegen_visit.specs.MappedPats.{map_array_pat, map_object_pat, map_rest_pat}

abbrev pub map_ts_index_signature : {X : Type 0} → (Ident → Ident) → (X → X) → TsIndexSignature X → TsIndexSignature X
map_ts_index_signature g f n = record n { params = vec_mapped (map_link f) n.params; type_ann = map_option (map_link f) n.type_ann }

abbrev pub map_ts_fn_type : {X : Type 0} → (Ident → Ident) → (X → X) → TsFnType X → TsFnType X
map_ts_fn_type g f n = record n {
  params = vec_mapped (map_link f) n.params;
  type_params = map_option (map_link f) n.type_params;
  type_ann = map_link f n.type_ann;
}

abbrev pub map_ts_constructor_type : {X : Type 0} → (Ident → Ident) → (X → X) → TsConstructorType X → TsConstructorType X
map_ts_constructor_type g f n = record n {
  params = vec_mapped (map_link f) n.params;
  type_params = map_option (map_link f) n.type_params;
  type_ann = map_link f n.type_ann;
}

abbrev pub map_ts_fn_or_constructor_type : {X : Type 0} → (Ident → Ident) → (X → X) → TsFnOrConstructorType X → TsFnOrConstructorType X
map_ts_fn_or_constructor_type g f (ts_fn_or_constructor_types.TsFnType n) = ts_fn_or_constructor_types.TsFnType (map_ts_fn_type g f n)
map_ts_fn_or_constructor_type g f (ts_fn_or_constructor_types.TsConstructorType n) = ts_fn_or_constructor_types.TsConstructorType
    (map_ts_constructor_type g f n)

abbrev pub map_ts_type_ref : {X : Type 0} → (Ident → Ident) → (X → X) → TsTypeRef X → TsTypeRef X
map_ts_type_ref g f n = record n { type_name = map_link f n.type_name; type_params = map_option (map_link f) n.type_params }

abbrev pub map_ts_import_type : {X : Type 0} → (Ident → Ident) → (X → X) → TsImportType X → TsImportType X
map_ts_import_type g f n = record n { qualifier = map_option (map_link f) n.qualifier; type_args = map_option (map_link f) n.type_args }

abbrev pub map_ts_type_query_expr : {X : Type 0} → (Ident → Ident) → (X → X) → TsTypeQueryExpr X → TsTypeQueryExpr X
map_ts_type_query_expr g f (ts_type_query_exprs.TsEntityName n) = ts_type_query_exprs.TsEntityName (map_link f n)
map_ts_type_query_expr g f (ts_type_query_exprs.Import n) = ts_type_query_exprs.Import (map_ts_import_type g f n)

abbrev pub map_ts_type_query : {X : Type 0} → (Ident → Ident) → (X → X) → TsTypeQuery X → TsTypeQuery X
map_ts_type_query g f n = record n { expr_name = map_ts_type_query_expr g f n.expr_name; type_args = map_option (map_link f) n.type_args }

abbrev pub map_ts_call_signature_decl : {X : Type 0} → (Ident → Ident) → (X → X) → TsCallSignatureDecl X → TsCallSignatureDecl X
map_ts_call_signature_decl g f n = record n {
  params = vec_mapped (map_link f) n.params;
  type_ann = map_option (map_link f) n.type_ann;
  type_params = map_option (map_link f) n.type_params;
}

abbrev pub map_ts_construct_signature_decl : {X : Type 0} → (Ident → Ident) → (X → X) → TsConstructSignatureDecl X →
    TsConstructSignatureDecl X
map_ts_construct_signature_decl g f n = record n {
  params = vec_mapped (map_link f) n.params;
  type_ann = map_option (map_link f) n.type_ann;
  type_params = map_option (map_link f) n.type_params;
}

abbrev pub map_ts_property_signature : {X : Type 0} → (Ident → Ident) → (X → X) → TsPropertySignature X → TsPropertySignature X
map_ts_property_signature g f n = record n { key = map_link f n.key; type_ann = map_option (map_link f) n.type_ann }

abbrev pub map_ts_getter_signature : {X : Type 0} → (Ident → Ident) → (X → X) → TsGetterSignature X → TsGetterSignature X
map_ts_getter_signature g f n = record n { key = map_link f n.key; type_ann = map_option (map_link f) n.type_ann }

abbrev pub map_ts_setter_signature : {X : Type 0} → (Ident → Ident) → (X → X) → TsSetterSignature X → TsSetterSignature X
map_ts_setter_signature g f n = record n { key = map_link f n.key; param = map_link f n.param }

abbrev pub map_ts_method_signature : {X : Type 0} → (Ident → Ident) → (X → X) → TsMethodSignature X → TsMethodSignature X
map_ts_method_signature g f n = record n {
  key = map_link f n.key;
  params = vec_mapped (map_link f) n.params;
  type_ann = map_option (map_link f) n.type_ann;
  type_params = map_option (map_link f) n.type_params;
}

abbrev pub map_ts_type_element : {X : Type 0} → (Ident → Ident) → (X → X) → TsTypeElement X → TsTypeElement X
map_ts_type_element g f (ts_type_elements.TsCallSignatureDecl n) = ts_type_elements.TsCallSignatureDecl (map_ts_call_signature_decl g f n)
map_ts_type_element g f (ts_type_elements.TsConstructSignatureDecl n) = ts_type_elements.TsConstructSignatureDecl
    (map_ts_construct_signature_decl g f n)
map_ts_type_element g f (ts_type_elements.TsPropertySignature n) = ts_type_elements.TsPropertySignature (map_ts_property_signature g f n)
map_ts_type_element g f (ts_type_elements.TsGetterSignature n) = ts_type_elements.TsGetterSignature (map_ts_getter_signature g f n)
map_ts_type_element g f (ts_type_elements.TsSetterSignature n) = ts_type_elements.TsSetterSignature (map_ts_setter_signature g f n)
map_ts_type_element g f (ts_type_elements.TsMethodSignature n) = ts_type_elements.TsMethodSignature (map_ts_method_signature g f n)
map_ts_type_element g f (ts_type_elements.TsIndexSignature n) = ts_type_elements.TsIndexSignature (map_ts_index_signature g f n)

abbrev pub map_ts_type_lit : {X : Type 0} → (Ident → Ident) → (X → X) → TsTypeLit X → TsTypeLit X
map_ts_type_lit g f n = record n { members = vec_mapped (map_ts_type_element g f) n.members }

abbrev pub map_ts_array_type : {X : Type 0} → (Ident → Ident) → (X → X) → TsArrayType X → TsArrayType X
map_ts_array_type g f n = record n { elem_type = map_link f n.elem_type }

abbrev pub map_ts_tuple_element : {X : Type 0} → (Ident → Ident) → (X → X) → TsTupleElement X → TsTupleElement X
map_ts_tuple_element g f n = record n { label = map_option (map_link f) n.label; ty = map_link f n.ty }

abbrev pub map_ts_tuple_type : {X : Type 0} → (Ident → Ident) → (X → X) → TsTupleType X → TsTupleType X
map_ts_tuple_type g f n = record n { elem_types = vec_mapped (map_ts_tuple_element g f) n.elem_types }

abbrev pub map_ts_optional_type : {X : Type 0} → (Ident → Ident) → (X → X) → TsOptionalType X → TsOptionalType X
map_ts_optional_type g f n = record n { type_ann = map_link f n.type_ann }

abbrev pub map_ts_rest_type : {X : Type 0} → (Ident → Ident) → (X → X) → TsRestType X → TsRestType X
map_ts_rest_type g f n = record n { type_ann = map_link f n.type_ann }

abbrev pub map_ts_union_type : {X : Type 0} → (Ident → Ident) → (X → X) → TsUnionType X → TsUnionType X
map_ts_union_type g f n = record n { types = vec_mapped (map_link f) n.types }

abbrev pub map_ts_intersection_type : {X : Type 0} → (Ident → Ident) → (X → X) → TsIntersectionType X → TsIntersectionType X
map_ts_intersection_type g f n = record n { types = vec_mapped (map_link f) n.types }

abbrev pub map_ts_union_or_intersection_type : {X : Type 0} → (Ident → Ident) → (X → X) → TsUnionOrIntersectionType X →
    TsUnionOrIntersectionType X
map_ts_union_or_intersection_type g f (ts_union_or_intersection_types.TsUnionType n) = ts_union_or_intersection_types.TsUnionType
    (map_ts_union_type g f n)
map_ts_union_or_intersection_type g f (ts_union_or_intersection_types.TsIntersectionType n) =
    ts_union_or_intersection_types.TsIntersectionType (map_ts_intersection_type g f n)

abbrev pub map_ts_conditional_type : {X : Type 0} → (Ident → Ident) → (X → X) → TsConditionalType X → TsConditionalType X
map_ts_conditional_type g f n = record n {
  check_type = map_link f n.check_type;
  extends_type = map_link f n.extends_type;
  true_type = map_link f n.true_type;
  false_type = map_link f n.false_type;
}

abbrev pub map_ts_type_param : {X : Type 0} → (Ident → Ident) → (X → X) → TsTypeParam X → TsTypeParam X
map_ts_type_param g f n = record n {
  name = g n.name;
  constraint = map_option (map_link f) n.constraint;
  default = map_option (map_link f) n.default;
}

abbrev pub map_ts_infer_type : {X : Type 0} → (Ident → Ident) → (X → X) → TsInferType X → TsInferType X
map_ts_infer_type g f n = record n { type_param = map_ts_type_param g f n.type_param }

abbrev pub map_ts_parenthesized_type : {X : Type 0} → (Ident → Ident) → (X → X) → TsParenthesizedType X → TsParenthesizedType X
map_ts_parenthesized_type g f n = record n { type_ann = map_link f n.type_ann }

abbrev pub map_ts_type_operator : {X : Type 0} → (Ident → Ident) → (X → X) → TsTypeOperator X → TsTypeOperator X
map_ts_type_operator g f n = record n { type_ann = map_link f n.type_ann }

abbrev pub map_ts_indexed_access_type : {X : Type 0} → (Ident → Ident) → (X → X) → TsIndexedAccessType X → TsIndexedAccessType X
map_ts_indexed_access_type g f n = record n { obj_type = map_link f n.obj_type; index_type = map_link f n.index_type }

abbrev pub map_ts_mapped_type : {X : Type 0} → (Ident → Ident) → (X → X) → TsMappedType X → TsMappedType X
map_ts_mapped_type g f n = record n {
  type_param = map_ts_type_param g f n.type_param;
  name_type = map_option (map_link f) n.name_type;
  type_ann = map_option (map_link f) n.type_ann;
}

abbrev pub map_ts_tpl_lit_type : {X : Type 0} → (Ident → Ident) → (X → X) → TsTplLitType X → TsTplLitType X
map_ts_tpl_lit_type g f n = record n { types = vec_mapped (map_link f) n.types }

abbrev pub map_ts_lit : {X : Type 0} → (Ident → Ident) → (X → X) → TsLit X → TsLit X
map_ts_lit g f (ts_lits.Number n) = ts_lits.Number n
map_ts_lit g f (ts_lits.Str n) = ts_lits.Str n
map_ts_lit g f (ts_lits.Bool n) = ts_lits.Bool n
map_ts_lit g f (ts_lits.BigInt n) = ts_lits.BigInt n
map_ts_lit g f (ts_lits.Tpl n) = ts_lits.Tpl (map_ts_tpl_lit_type g f n)

abbrev pub map_ts_lit_type : {X : Type 0} → (Ident → Ident) → (X → X) → TsLitType X → TsLitType X
map_ts_lit_type g f n = record n { lit = map_ts_lit g f n.lit }

abbrev pub map_ts_this_type_or_ident : (Ident → Ident) → TsThisTypeOrIdent → TsThisTypeOrIdent
map_ts_this_type_or_ident g (ts_this_type_or_idents.TsThisType n) = ts_this_type_or_idents.TsThisType n
map_ts_this_type_or_ident g (ts_this_type_or_idents.Ident n) = ts_this_type_or_idents.Ident (g n)

abbrev pub map_ts_type_predicate : {X : Type 0} → (Ident → Ident) → (X → X) → TsTypePredicate X → TsTypePredicate X
map_ts_type_predicate g f n = record n {
  param_name = map_ts_this_type_or_ident g n.param_name;
  type_ann = map_option (map_link f) n.type_ann;
}

abbrev pub map_ts_type : {X : Type 0} → (Ident → Ident) → (X → X) → TsType X → TsType X
map_ts_type g f (ts_types.TsKeywordType n) = ts_types.TsKeywordType n
map_ts_type g f (ts_types.TsThisType n) = ts_types.TsThisType n
map_ts_type g f (ts_types.TsFnOrConstructorType n) = ts_types.TsFnOrConstructorType (map_box (map_ts_fn_or_constructor_type g f) n)
map_ts_type g f (ts_types.TsTypeRef n) = ts_types.TsTypeRef (map_ts_type_ref g f n)
map_ts_type g f (ts_types.TsTypeQuery n) = ts_types.TsTypeQuery (map_box (map_ts_type_query g f) n)
map_ts_type g f (ts_types.TsTypeLit n) = ts_types.TsTypeLit (map_ts_type_lit g f n)
map_ts_type g f (ts_types.TsArrayType n) = ts_types.TsArrayType (map_ts_array_type g f n)
map_ts_type g f (ts_types.TsTupleType n) = ts_types.TsTupleType (map_ts_tuple_type g f n)
map_ts_type g f (ts_types.TsOptionalType n) = ts_types.TsOptionalType (map_ts_optional_type g f n)
map_ts_type g f (ts_types.TsRestType n) = ts_types.TsRestType (map_ts_rest_type g f n)
map_ts_type g f (ts_types.TsUnionOrIntersectionType n) = ts_types.TsUnionOrIntersectionType (map_ts_union_or_intersection_type g f n)
map_ts_type g f (ts_types.TsConditionalType n) = ts_types.TsConditionalType (map_ts_conditional_type g f n)
map_ts_type g f (ts_types.TsInferType n) = ts_types.TsInferType (map_box (map_ts_infer_type g f) n)
map_ts_type g f (ts_types.TsParenthesizedType n) = ts_types.TsParenthesizedType (map_ts_parenthesized_type g f n)
map_ts_type g f (ts_types.TsTypeOperator n) = ts_types.TsTypeOperator (map_ts_type_operator g f n)
map_ts_type g f (ts_types.TsIndexedAccessType n) = ts_types.TsIndexedAccessType (map_ts_indexed_access_type g f n)
map_ts_type g f (ts_types.TsMappedType n) = ts_types.TsMappedType (map_box (map_ts_mapped_type g f) n)
map_ts_type g f (ts_types.TsLitType n) = ts_types.TsLitType (map_box (map_ts_lit_type g f) n)
map_ts_type g f (ts_types.TsTypePredicate n) = ts_types.TsTypePredicate (map_box (map_ts_type_predicate g f) n)
map_ts_type g f (ts_types.TsImportType n) = ts_types.TsImportType (map_box (map_ts_import_type g f) n)

abbrev pub map_ts_type_ann : {X : Type 0} → (Ident → Ident) → (X → X) → TsTypeAnn X → TsTypeAnn X
map_ts_type_ann g f n = record n { type_ann = map_ts_type g f n.type_ann }

abbrev pub map_ts_type_param_decl : {X : Type 0} → (Ident → Ident) → (X → X) → TsTypeParamDecl X → TsTypeParamDecl X
map_ts_type_param_decl g f n = record n { params = vec_mapped (map_ts_type_param g f) n.params }

abbrev pub map_ts_type_param_instantiation : {X : Type 0} → (Ident → Ident) → (X → X) → TsTypeParamInstantiation X →
    TsTypeParamInstantiation X
map_ts_type_param_instantiation g f n = record n { params = vec_mapped (map_link f) n.params }

abbrev pub map_ts_fn_param : {X : Type 0} → (Ident → Ident) → (X → X) → TsFnParam X → TsFnParam X
map_ts_fn_param g f (ts_fn_params.Ident n) = ts_fn_params.Ident (map_binding_ident g f n)
map_ts_fn_param g f (ts_fn_params.Array n) = ts_fn_params.Array (map_array_pat g f n)
map_ts_fn_param g f (ts_fn_params.Rest n) = ts_fn_params.Rest (map_rest_pat g f n)
map_ts_fn_param g f (ts_fn_params.Object n) = ts_fn_params.Object (map_object_pat g f n)

abbrev pub map_ts_interface_body : {X : Type 0} → (Ident → Ident) → (X → X) → TsInterfaceBody X → TsInterfaceBody X
map_ts_interface_body g f n = record n { body = vec_mapped (map_ts_type_element g f) n.body }

abbrev pub map_ts_qualified_name : {X : Type 0} → (Ident → Ident) → (X → X) → TsQualifiedName X → TsQualifiedName X
map_ts_qualified_name g f n = record n { left = map_link f n.left }

abbrev pub map_ts_entity_name : {X : Type 0} → (Ident → Ident) → (X → X) → TsEntityName X → TsEntityName X
map_ts_entity_name g f (ts_entity_names.TsQualifiedName n) = ts_entity_names.TsQualifiedName (map_ts_qualified_name g f n)
map_ts_entity_name g f (ts_entity_names.Ident n) = ts_entity_names.Ident (g n)
