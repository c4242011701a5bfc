-- Where the map of types of TypeScript is another map of the same type, with names as they are. Made by scripts/dev/make-visit-files.
use Rattle.std.proofs.Common.{◌≡◌, refl, ap, ◌∙◌, Option}
use Rattle.std.specs.Prelude.{Box}
use Rattle.std.specs.declared.alloc.Global.{Global}
use Rattle.std.specs.declared.vec.Vec.{Vec}
use Rattle.std.specs.formers.vec.Vec.{mapped as vec_mapped}
use Rattle.swc_ecma_codegen_tree.specs.declared.pats.ArrayPat.{ArrayPat}
use Rattle.swc_ecma_codegen_tree.specs.declared.lits.BigInt.{BigInt}
use Rattle.swc_ecma_codegen_tree.specs.declared.idents.BindingIdent.{BindingIdent}
use Rattle.swc_ecma_codegen_tree.specs.declared.lits.Bool.{Bool}
use Rattle.swc_ecma_codegen_tree.specs.declared.idents.Ident.{Ident}
use Rattle.swc_ecma_codegen_tree.specs.declared.lits.Number.{Number}
use Rattle.swc_ecma_codegen_tree.specs.declared.pats.ObjectPat.{ObjectPat}
use Rattle.swc_ecma_codegen_tree.specs.declared.pats.RestPat.{RestPat}
use Rattle.swc_ecma_codegen_tree.specs.declared.lits.Str.{Str}
use Rattle.swc_ecma_codegen_tree.specs.declared.ts_types.TsArrayType.{TsArrayType}
use Rattle.swc_ecma_codegen_tree.specs.declared.ts_members.TsCallSignatureDecl.{TsCallSignatureDecl}
use Rattle.swc_ecma_codegen_tree.specs.declared.ts_types.TsConditionalType.{TsConditionalType}
use Rattle.swc_ecma_codegen_tree.specs.declared.ts_members.TsConstructSignatureDecl.{TsConstructSignatureDecl}
use Rattle.swc_ecma_codegen_tree.specs.declared.ts_types.TsConstructorType.{TsConstructorType}
use Rattle.swc_ecma_codegen_tree.specs.declared.ts_types.TsEntityName.{TsEntityName}
use Rattle.swc_ecma_codegen_tree.specs.declared.ts_types.TsFnOrConstructorType.{TsFnOrConstructorType}
use Rattle.swc_ecma_codegen_tree.specs.declared.ts_types.TsFnParam.{TsFnParam}
use Rattle.swc_ecma_codegen_tree.specs.declared.ts_types.TsFnType.{TsFnType}
use Rattle.swc_ecma_codegen_tree.specs.declared.ts_members.TsGetterSignature.{TsGetterSignature}
use Rattle.swc_ecma_codegen_tree.specs.declared.ts_types.TsImportType.{TsImportType}
use Rattle.swc_ecma_codegen_tree.specs.declared.ts_members.TsIndexSignature.{TsIndexSignature}
use Rattle.swc_ecma_codegen_tree.specs.declared.ts_types.TsIndexedAccessType.{TsIndexedAccessType}
use Rattle.swc_ecma_codegen_tree.specs.declared.ts_types.TsInferType.{TsInferType}
use Rattle.swc_ecma_codegen_tree.specs.declared.ts_members.TsInterfaceBody.{TsInterfaceBody}
use Rattle.swc_ecma_codegen_tree.specs.declared.ts_types.TsIntersectionType.{TsIntersectionType}
use Rattle.swc_ecma_codegen_tree.specs.declared.ts_types.TsKeywordType.{TsKeywordType}
use Rattle.swc_ecma_codegen_tree.specs.declared.ts_types.TsLit.{TsLit}
use Rattle.swc_ecma_codegen_tree.specs.declared.ts_types.TsLitType.{TsLitType}
use Rattle.swc_ecma_codegen_tree.specs.declared.ts_types.TsMappedType.{TsMappedType}
use Rattle.swc_ecma_codegen_tree.specs.declared.ts_members.TsMethodSignature.{TsMethodSignature}
use Rattle.swc_ecma_codegen_tree.specs.declared.ts_types.TsOptionalType.{TsOptionalType}
use Rattle.swc_ecma_codegen_tree.specs.declared.ts_types.TsParenthesizedType.{TsParenthesizedType}
use Rattle.swc_ecma_codegen_tree.specs.declared.ts_members.TsPropertySignature.{TsPropertySignature}
use Rattle.swc_ecma_codegen_tree.specs.declared.ts_types.TsQualifiedName.{TsQualifiedName}
use Rattle.swc_ecma_codegen_tree.specs.declared.ts_types.TsRestType.{TsRestType}
use Rattle.swc_ecma_codegen_tree.specs.declared.ts_members.TsSetterSignature.{TsSetterSignature}
use Rattle.swc_ecma_codegen_tree.specs.declared.ts_types.TsThisType.{TsThisType}
use Rattle.swc_ecma_codegen_tree.specs.declared.ts_types.TsThisTypeOrIdent.{TsThisTypeOrIdent}
use Rattle.swc_ecma_codegen_tree.specs.declared.ts_types.TsTplLitType.{TsTplLitType}
use Rattle.swc_ecma_codegen_tree.specs.declared.ts_types.TsTupleElement.{TsTupleElement}
use Rattle.swc_ecma_codegen_tree.specs.declared.ts_types.TsTupleType.{TsTupleType}
use Rattle.swc_ecma_codegen_tree.specs.declared.ts_types.TsType.{TsType}
use Rattle.swc_ecma_codegen_tree.specs.declared.ts_types.TsTypeAnn.{TsTypeAnn}
use Rattle.swc_ecma_codegen_tree.specs.declared.ts_members.TsTypeElement.{TsTypeElement}
use Rattle.swc_ecma_codegen_tree.specs.declared.ts_types.TsTypeLit.{TsTypeLit}
use Rattle.swc_ecma_codegen_tree.specs.declared.ts_types.TsTypeOperator.{TsTypeOperator}
use Rattle.swc_ecma_codegen_tree.specs.declared.ts_types.TsTypeParam.{TsTypeParam}
use Rattle.swc_ecma_codegen_tree.specs.declared.ts_types.TsTypeParamDecl.{TsTypeParamDecl}
use Rattle.swc_ecma_codegen_tree.specs.declared.ts_types.TsTypePredicate.{TsTypePredicate}
use Rattle.swc_ecma_codegen_tree.specs.declared.ts_types.TsTypeQuery.{TsTypeQuery}
use Rattle.swc_ecma_codegen_tree.specs.declared.ts_types.TsTypeQueryExpr.{TsTypeQueryExpr}
use Rattle.swc_ecma_codegen_tree.specs.declared.ts_types.TsTypeRef.{TsTypeRef}
use Rattle.swc_ecma_codegen_tree.specs.declared.ts_types.TsUnionOrIntersectionType.{TsUnionOrIntersectionType}
use Rattle.swc_ecma_codegen_tree.specs.declared.ts_types.TsUnionType.{TsUnionType}
use Rattle.swc_ecma_codegen_tree.specs.declared.ts_types.TsEntityName.TheVariants as ts_entity_names
use Rattle.swc_ecma_codegen_tree.specs.declared.ts_types.TsFnOrConstructorType.TheVariants as ts_fn_or_constructor_types
use Rattle.swc_ecma_codegen_tree.specs.declared.ts_types.TsFnParam.TheVariants as ts_fn_params
use Rattle.swc_ecma_codegen_tree.specs.declared.ts_types.TsLit.TheVariants as ts_lits
use Rattle.swc_ecma_codegen_tree.specs.declared.ts_types.TsThisTypeOrIdent.TheVariants as ts_this_type_or_idents
use Rattle.swc_ecma_codegen_tree.specs.declared.ts_types.TsType.TheVariants as ts_types
use Rattle.swc_ecma_codegen_tree.specs.declared.ts_members.TsTypeElement.TheVariants as ts_type_elements
use Rattle.swc_ecma_codegen_tree.specs.declared.ts_types.TsTypeQueryExpr.TheVariants as ts_type_query_exprs
use Rattle.swc_ecma_codegen_tree.specs.declared.ts_types.TsUnionOrIntersectionType.TheVariants as ts_union_or_intersection_types
use Rattle.swc_ecma_codegen_tree.specs.Links.{PatBox, TsEntityNameBox, TsTypeAnnBox, TsTypeBox, TsTypeParamDeclBox}
use Rattle.swc_ecma_codegen_tree.specs.Links.{TsTypeParamInstantiationBox}
use Rattle.swc_ecma_codegen_visit.specs.Mapping.{map_box, map_link, map_option}
use Rattle.swc_ecma_codegen_visit.specs.MappedIdents.{map_binding_ident}
use Rattle.swc_ecma_codegen_visit.specs.MappedPats.{map_array_pat, map_object_pat, map_rest_pat}
use Rattle.swc_ecma_codegen_visit.specs.MappedTsTypes.{map_ts_array_type, map_ts_call_signature_decl, map_ts_conditional_type}
use Rattle.swc_ecma_codegen_visit.specs.MappedTsTypes.{map_ts_construct_signature_decl, map_ts_constructor_type, map_ts_entity_name}
use Rattle.swc_ecma_codegen_visit.specs.MappedTsTypes.{map_ts_fn_or_constructor_type, map_ts_fn_param, map_ts_fn_type}
use Rattle.swc_ecma_codegen_visit.specs.MappedTsTypes.{map_ts_getter_signature, map_ts_import_type, map_ts_index_signature}
use Rattle.swc_ecma_codegen_visit.specs.MappedTsTypes.{map_ts_indexed_access_type, map_ts_infer_type, map_ts_interface_body}
use Rattle.swc_ecma_codegen_visit.specs.MappedTsTypes.{map_ts_intersection_type, map_ts_lit, map_ts_lit_type, map_ts_mapped_type}
use Rattle.swc_ecma_codegen_visit.specs.MappedTsTypes.{map_ts_method_signature, map_ts_optional_type, map_ts_parenthesized_type}
use Rattle.swc_ecma_codegen_visit.specs.MappedTsTypes.{map_ts_property_signature, map_ts_qualified_name, map_ts_rest_type}
use Rattle.swc_ecma_codegen_visit.specs.MappedTsTypes.{map_ts_setter_signature, map_ts_this_type_or_ident, map_ts_tpl_lit_type}
use Rattle.swc_ecma_codegen_visit.specs.MappedTsTypes.{map_ts_tuple_element, map_ts_tuple_type, map_ts_type, map_ts_type_ann}
use Rattle.swc_ecma_codegen_visit.specs.MappedTsTypes.{map_ts_type_element, map_ts_type_lit, map_ts_type_operator, map_ts_type_param}
use Rattle.swc_ecma_codegen_visit.specs.MappedTsTypes.{map_ts_type_param_decl, map_ts_type_predicate, map_ts_type_query}
use Rattle.swc_ecma_codegen_visit.specs.MappedTsTypes.{map_ts_type_query_expr, map_ts_type_ref, map_ts_union_or_intersection_type}
use Rattle.swc_ecma_codegen_visit.specs.MappedTsTypes.{map_ts_union_type}

pub in_ts_index_signature : {X : Type 0} (f : X → X) (D : TsIndexSignature X → TsIndexSignature X)
    {to_a : Option (TsTypeAnnBox X) → Option (TsTypeAnnBox X)} → ((n : TsIndexSignature X) (a : Option (TsTypeAnnBox X)) → record n
    { params = vec_mapped (map_link f) n.params; type_ann = to_a a } ≡ D (record n { type_ann = a })) → ((x : Option (TsTypeAnnBox X)) →
    map_option (map_link f) x ≡ to_a x) → (n : TsIndexSignature X) → map_ts_index_signature (λ x. x) f n ≡ D n
in_ts_index_signature f D is at_a n = (λ i. record n { params = vec_mapped (map_link f) n.params; type_ann = at_a n.type_ann i }) ∙ is n
    n.type_ann

pub in_ts_fn_type : {X : Type 0} (f : X → X) (D : TsFnType X → TsFnType X)
    {to_a : Option (TsTypeParamDeclBox X) → Option (TsTypeParamDeclBox X)} → ((n : TsFnType X) (a : Option (TsTypeParamDeclBox X)) → record
    n { params = vec_mapped (map_link f) n.params; type_params = to_a a; type_ann = map_link f n.type_ann } ≡ D (record n
    { type_params = a })) → ((x : Option (TsTypeParamDeclBox X)) → map_option (map_link f) x ≡ to_a x) → (n : TsFnType X) → map_ts_fn_type
    (λ x. x) f n ≡ D n
in_ts_fn_type f D is at_a n = (λ i. record n
    { params = vec_mapped (map_link f) n.params; type_params = at_a n.type_params i; type_ann = map_link f n.type_ann }) ∙ is n
    n.type_params

pub in_ts_constructor_type : {X : Type 0} (f : X → X) (D : TsConstructorType X → TsConstructorType X)
    {to_a : Option (TsTypeParamDeclBox X) → Option (TsTypeParamDeclBox X)} → ((n : TsConstructorType X) (a : Option (TsTypeParamDeclBox X))
    → record n { params = vec_mapped (map_link f) n.params; type_params = to_a a; type_ann = map_link f n.type_ann } ≡ D (record n
    { type_params = a })) → ((x : Option (TsTypeParamDeclBox X)) → map_option (map_link f) x ≡ to_a x) → (n : TsConstructorType X) →
    map_ts_constructor_type (λ x. x) f n ≡ D n
in_ts_constructor_type f D is at_a n = (λ i. record n
    { params = vec_mapped (map_link f) n.params; type_params = at_a n.type_params i; type_ann = map_link f n.type_ann }) ∙ is n
    n.type_params

pub in_ts_fn_or_constructor_type : {X : Type 0} (f : X → X) (D : TsFnOrConstructorType X → TsFnOrConstructorType X)
    {to_TsFnType : TsFnType X → TsFnType X} {to_TsConstructorType : TsConstructorType X → TsConstructorType X} → ((n : TsFnType X) →
    ts_fn_or_constructor_types.TsFnType (to_TsFnType n) ≡ D (ts_fn_or_constructor_types.TsFnType n)) → ((n : TsFnType X) → map_ts_fn_type (λ
    x. x) f n ≡ to_TsFnType n) → ((n : TsConstructorType X) → ts_fn_or_constructor_types.TsConstructorType (to_TsConstructorType n) ≡ D
    (ts_fn_or_constructor_types.TsConstructorType n)) → ((n : TsConstructorType X) → map_ts_constructor_type (λ x. x) f n ≡
    to_TsConstructorType n) → (n : TsFnOrConstructorType X) → map_ts_fn_or_constructor_type (λ x. x) f n ≡ D n
in_ts_fn_or_constructor_type f D is_TsFnType at_TsFnType is_TsConstructorType at_TsConstructorType (ts_fn_or_constructor_types.TsFnType n) =
    ap ts_fn_or_constructor_types.TsFnType (at_TsFnType n) ∙ is_TsFnType n
in_ts_fn_or_constructor_type f D is_TsFnType at_TsFnType is_TsConstructorType at_TsConstructorType
    (ts_fn_or_constructor_types.TsConstructorType n) = ap ts_fn_or_constructor_types.TsConstructorType (at_TsConstructorType n) ∙
    is_TsConstructorType n

pub in_ts_type_ref : {X : Type 0} (f : X → X) (D : TsTypeRef X → TsTypeRef X)
    {to_a : Option (TsTypeParamInstantiationBox X) → Option (TsTypeParamInstantiationBox X)} → ((n : TsTypeRef X) (a : Option
    (TsTypeParamInstantiationBox X)) → record n { type_name = map_link f n.type_name; type_params = to_a a } ≡ D (record n
    { type_params = a })) → ((x : Option (TsTypeParamInstantiationBox X)) → map_option (map_link f) x ≡ to_a x) → (n : TsTypeRef X) →
    map_ts_type_ref (λ x. x) f n ≡ D n
in_ts_type_ref f D is at_a n = (λ i. record n { type_name = map_link f n.type_name; type_params = at_a n.type_params i }) ∙ is n
    n.type_params

pub in_ts_import_type : {X : Type 0} (f : X → X) (D : TsImportType X → TsImportType X)
    {to_a : Option (TsEntityNameBox X) → Option (TsEntityNameBox X)}
    {to_b : Option (TsTypeParamInstantiationBox X) → Option (TsTypeParamInstantiationBox X)} → ((n : TsImportType X) (a : Option
    (TsEntityNameBox X)) (b : Option (TsTypeParamInstantiationBox X)) → record n { qualifier = to_a a; type_args = to_b b } ≡ D (record n
    { qualifier = a; type_args = b })) → ((x : Option (TsEntityNameBox X)) → map_option (map_link f) x ≡ to_a x) → ((x : Option
    (TsTypeParamInstantiationBox X)) → map_option (map_link f) x ≡ to_b x) → (n : TsImportType X) → map_ts_import_type (λ x. x) f n ≡ D n
in_ts_import_type f D is at_a at_b n = (λ i. record n { qualifier = at_a n.qualifier i; type_args = at_b n.type_args i }) ∙ is n n.qualifier
    n.type_args

pub in_ts_type_query_expr : {X : Type 0} (f : X → X) (D : TsTypeQueryExpr X → TsTypeQueryExpr X)
    {to_Import : TsImportType X → TsImportType X} → ((n : TsEntityNameBox X) → ts_type_query_exprs.TsEntityName (map_link f n) ≡ D
    (ts_type_query_exprs.TsEntityName n)) → ((n : TsImportType X) → ts_type_query_exprs.Import (to_Import n) ≡ D (ts_type_query_exprs.Import
    n)) → ((n : TsImportType X) → map_ts_import_type (λ x. x) f n ≡ to_Import n) → (n : TsTypeQueryExpr X) → map_ts_type_query_expr (λ x. x)
    f n ≡ D n
in_ts_type_query_expr f D is_TsEntityName is_Import at_Import (ts_type_query_exprs.TsEntityName n) = is_TsEntityName n
in_ts_type_query_expr f D is_TsEntityName is_Import at_Import (ts_type_query_exprs.Import n) = ap ts_type_query_exprs.Import (at_Import n) ∙
    is_Import n

pub in_ts_type_query : {X : Type 0} (f : X → X) (D : TsTypeQuery X → TsTypeQuery X) {to_a : TsTypeQueryExpr X → TsTypeQueryExpr X}
    {to_b : Option (TsTypeParamInstantiationBox X) → Option (TsTypeParamInstantiationBox X)} → ((n : TsTypeQuery X) (a : TsTypeQueryExpr X)
    (b : Option (TsTypeParamInstantiationBox X)) → record n { expr_name = to_a a; type_args = to_b b } ≡ D (record n
    { expr_name = a; type_args = b })) → ((x : TsTypeQueryExpr X) → map_ts_type_query_expr (λ x. x) f x ≡ to_a x) → ((x : Option
    (TsTypeParamInstantiationBox X)) → map_option (map_link f) x ≡ to_b x) → (n : TsTypeQuery X) → map_ts_type_query (λ x. x) f n ≡ D n
in_ts_type_query f D is at_a at_b n = (λ i. record n { expr_name = at_a n.expr_name i; type_args = at_b n.type_args i }) ∙ is n n.expr_name
    n.type_args

pub in_ts_call_signature_decl : {X : Type 0} (f : X → X) (D : TsCallSignatureDecl X → TsCallSignatureDecl X)
    {to_a : Option (TsTypeAnnBox X) → Option (TsTypeAnnBox X)} {to_b : Option (TsTypeParamDeclBox X) → Option (TsTypeParamDeclBox X)} → ((n
    : TsCallSignatureDecl X) (a : Option (TsTypeAnnBox X)) (b : Option (TsTypeParamDeclBox X)) → record n
    { params = vec_mapped (map_link f) n.params; type_ann = to_a a; type_params = to_b b } ≡ D (record n { type_ann = a; type_params = b }))
    → ((x : Option (TsTypeAnnBox X)) → map_option (map_link f) x ≡ to_a x) → ((x : Option (TsTypeParamDeclBox X)) → map_option (map_link f)
    x ≡ to_b x) → (n : TsCallSignatureDecl X) → map_ts_call_signature_decl (λ x. x) f n ≡ D n
in_ts_call_signature_decl f D is at_a at_b n = (λ i. record n
    { params = vec_mapped (map_link f) n.params; type_ann = at_a n.type_ann i; type_params = at_b n.type_params i }) ∙ is n n.type_ann
    n.type_params

pub in_ts_construct_signature_decl : {X : Type 0} (f : X → X) (D : TsConstructSignatureDecl X → TsConstructSignatureDecl X)
    {to_a : Option (TsTypeAnnBox X) → Option (TsTypeAnnBox X)} {to_b : Option (TsTypeParamDeclBox X) → Option (TsTypeParamDeclBox X)} → ((n
    : TsConstructSignatureDecl X) (a : Option (TsTypeAnnBox X)) (b : Option (TsTypeParamDeclBox X)) → record n
    { params = vec_mapped (map_link f) n.params; type_ann = to_a a; type_params = to_b b } ≡ D (record n { type_ann = a; type_params = b }))
    → ((x : Option (TsTypeAnnBox X)) → map_option (map_link f) x ≡ to_a x) → ((x : Option (TsTypeParamDeclBox X)) → map_option (map_link f)
    x ≡ to_b x) → (n : TsConstructSignatureDecl X) → map_ts_construct_signature_decl (λ x. x) f n ≡ D n
in_ts_construct_signature_decl f D is at_a at_b n = (λ i. record n
    { params = vec_mapped (map_link f) n.params; type_ann = at_a n.type_ann i; type_params = at_b n.type_params i }) ∙ is n n.type_ann
    n.type_params

pub in_ts_property_signature : {X : Type 0} (f : X → X) (D : TsPropertySignature X → TsPropertySignature X)
    {to_a : Option (TsTypeAnnBox X) → Option (TsTypeAnnBox X)} → ((n : TsPropertySignature X) (a : Option (TsTypeAnnBox X)) → record n
    { key = map_link f n.key; type_ann = to_a a } ≡ D (record n { type_ann = a })) → ((x : Option (TsTypeAnnBox X)) → map_option (map_link
    f) x ≡ to_a x) → (n : TsPropertySignature X) → map_ts_property_signature (λ x. x) f n ≡ D n
in_ts_property_signature f D is at_a n = (λ i. record n { key = map_link f n.key; type_ann = at_a n.type_ann i }) ∙ is n n.type_ann

pub in_ts_getter_signature : {X : Type 0} (f : X → X) (D : TsGetterSignature X → TsGetterSignature X)
    {to_a : Option (TsTypeAnnBox X) → Option (TsTypeAnnBox X)} → ((n : TsGetterSignature X) (a : Option (TsTypeAnnBox X)) → record n
    { key = map_link f n.key; type_ann = to_a a } ≡ D (record n { type_ann = a })) → ((x : Option (TsTypeAnnBox X)) → map_option (map_link
    f) x ≡ to_a x) → (n : TsGetterSignature X) → map_ts_getter_signature (λ x. x) f n ≡ D n
in_ts_getter_signature f D is at_a n = (λ i. record n { key = map_link f n.key; type_ann = at_a n.type_ann i }) ∙ is n n.type_ann

pub in_ts_method_signature : {X : Type 0} (f : X → X) (D : TsMethodSignature X → TsMethodSignature X)
    {to_a : Option (TsTypeAnnBox X) → Option (TsTypeAnnBox X)} {to_b : Option (TsTypeParamDeclBox X) → Option (TsTypeParamDeclBox X)} → ((n
    : TsMethodSignature X) (a : Option (TsTypeAnnBox X)) (b : Option (TsTypeParamDeclBox X)) → record n
    { key = map_link f n.key; params = vec_mapped (map_link f) n.params; type_ann = to_a a; type_params = to_b b } ≡ D (record n
    { type_ann = a; type_params = b })) → ((x : Option (TsTypeAnnBox X)) → map_option (map_link f) x ≡ to_a x) → ((x : Option
    (TsTypeParamDeclBox X)) → map_option (map_link f) x ≡ to_b x) → (n : TsMethodSignature X) → map_ts_method_signature (λ x. x) f n ≡ D n
in_ts_method_signature f D is at_a at_b n = (λ i. record n
    { key = map_link f n.key; params = vec_mapped (map_link f) n.params; type_ann = at_a n.type_ann i; type_params = at_b n.type_params i })
    ∙ is n n.type_ann n.type_params

pub in_ts_type_element : {X : Type 0} (f : X → X) (D : TsTypeElement X → TsTypeElement X)
    {to_TsCallSignatureDecl : TsCallSignatureDecl X → TsCallSignatureDecl X}
    {to_TsConstructSignatureDecl : TsConstructSignatureDecl X → TsConstructSignatureDecl X}
    {to_TsPropertySignature : TsPropertySignature X → TsPropertySignature X}
    {to_TsGetterSignature : TsGetterSignature X → TsGetterSignature X} {to_TsMethodSignature : TsMethodSignature X → TsMethodSignature X}
    {to_TsIndexSignature : TsIndexSignature X → TsIndexSignature X} → ((n : TsCallSignatureDecl X) → ts_type_elements.TsCallSignatureDecl
    (to_TsCallSignatureDecl n) ≡ D (ts_type_elements.TsCallSignatureDecl n)) → ((n : TsCallSignatureDecl X) → map_ts_call_signature_decl (λ
    x. x) f n ≡ to_TsCallSignatureDecl n) → ((n : TsConstructSignatureDecl X) → ts_type_elements.TsConstructSignatureDecl
    (to_TsConstructSignatureDecl n) ≡ D (ts_type_elements.TsConstructSignatureDecl n)) → ((n : TsConstructSignatureDecl X) →
    map_ts_construct_signature_decl (λ x. x) f n ≡ to_TsConstructSignatureDecl n) → ((n : TsPropertySignature X) →
    ts_type_elements.TsPropertySignature (to_TsPropertySignature n) ≡ D (ts_type_elements.TsPropertySignature n)) → ((n :
    TsPropertySignature X) → map_ts_property_signature (λ x. x) f n ≡ to_TsPropertySignature n) → ((n : TsGetterSignature X) →
    ts_type_elements.TsGetterSignature (to_TsGetterSignature n) ≡ D (ts_type_elements.TsGetterSignature n)) → ((n : TsGetterSignature X) →
    map_ts_getter_signature (λ x. x) f n ≡ to_TsGetterSignature n) → ((n : TsSetterSignature X) → ts_type_elements.TsSetterSignature
    (map_ts_setter_signature (λ x. x) f n) ≡ D (ts_type_elements.TsSetterSignature n)) → ((n : TsMethodSignature X) →
    ts_type_elements.TsMethodSignature (to_TsMethodSignature n) ≡ D (ts_type_elements.TsMethodSignature n)) → ((n : TsMethodSignature X) →
    map_ts_method_signature (λ x. x) f n ≡ to_TsMethodSignature n) → ((n : TsIndexSignature X) → ts_type_elements.TsIndexSignature
    (to_TsIndexSignature n) ≡ D (ts_type_elements.TsIndexSignature n)) → ((n : TsIndexSignature X) → map_ts_index_signature (λ x. x) f n ≡
    to_TsIndexSignature n) → (n : TsTypeElement X) → map_ts_type_element (λ x. x) f n ≡ D n
in_ts_type_element f D is_TsCallSignatureDecl at_TsCallSignatureDecl is_TsConstructSignatureDecl at_TsConstructSignatureDecl
    is_TsPropertySignature at_TsPropertySignature is_TsGetterSignature at_TsGetterSignature is_TsSetterSignature is_TsMethodSignature
    at_TsMethodSignature is_TsIndexSignature at_TsIndexSignature (ts_type_elements.TsCallSignatureDecl n) = ap
    ts_type_elements.TsCallSignatureDecl (at_TsCallSignatureDecl n) ∙ is_TsCallSignatureDecl n
in_ts_type_element f D is_TsCallSignatureDecl at_TsCallSignatureDecl is_TsConstructSignatureDecl at_TsConstructSignatureDecl
    is_TsPropertySignature at_TsPropertySignature is_TsGetterSignature at_TsGetterSignature is_TsSetterSignature is_TsMethodSignature
    at_TsMethodSignature is_TsIndexSignature at_TsIndexSignature (ts_type_elements.TsConstructSignatureDecl n) = ap
    ts_type_elements.TsConstructSignatureDecl (at_TsConstructSignatureDecl n) ∙ is_TsConstructSignatureDecl n
in_ts_type_element f D is_TsCallSignatureDecl at_TsCallSignatureDecl is_TsConstructSignatureDecl at_TsConstructSignatureDecl
    is_TsPropertySignature at_TsPropertySignature is_TsGetterSignature at_TsGetterSignature is_TsSetterSignature is_TsMethodSignature
    at_TsMethodSignature is_TsIndexSignature at_TsIndexSignature (ts_type_elements.TsPropertySignature n) = ap
    ts_type_elements.TsPropertySignature (at_TsPropertySignature n) ∙ is_TsPropertySignature n
in_ts_type_element f D is_TsCallSignatureDecl at_TsCallSignatureDecl is_TsConstructSignatureDecl at_TsConstructSignatureDecl
    is_TsPropertySignature at_TsPropertySignature is_TsGetterSignature at_TsGetterSignature is_TsSetterSignature is_TsMethodSignature
    at_TsMethodSignature is_TsIndexSignature at_TsIndexSignature (ts_type_elements.TsGetterSignature n) = ap
    ts_type_elements.TsGetterSignature (at_TsGetterSignature n) ∙ is_TsGetterSignature n
in_ts_type_element f D is_TsCallSignatureDecl at_TsCallSignatureDecl is_TsConstructSignatureDecl at_TsConstructSignatureDecl
    is_TsPropertySignature at_TsPropertySignature is_TsGetterSignature at_TsGetterSignature is_TsSetterSignature is_TsMethodSignature
    at_TsMethodSignature is_TsIndexSignature at_TsIndexSignature (ts_type_elements.TsSetterSignature n) = is_TsSetterSignature n
in_ts_type_element f D is_TsCallSignatureDecl at_TsCallSignatureDecl is_TsConstructSignatureDecl at_TsConstructSignatureDecl
    is_TsPropertySignature at_TsPropertySignature is_TsGetterSignature at_TsGetterSignature is_TsSetterSignature is_TsMethodSignature
    at_TsMethodSignature is_TsIndexSignature at_TsIndexSignature (ts_type_elements.TsMethodSignature n) = ap
    ts_type_elements.TsMethodSignature (at_TsMethodSignature n) ∙ is_TsMethodSignature n
in_ts_type_element f D is_TsCallSignatureDecl at_TsCallSignatureDecl is_TsConstructSignatureDecl at_TsConstructSignatureDecl
    is_TsPropertySignature at_TsPropertySignature is_TsGetterSignature at_TsGetterSignature is_TsSetterSignature is_TsMethodSignature
    at_TsMethodSignature is_TsIndexSignature at_TsIndexSignature (ts_type_elements.TsIndexSignature n) = ap
    ts_type_elements.TsIndexSignature (at_TsIndexSignature n) ∙ is_TsIndexSignature n

pub in_ts_type_lit : {X : Type 0} (f : X → X) (D : TsTypeLit X → TsTypeLit X)
    {to_a : Vec (TsTypeElement X) Global → Vec (TsTypeElement X) Global} → ((n : TsTypeLit X) (a : Vec (TsTypeElement X) Global) → record n
    { members = to_a a } ≡ D (record n { members = a })) → ((x : Vec (TsTypeElement X) Global) → vec_mapped (map_ts_type_element (λ x. x) f)
    x ≡ to_a x) → (n : TsTypeLit X) → map_ts_type_lit (λ x. x) f n ≡ D n
in_ts_type_lit f D is at_a n = (λ i. record n { members = at_a n.members i }) ∙ is n n.members

pub in_ts_tuple_element : {X : Type 0} (f : X → X) (D : TsTupleElement X → TsTupleElement X) {to_a : Option (PatBox X) → Option (PatBox X)}
    → ((n : TsTupleElement X) (a : Option (PatBox X)) → record n { label = to_a a; ty = map_link f n.ty } ≡ D (record n { label = a })) →
    ((x : Option (PatBox X)) → map_option (map_link f) x ≡ to_a x) → (n : TsTupleElement X) → map_ts_tuple_element (λ x. x) f n ≡ D n
in_ts_tuple_element f D is at_a n = (λ i. record n { label = at_a n.label i; ty = map_link f n.ty }) ∙ is n n.label

pub in_ts_tuple_type : {X : Type 0} (f : X → X) (D : TsTupleType X → TsTupleType X)
    {to_a : Vec (TsTupleElement X) Global → Vec (TsTupleElement X) Global} → ((n : TsTupleType X) (a : Vec (TsTupleElement X) Global) →
    record n { elem_types = to_a a } ≡ D (record n { elem_types = a })) → ((x : Vec (TsTupleElement X) Global) → vec_mapped
    (map_ts_tuple_element (λ x. x) f) x ≡ to_a x) → (n : TsTupleType X) → map_ts_tuple_type (λ x. x) f n ≡ D n
in_ts_tuple_type f D is at_a n = (λ i. record n { elem_types = at_a n.elem_types i }) ∙ is n n.elem_types

pub in_ts_union_or_intersection_type : {X : Type 0} (f : X → X) (D : TsUnionOrIntersectionType X → TsUnionOrIntersectionType X) → ((n :
    TsUnionType X) → ts_union_or_intersection_types.TsUnionType (map_ts_union_type (λ x. x) f n) ≡ D
    (ts_union_or_intersection_types.TsUnionType n)) → ((n : TsIntersectionType X) → ts_union_or_intersection_types.TsIntersectionType
    (map_ts_intersection_type (λ x. x) f n) ≡ D (ts_union_or_intersection_types.TsIntersectionType n)) → (n : TsUnionOrIntersectionType X) →
    map_ts_union_or_intersection_type (λ x. x) f n ≡ D n
in_ts_union_or_intersection_type f D is_TsUnionType is_TsIntersectionType (ts_union_or_intersection_types.TsUnionType n) = is_TsUnionType n
in_ts_union_or_intersection_type f D is_TsUnionType is_TsIntersectionType (ts_union_or_intersection_types.TsIntersectionType n) =
    is_TsIntersectionType n

pub in_ts_type_param : {X : Type 0} (f : X → X) (D : TsTypeParam X → TsTypeParam X) {to_a : Option (TsTypeBox X) → Option (TsTypeBox X)}
    {to_b : Option (TsTypeBox X) → Option (TsTypeBox X)} → ((n : TsTypeParam X) (a : Option (TsTypeBox X)) (b : Option (TsTypeBox X)) →
    record n { constraint = to_a a; default = to_b b } ≡ D (record n { constraint = a; default = b })) → ((x : Option (TsTypeBox X)) →
    map_option (map_link f) x ≡ to_a x) → ((x : Option (TsTypeBox X)) → map_option (map_link f) x ≡ to_b x) → (n : TsTypeParam X) →
    map_ts_type_param (λ x. x) f n ≡ D n
in_ts_type_param f D is at_a at_b n = (λ i. record n { constraint = at_a n.constraint i; default = at_b n.default i }) ∙ is n n.constraint
    n.default

pub in_ts_infer_type : {X : Type 0} (f : X → X) (D : TsInferType X → TsInferType X) {to_a : TsTypeParam X → TsTypeParam X} → ((n :
    TsInferType X) (a : TsTypeParam X) → record n { type_param = to_a a } ≡ D (record n { type_param = a })) → ((x : TsTypeParam X) →
    map_ts_type_param (λ x. x) f x ≡ to_a x) → (n : TsInferType X) → map_ts_infer_type (λ x. x) f n ≡ D n
in_ts_infer_type f D is at_a n = (λ i. record n { type_param = at_a n.type_param i }) ∙ is n n.type_param

pub in_ts_mapped_type : {X : Type 0} (f : X → X) (D : TsMappedType X → TsMappedType X) {to_a : TsTypeParam X → TsTypeParam X}
    {to_b : Option (TsTypeBox X) → Option (TsTypeBox X)} {to_c : Option (TsTypeBox X) → Option (TsTypeBox X)} → ((n : TsMappedType X) (a :
    TsTypeParam X) (b : Option (TsTypeBox X)) (c : Option (TsTypeBox X)) → record n
    { type_param = to_a a; name_type = to_b b; type_ann = to_c c } ≡ D (record n { type_param = a; name_type = b; type_ann = c })) → ((x :
    TsTypeParam X) → map_ts_type_param (λ x. x) f x ≡ to_a x) → ((x : Option (TsTypeBox X)) → map_option (map_link f) x ≡ to_b x) → ((x :
    Option (TsTypeBox X)) → map_option (map_link f) x ≡ to_c x) → (n : TsMappedType X) → map_ts_mapped_type (λ x. x) f n ≡ D n
in_ts_mapped_type f D is at_a at_b at_c n = (λ i. record n
    { type_param = at_a n.type_param i; name_type = at_b n.name_type i; type_ann = at_c n.type_ann i }) ∙ is n n.type_param n.name_type
    n.type_ann

pub in_ts_lit : {X : Type 0} (f : X → X) (D : TsLit X → TsLit X) → ((n : Number) → ts_lits.Number n ≡ D (ts_lits.Number n)) → ((n : Str) →
    ts_lits.Str n ≡ D (ts_lits.Str n)) → ((n : Bool) → ts_lits.Bool n ≡ D (ts_lits.Bool n)) → ((n : BigInt) → ts_lits.BigInt n ≡ D
    (ts_lits.BigInt n)) → ((n : TsTplLitType X) → ts_lits.Tpl (map_ts_tpl_lit_type (λ x. x) f n) ≡ D (ts_lits.Tpl n)) → (n : TsLit X) →
    map_ts_lit (λ x. x) f n ≡ D n
in_ts_lit f D is_Number is_Str is_Bool is_BigInt is_Tpl (ts_lits.Number n) = is_Number n
in_ts_lit f D is_Number is_Str is_Bool is_BigInt is_Tpl (ts_lits.Str n) = is_Str n
in_ts_lit f D is_Number is_Str is_Bool is_BigInt is_Tpl (ts_lits.Bool n) = is_Bool n
in_ts_lit f D is_Number is_Str is_Bool is_BigInt is_Tpl (ts_lits.BigInt n) = is_BigInt n
in_ts_lit f D is_Number is_Str is_Bool is_BigInt is_Tpl (ts_lits.Tpl n) = is_Tpl n

pub in_ts_lit_type : {X : Type 0} (f : X → X) (D : TsLitType X → TsLitType X) {to_a : TsLit X → TsLit X} → ((n : TsLitType X) (a : TsLit X)
    → record n { lit = to_a a } ≡ D (record n { lit = a })) → ((x : TsLit X) → map_ts_lit (λ x. x) f x ≡ to_a x) → (n : TsLitType X) →
    map_ts_lit_type (λ x. x) f n ≡ D n
in_ts_lit_type f D is at_a n = (λ i. record n { lit = at_a n.lit i }) ∙ is n n.lit

pub kept_ts_this_type_or_ident : (n : TsThisTypeOrIdent) → map_ts_this_type_or_ident (λ x. x) n ≡ n
kept_ts_this_type_or_ident (ts_this_type_or_idents.TsThisType n) = refl
kept_ts_this_type_or_ident (ts_this_type_or_idents.Ident n) = refl

pub in_ts_type_predicate : {X : Type 0} (f : X → X) (D : TsTypePredicate X → TsTypePredicate X)
    {to_a : TsThisTypeOrIdent → TsThisTypeOrIdent} {to_b : Option (TsTypeAnnBox X) → Option (TsTypeAnnBox X)} → ((n : TsTypePredicate X) (a
    : TsThisTypeOrIdent) (b : Option (TsTypeAnnBox X)) → record n { param_name = to_a a; type_ann = to_b b } ≡ D (record n
    { param_name = a; type_ann = b })) → ((x : TsThisTypeOrIdent) → map_ts_this_type_or_ident (λ x. x) x ≡ to_a x) → ((x : Option
    (TsTypeAnnBox X)) → map_option (map_link f) x ≡ to_b x) → (n : TsTypePredicate X) → map_ts_type_predicate (λ x. x) f n ≡ D n
in_ts_type_predicate f D is at_a at_b n = (λ i. record n { param_name = at_a n.param_name i; type_ann = at_b n.type_ann i }) ∙ is n
    n.param_name n.type_ann

pub in_ts_type : {X : Type 0} (f : X → X) (D : TsType X → TsType X)
    {to_TsFnOrConstructorType : Box (TsFnOrConstructorType X) Global → Box (TsFnOrConstructorType X) Global}
    {to_TsTypeRef : TsTypeRef X → TsTypeRef X} {to_TsTypeQuery : Box (TsTypeQuery X) Global → Box (TsTypeQuery X) Global}
    {to_TsTypeLit : TsTypeLit X → TsTypeLit X} {to_TsTupleType : TsTupleType X → TsTupleType X}
    {to_TsUnionOrIntersectionType : TsUnionOrIntersectionType X → TsUnionOrIntersectionType X}
    {to_TsInferType : Box (TsInferType X) Global → Box (TsInferType X) Global}
    {to_TsMappedType : Box (TsMappedType X) Global → Box (TsMappedType X) Global}
    {to_TsLitType : Box (TsLitType X) Global → Box (TsLitType X) Global}
    {to_TsTypePredicate : Box (TsTypePredicate X) Global → Box (TsTypePredicate X) Global}
    {to_TsImportType : Box (TsImportType X) Global → Box (TsImportType X) Global} → ((n : TsKeywordType) → ts_types.TsKeywordType n ≡ D
    (ts_types.TsKeywordType n)) → ((n : TsThisType) → ts_types.TsThisType n ≡ D (ts_types.TsThisType n)) → ((n : Box (TsFnOrConstructorType
    X) Global) → ts_types.TsFnOrConstructorType (to_TsFnOrConstructorType n) ≡ D (ts_types.TsFnOrConstructorType n)) → ((n : Box
    (TsFnOrConstructorType X) Global) → map_box (map_ts_fn_or_constructor_type (λ x. x) f) n ≡ to_TsFnOrConstructorType n) → ((n : TsTypeRef
    X) → ts_types.TsTypeRef (to_TsTypeRef n) ≡ D (ts_types.TsTypeRef n)) → ((n : TsTypeRef X) → map_ts_type_ref (λ x. x) f n ≡ to_TsTypeRef
    n) → ((n : Box (TsTypeQuery X) Global) → ts_types.TsTypeQuery (to_TsTypeQuery n) ≡ D (ts_types.TsTypeQuery n)) → ((n : Box (TsTypeQuery
    X) Global) → map_box (map_ts_type_query (λ x. x) f) n ≡ to_TsTypeQuery n) → ((n : TsTypeLit X) → ts_types.TsTypeLit (to_TsTypeLit n) ≡ D
    (ts_types.TsTypeLit n)) → ((n : TsTypeLit X) → map_ts_type_lit (λ x. x) f n ≡ to_TsTypeLit n) → ((n : TsArrayType X) →
    ts_types.TsArrayType (map_ts_array_type (λ x. x) f n) ≡ D (ts_types.TsArrayType n)) → ((n : TsTupleType X) → ts_types.TsTupleType
    (to_TsTupleType n) ≡ D (ts_types.TsTupleType n)) → ((n : TsTupleType X) → map_ts_tuple_type (λ x. x) f n ≡ to_TsTupleType n) → ((n :
    TsOptionalType X) → ts_types.TsOptionalType (map_ts_optional_type (λ x. x) f n) ≡ D (ts_types.TsOptionalType n)) → ((n : TsRestType X) →
    ts_types.TsRestType (map_ts_rest_type (λ x. x) f n) ≡ D (ts_types.TsRestType n)) → ((n : TsUnionOrIntersectionType X) →
    ts_types.TsUnionOrIntersectionType (to_TsUnionOrIntersectionType n) ≡ D (ts_types.TsUnionOrIntersectionType n)) → ((n :
    TsUnionOrIntersectionType X) → map_ts_union_or_intersection_type (λ x. x) f n ≡ to_TsUnionOrIntersectionType n) → ((n :
    TsConditionalType X) → ts_types.TsConditionalType (map_ts_conditional_type (λ x. x) f n) ≡ D (ts_types.TsConditionalType n)) → ((n : Box
    (TsInferType X) Global) → ts_types.TsInferType (to_TsInferType n) ≡ D (ts_types.TsInferType n)) → ((n : Box (TsInferType X) Global) →
    map_box (map_ts_infer_type (λ x. x) f) n ≡ to_TsInferType n) → ((n : TsParenthesizedType X) → ts_types.TsParenthesizedType
    (map_ts_parenthesized_type (λ x. x) f n) ≡ D (ts_types.TsParenthesizedType n)) → ((n : TsTypeOperator X) → ts_types.TsTypeOperator
    (map_ts_type_operator (λ x. x) f n) ≡ D (ts_types.TsTypeOperator n)) → ((n : TsIndexedAccessType X) → ts_types.TsIndexedAccessType
    (map_ts_indexed_access_type (λ x. x) f n) ≡ D (ts_types.TsIndexedAccessType n)) → ((n : Box (TsMappedType X) Global) →
    ts_types.TsMappedType (to_TsMappedType n) ≡ D (ts_types.TsMappedType n)) → ((n : Box (TsMappedType X) Global) → map_box
    (map_ts_mapped_type (λ x. x) f) n ≡ to_TsMappedType n) → ((n : Box (TsLitType X) Global) → ts_types.TsLitType (to_TsLitType n) ≡ D
    (ts_types.TsLitType n)) → ((n : Box (TsLitType X) Global) → map_box (map_ts_lit_type (λ x. x) f) n ≡ to_TsLitType n) → ((n : Box
    (TsTypePredicate X) Global) → ts_types.TsTypePredicate (to_TsTypePredicate n) ≡ D (ts_types.TsTypePredicate n)) → ((n : Box
    (TsTypePredicate X) Global) → map_box (map_ts_type_predicate (λ x. x) f) n ≡ to_TsTypePredicate n) → ((n : Box (TsImportType X) Global)
    → ts_types.TsImportType (to_TsImportType n) ≡ D (ts_types.TsImportType n)) → ((n : Box (TsImportType X) Global) → map_box
    (map_ts_import_type (λ x. x) f) n ≡ to_TsImportType n) → (n : TsType X) → map_ts_type (λ x. x) f n ≡ D n
in_ts_type f D is_TsKeywordType is_TsThisType is_TsFnOrConstructorType at_TsFnOrConstructorType is_TsTypeRef at_TsTypeRef is_TsTypeQuery
    at_TsTypeQuery is_TsTypeLit at_TsTypeLit is_TsArrayType is_TsTupleType at_TsTupleType is_TsOptionalType is_TsRestType
    is_TsUnionOrIntersectionType at_TsUnionOrIntersectionType is_TsConditionalType is_TsInferType at_TsInferType is_TsParenthesizedType
    is_TsTypeOperator is_TsIndexedAccessType is_TsMappedType at_TsMappedType is_TsLitType at_TsLitType is_TsTypePredicate at_TsTypePredicate
    is_TsImportType at_TsImportType (ts_types.TsKeywordType n) = is_TsKeywordType n
in_ts_type f D is_TsKeywordType is_TsThisType is_TsFnOrConstructorType at_TsFnOrConstructorType is_TsTypeRef at_TsTypeRef is_TsTypeQuery
    at_TsTypeQuery is_TsTypeLit at_TsTypeLit is_TsArrayType is_TsTupleType at_TsTupleType is_TsOptionalType is_TsRestType
    is_TsUnionOrIntersectionType at_TsUnionOrIntersectionType is_TsConditionalType is_TsInferType at_TsInferType is_TsParenthesizedType
    is_TsTypeOperator is_TsIndexedAccessType is_TsMappedType at_TsMappedType is_TsLitType at_TsLitType is_TsTypePredicate at_TsTypePredicate
    is_TsImportType at_TsImportType (ts_types.TsThisType n) = is_TsThisType n
in_ts_type f D is_TsKeywordType is_TsThisType is_TsFnOrConstructorType at_TsFnOrConstructorType is_TsTypeRef at_TsTypeRef is_TsTypeQuery
    at_TsTypeQuery is_TsTypeLit at_TsTypeLit is_TsArrayType is_TsTupleType at_TsTupleType is_TsOptionalType is_TsRestType
    is_TsUnionOrIntersectionType at_TsUnionOrIntersectionType is_TsConditionalType is_TsInferType at_TsInferType is_TsParenthesizedType
    is_TsTypeOperator is_TsIndexedAccessType is_TsMappedType at_TsMappedType is_TsLitType at_TsLitType is_TsTypePredicate at_TsTypePredicate
    is_TsImportType at_TsImportType (ts_types.TsFnOrConstructorType n) = ap ts_types.TsFnOrConstructorType (at_TsFnOrConstructorType n) ∙
    is_TsFnOrConstructorType n
in_ts_type f D is_TsKeywordType is_TsThisType is_TsFnOrConstructorType at_TsFnOrConstructorType is_TsTypeRef at_TsTypeRef is_TsTypeQuery
    at_TsTypeQuery is_TsTypeLit at_TsTypeLit is_TsArrayType is_TsTupleType at_TsTupleType is_TsOptionalType is_TsRestType
    is_TsUnionOrIntersectionType at_TsUnionOrIntersectionType is_TsConditionalType is_TsInferType at_TsInferType is_TsParenthesizedType
    is_TsTypeOperator is_TsIndexedAccessType is_TsMappedType at_TsMappedType is_TsLitType at_TsLitType is_TsTypePredicate at_TsTypePredicate
    is_TsImportType at_TsImportType (ts_types.TsTypeRef n) = ap ts_types.TsTypeRef (at_TsTypeRef n) ∙ is_TsTypeRef n
in_ts_type f D is_TsKeywordType is_TsThisType is_TsFnOrConstructorType at_TsFnOrConstructorType is_TsTypeRef at_TsTypeRef is_TsTypeQuery
    at_TsTypeQuery is_TsTypeLit at_TsTypeLit is_TsArrayType is_TsTupleType at_TsTupleType is_TsOptionalType is_TsRestType
    is_TsUnionOrIntersectionType at_TsUnionOrIntersectionType is_TsConditionalType is_TsInferType at_TsInferType is_TsParenthesizedType
    is_TsTypeOperator is_TsIndexedAccessType is_TsMappedType at_TsMappedType is_TsLitType at_TsLitType is_TsTypePredicate at_TsTypePredicate
    is_TsImportType at_TsImportType (ts_types.TsTypeQuery n) = ap ts_types.TsTypeQuery (at_TsTypeQuery n) ∙ is_TsTypeQuery n
in_ts_type f D is_TsKeywordType is_TsThisType is_TsFnOrConstructorType at_TsFnOrConstructorType is_TsTypeRef at_TsTypeRef is_TsTypeQuery
    at_TsTypeQuery is_TsTypeLit at_TsTypeLit is_TsArrayType is_TsTupleType at_TsTupleType is_TsOptionalType is_TsRestType
    is_TsUnionOrIntersectionType at_TsUnionOrIntersectionType is_TsConditionalType is_TsInferType at_TsInferType is_TsParenthesizedType
    is_TsTypeOperator is_TsIndexedAccessType is_TsMappedType at_TsMappedType is_TsLitType at_TsLitType is_TsTypePredicate at_TsTypePredicate
    is_TsImportType at_TsImportType (ts_types.TsTypeLit n) = ap ts_types.TsTypeLit (at_TsTypeLit n) ∙ is_TsTypeLit n
in_ts_type f D is_TsKeywordType is_TsThisType is_TsFnOrConstructorType at_TsFnOrConstructorType is_TsTypeRef at_TsTypeRef is_TsTypeQuery
    at_TsTypeQuery is_TsTypeLit at_TsTypeLit is_TsArrayType is_TsTupleType at_TsTupleType is_TsOptionalType is_TsRestType
    is_TsUnionOrIntersectionType at_TsUnionOrIntersectionType is_TsConditionalType is_TsInferType at_TsInferType is_TsParenthesizedType
    is_TsTypeOperator is_TsIndexedAccessType is_TsMappedType at_TsMappedType is_TsLitType at_TsLitType is_TsTypePredicate at_TsTypePredicate
    is_TsImportType at_TsImportType (ts_types.TsArrayType n) = is_TsArrayType n
in_ts_type f D is_TsKeywordType is_TsThisType is_TsFnOrConstructorType at_TsFnOrConstructorType is_TsTypeRef at_TsTypeRef is_TsTypeQuery
    at_TsTypeQuery is_TsTypeLit at_TsTypeLit is_TsArrayType is_TsTupleType at_TsTupleType is_TsOptionalType is_TsRestType
    is_TsUnionOrIntersectionType at_TsUnionOrIntersectionType is_TsConditionalType is_TsInferType at_TsInferType is_TsParenthesizedType
    is_TsTypeOperator is_TsIndexedAccessType is_TsMappedType at_TsMappedType is_TsLitType at_TsLitType is_TsTypePredicate at_TsTypePredicate
    is_TsImportType at_TsImportType (ts_types.TsTupleType n) = ap ts_types.TsTupleType (at_TsTupleType n) ∙ is_TsTupleType n
in_ts_type f D is_TsKeywordType is_TsThisType is_TsFnOrConstructorType at_TsFnOrConstructorType is_TsTypeRef at_TsTypeRef is_TsTypeQuery
    at_TsTypeQuery is_TsTypeLit at_TsTypeLit is_TsArrayType is_TsTupleType at_TsTupleType is_TsOptionalType is_TsRestType
    is_TsUnionOrIntersectionType at_TsUnionOrIntersectionType is_TsConditionalType is_TsInferType at_TsInferType is_TsParenthesizedType
    is_TsTypeOperator is_TsIndexedAccessType is_TsMappedType at_TsMappedType is_TsLitType at_TsLitType is_TsTypePredicate at_TsTypePredicate
    is_TsImportType at_TsImportType (ts_types.TsOptionalType n) = is_TsOptionalType n
in_ts_type f D is_TsKeywordType is_TsThisType is_TsFnOrConstructorType at_TsFnOrConstructorType is_TsTypeRef at_TsTypeRef is_TsTypeQuery
    at_TsTypeQuery is_TsTypeLit at_TsTypeLit is_TsArrayType is_TsTupleType at_TsTupleType is_TsOptionalType is_TsRestType
    is_TsUnionOrIntersectionType at_TsUnionOrIntersectionType is_TsConditionalType is_TsInferType at_TsInferType is_TsParenthesizedType
    is_TsTypeOperator is_TsIndexedAccessType is_TsMappedType at_TsMappedType is_TsLitType at_TsLitType is_TsTypePredicate at_TsTypePredicate
    is_TsImportType at_TsImportType (ts_types.TsRestType n) = is_TsRestType n
in_ts_type f D is_TsKeywordType is_TsThisType is_TsFnOrConstructorType at_TsFnOrConstructorType is_TsTypeRef at_TsTypeRef is_TsTypeQuery
    at_TsTypeQuery is_TsTypeLit at_TsTypeLit is_TsArrayType is_TsTupleType at_TsTupleType is_TsOptionalType is_TsRestType
    is_TsUnionOrIntersectionType at_TsUnionOrIntersectionType is_TsConditionalType is_TsInferType at_TsInferType is_TsParenthesizedType
    is_TsTypeOperator is_TsIndexedAccessType is_TsMappedType at_TsMappedType is_TsLitType at_TsLitType is_TsTypePredicate at_TsTypePredicate
    is_TsImportType at_TsImportType (ts_types.TsUnionOrIntersectionType n) = ap ts_types.TsUnionOrIntersectionType
    (at_TsUnionOrIntersectionType n) ∙ is_TsUnionOrIntersectionType n
in_ts_type f D is_TsKeywordType is_TsThisType is_TsFnOrConstructorType at_TsFnOrConstructorType is_TsTypeRef at_TsTypeRef is_TsTypeQuery
    at_TsTypeQuery is_TsTypeLit at_TsTypeLit is_TsArrayType is_TsTupleType at_TsTupleType is_TsOptionalType is_TsRestType
    is_TsUnionOrIntersectionType at_TsUnionOrIntersectionType is_TsConditionalType is_TsInferType at_TsInferType is_TsParenthesizedType
    is_TsTypeOperator is_TsIndexedAccessType is_TsMappedType at_TsMappedType is_TsLitType at_TsLitType is_TsTypePredicate at_TsTypePredicate
    is_TsImportType at_TsImportType (ts_types.TsConditionalType n) = is_TsConditionalType n
in_ts_type f D is_TsKeywordType is_TsThisType is_TsFnOrConstructorType at_TsFnOrConstructorType is_TsTypeRef at_TsTypeRef is_TsTypeQuery
    at_TsTypeQuery is_TsTypeLit at_TsTypeLit is_TsArrayType is_TsTupleType at_TsTupleType is_TsOptionalType is_TsRestType
    is_TsUnionOrIntersectionType at_TsUnionOrIntersectionType is_TsConditionalType is_TsInferType at_TsInferType is_TsParenthesizedType
    is_TsTypeOperator is_TsIndexedAccessType is_TsMappedType at_TsMappedType is_TsLitType at_TsLitType is_TsTypePredicate at_TsTypePredicate
    is_TsImportType at_TsImportType (ts_types.TsInferType n) = ap ts_types.TsInferType (at_TsInferType n) ∙ is_TsInferType n
in_ts_type f D is_TsKeywordType is_TsThisType is_TsFnOrConstructorType at_TsFnOrConstructorType is_TsTypeRef at_TsTypeRef is_TsTypeQuery
    at_TsTypeQuery is_TsTypeLit at_TsTypeLit is_TsArrayType is_TsTupleType at_TsTupleType is_TsOptionalType is_TsRestType
    is_TsUnionOrIntersectionType at_TsUnionOrIntersectionType is_TsConditionalType is_TsInferType at_TsInferType is_TsParenthesizedType
    is_TsTypeOperator is_TsIndexedAccessType is_TsMappedType at_TsMappedType is_TsLitType at_TsLitType is_TsTypePredicate at_TsTypePredicate
    is_TsImportType at_TsImportType (ts_types.TsParenthesizedType n) = is_TsParenthesizedType n
in_ts_type f D is_TsKeywordType is_TsThisType is_TsFnOrConstructorType at_TsFnOrConstructorType is_TsTypeRef at_TsTypeRef is_TsTypeQuery
    at_TsTypeQuery is_TsTypeLit at_TsTypeLit is_TsArrayType is_TsTupleType at_TsTupleType is_TsOptionalType is_TsRestType
    is_TsUnionOrIntersectionType at_TsUnionOrIntersectionType is_TsConditionalType is_TsInferType at_TsInferType is_TsParenthesizedType
    is_TsTypeOperator is_TsIndexedAccessType is_TsMappedType at_TsMappedType is_TsLitType at_TsLitType is_TsTypePredicate at_TsTypePredicate
    is_TsImportType at_TsImportType (ts_types.TsTypeOperator n) = is_TsTypeOperator n
in_ts_type f D is_TsKeywordType is_TsThisType is_TsFnOrConstructorType at_TsFnOrConstructorType is_TsTypeRef at_TsTypeRef is_TsTypeQuery
    at_TsTypeQuery is_TsTypeLit at_TsTypeLit is_TsArrayType is_TsTupleType at_TsTupleType is_TsOptionalType is_TsRestType
    is_TsUnionOrIntersectionType at_TsUnionOrIntersectionType is_TsConditionalType is_TsInferType at_TsInferType is_TsParenthesizedType
    is_TsTypeOperator is_TsIndexedAccessType is_TsMappedType at_TsMappedType is_TsLitType at_TsLitType is_TsTypePredicate at_TsTypePredicate
    is_TsImportType at_TsImportType (ts_types.TsIndexedAccessType n) = is_TsIndexedAccessType n
in_ts_type f D is_TsKeywordType is_TsThisType is_TsFnOrConstructorType at_TsFnOrConstructorType is_TsTypeRef at_TsTypeRef is_TsTypeQuery
    at_TsTypeQuery is_TsTypeLit at_TsTypeLit is_TsArrayType is_TsTupleType at_TsTupleType is_TsOptionalType is_TsRestType
    is_TsUnionOrIntersectionType at_TsUnionOrIntersectionType is_TsConditionalType is_TsInferType at_TsInferType is_TsParenthesizedType
    is_TsTypeOperator is_TsIndexedAccessType is_TsMappedType at_TsMappedType is_TsLitType at_TsLitType is_TsTypePredicate at_TsTypePredicate
    is_TsImportType at_TsImportType (ts_types.TsMappedType n) = ap ts_types.TsMappedType (at_TsMappedType n) ∙ is_TsMappedType n
in_ts_type f D is_TsKeywordType is_TsThisType is_TsFnOrConstructorType at_TsFnOrConstructorType is_TsTypeRef at_TsTypeRef is_TsTypeQuery
    at_TsTypeQuery is_TsTypeLit at_TsTypeLit is_TsArrayType is_TsTupleType at_TsTupleType is_TsOptionalType is_TsRestType
    is_TsUnionOrIntersectionType at_TsUnionOrIntersectionType is_TsConditionalType is_TsInferType at_TsInferType is_TsParenthesizedType
    is_TsTypeOperator is_TsIndexedAccessType is_TsMappedType at_TsMappedType is_TsLitType at_TsLitType is_TsTypePredicate at_TsTypePredicate
    is_TsImportType at_TsImportType (ts_types.TsLitType n) = ap ts_types.TsLitType (at_TsLitType n) ∙ is_TsLitType n
in_ts_type f D is_TsKeywordType is_TsThisType is_TsFnOrConstructorType at_TsFnOrConstructorType is_TsTypeRef at_TsTypeRef is_TsTypeQuery
    at_TsTypeQuery is_TsTypeLit at_TsTypeLit is_TsArrayType is_TsTupleType at_TsTupleType is_TsOptionalType is_TsRestType
    is_TsUnionOrIntersectionType at_TsUnionOrIntersectionType is_TsConditionalType is_TsInferType at_TsInferType is_TsParenthesizedType
    is_TsTypeOperator is_TsIndexedAccessType is_TsMappedType at_TsMappedType is_TsLitType at_TsLitType is_TsTypePredicate at_TsTypePredicate
    is_TsImportType at_TsImportType (ts_types.TsTypePredicate n) = ap ts_types.TsTypePredicate (at_TsTypePredicate n) ∙ is_TsTypePredicate n
in_ts_type f D is_TsKeywordType is_TsThisType is_TsFnOrConstructorType at_TsFnOrConstructorType is_TsTypeRef at_TsTypeRef is_TsTypeQuery
    at_TsTypeQuery is_TsTypeLit at_TsTypeLit is_TsArrayType is_TsTupleType at_TsTupleType is_TsOptionalType is_TsRestType
    is_TsUnionOrIntersectionType at_TsUnionOrIntersectionType is_TsConditionalType is_TsInferType at_TsInferType is_TsParenthesizedType
    is_TsTypeOperator is_TsIndexedAccessType is_TsMappedType at_TsMappedType is_TsLitType at_TsLitType is_TsTypePredicate at_TsTypePredicate
    is_TsImportType at_TsImportType (ts_types.TsImportType n) = ap ts_types.TsImportType (at_TsImportType n) ∙ is_TsImportType n

pub in_ts_type_ann : {X : Type 0} (f : X → X) (D : TsTypeAnn X → TsTypeAnn X) {to_a : TsType X → TsType X} → ((n : TsTypeAnn X) (a : TsType
    X) → record n { type_ann = to_a a } ≡ D (record n { type_ann = a })) → ((x : TsType X) → map_ts_type (λ x. x) f x ≡ to_a x) → (n :
    TsTypeAnn X) → map_ts_type_ann (λ x. x) f n ≡ D n
in_ts_type_ann f D is at_a n = (λ i. record n { type_ann = at_a n.type_ann i }) ∙ is n n.type_ann

pub in_ts_type_param_decl : {X : Type 0} (f : X → X) (D : TsTypeParamDecl X → TsTypeParamDecl X)
    {to_a : Vec (TsTypeParam X) Global → Vec (TsTypeParam X) Global} → ((n : TsTypeParamDecl X) (a : Vec (TsTypeParam X) Global) → record n
    { params = to_a a } ≡ D (record n { params = a })) → ((x : Vec (TsTypeParam X) Global) → vec_mapped (map_ts_type_param (λ x. x) f) x ≡
    to_a x) → (n : TsTypeParamDecl X) → map_ts_type_param_decl (λ x. x) f n ≡ D n
in_ts_type_param_decl f D is at_a n = (λ i. record n { params = at_a n.params i }) ∙ is n n.params

pub in_ts_fn_param : {X : Type 0} (f : X → X) (D : TsFnParam X → TsFnParam X) {to_Ident : BindingIdent X → BindingIdent X}
    {to_Array : ArrayPat X → ArrayPat X} {to_Rest : RestPat X → RestPat X} {to_Object : ObjectPat X → ObjectPat X} → ((n : BindingIdent X) →
    ts_fn_params.Ident (to_Ident n) ≡ D (ts_fn_params.Ident n)) → ((n : BindingIdent X) → map_binding_ident (λ x. x) f n ≡ to_Ident n) → ((n
    : ArrayPat X) → ts_fn_params.Array (to_Array n) ≡ D (ts_fn_params.Array n)) → ((n : ArrayPat X) → map_array_pat (λ x. x) f n ≡ to_Array
    n) → ((n : RestPat X) → ts_fn_params.Rest (to_Rest n) ≡ D (ts_fn_params.Rest n)) → ((n : RestPat X) → map_rest_pat (λ x. x) f n ≡
    to_Rest n) → ((n : ObjectPat X) → ts_fn_params.Object (to_Object n) ≡ D (ts_fn_params.Object n)) → ((n : ObjectPat X) → map_object_pat
    (λ x. x) f n ≡ to_Object n) → (n : TsFnParam X) → map_ts_fn_param (λ x. x) f n ≡ D n
in_ts_fn_param f D is_Ident at_Ident is_Array at_Array is_Rest at_Rest is_Object at_Object (ts_fn_params.Ident n) = ap ts_fn_params.Ident
    (at_Ident n) ∙ is_Ident n
in_ts_fn_param f D is_Ident at_Ident is_Array at_Array is_Rest at_Rest is_Object at_Object (ts_fn_params.Array n) = ap ts_fn_params.Array
    (at_Array n) ∙ is_Array n
in_ts_fn_param f D is_Ident at_Ident is_Array at_Array is_Rest at_Rest is_Object at_Object (ts_fn_params.Rest n) = ap ts_fn_params.Rest
    (at_Rest n) ∙ is_Rest n
in_ts_fn_param f D is_Ident at_Ident is_Array at_Array is_Rest at_Rest is_Object at_Object (ts_fn_params.Object n) = ap ts_fn_params.Object
    (at_Object n) ∙ is_Object n

pub in_ts_interface_body : {X : Type 0} (f : X → X) (D : TsInterfaceBody X → TsInterfaceBody X)
    {to_a : Vec (TsTypeElement X) Global → Vec (TsTypeElement X) Global} → ((n : TsInterfaceBody X) (a : Vec (TsTypeElement X) Global) →
    record n { body = to_a a } ≡ D (record n { body = a })) → ((x : Vec (TsTypeElement X) Global) → vec_mapped (map_ts_type_element (λ x. x)
    f) x ≡ to_a x) → (n : TsInterfaceBody X) → map_ts_interface_body (λ x. x) f n ≡ D n
in_ts_interface_body f D is at_a n = (λ i. record n { body = at_a n.body i }) ∙ is n n.body

pub in_ts_entity_name : {X : Type 0} (f : X → X) (D : TsEntityName X → TsEntityName X) → ((n : TsQualifiedName X) →
    ts_entity_names.TsQualifiedName (map_ts_qualified_name (λ x. x) f n) ≡ D (ts_entity_names.TsQualifiedName n)) → ((n : Ident) →
    ts_entity_names.Ident n ≡ D (ts_entity_names.Ident n)) → (n : TsEntityName X) → map_ts_entity_name (λ x. x) f n ≡ D n
in_ts_entity_name f D is_TsQualifiedName is_Ident (ts_entity_names.TsQualifiedName n) = is_TsQualifiedName n
in_ts_entity_name f D is_TsQualifiedName is_Ident (ts_entity_names.Ident n) = is_Ident n
