-- One map of types of TypeScript behind another is one map. Made by scripts/dev/make-visit-files.
use Rattle.std.proofs.Common.{◌≡◌, refl, ap}
use Rattle.swc_ecma_codegen_tree.specs.declared.idents.Ident.{Ident}
use Rattle.swc_ecma_codegen_tree.specs.declared.ts_members.TsCallSignatureDecl.{TsCallSignatureDecl}
use Rattle.swc_ecma_codegen_tree.specs.declared.ts_members.TsConstructSignatureDecl.{TsConstructSignatureDecl}
use Rattle.swc_ecma_codegen_tree.specs.declared.ts_types.TsConstructorType.{TsConstructorType}
use Rattle.swc_ecma_codegen_tree.specs.declared.ts_types.TsEntityName.{TsEntityName}
use Rattle.swc_ecma_codegen_tree.specs.declared.ts_types.TsFnOrConstructorType.{TsFnOrConstructorType}
use Rattle.swc_ecma_codegen_tree.specs.declared.ts_types.TsFnParam.{TsFnParam}
use Rattle.swc_ecma_codegen_tree.specs.declared.ts_types.TsFnType.{TsFnType}
use Rattle.swc_ecma_codegen_tree.specs.declared.ts_members.TsGetterSignature.{TsGetterSignature}
use Rattle.swc_ecma_codegen_tree.specs.declared.ts_types.TsImportType.{TsImportType}
use Rattle.swc_ecma_codegen_tree.specs.declared.ts_members.TsIndexSignature.{TsIndexSignature}
use Rattle.swc_ecma_codegen_tree.specs.declared.ts_types.TsInferType.{TsInferType}
use Rattle.swc_ecma_codegen_tree.specs.declared.ts_members.TsInterfaceBody.{TsInterfaceBody}
use Rattle.swc_ecma_codegen_tree.specs.declared.ts_types.TsIntersectionType.{TsIntersectionType}
use Rattle.swc_ecma_codegen_tree.specs.declared.ts_types.TsLit.{TsLit}
use Rattle.swc_ecma_codegen_tree.specs.declared.ts_types.TsLitType.{TsLitType}
use Rattle.swc_ecma_codegen_tree.specs.declared.ts_types.TsMappedType.{TsMappedType}
use Rattle.swc_ecma_codegen_tree.specs.declared.ts_members.TsMethodSignature.{TsMethodSignature}
use Rattle.swc_ecma_codegen_tree.specs.declared.ts_members.TsPropertySignature.{TsPropertySignature}
use Rattle.swc_ecma_codegen_tree.specs.declared.ts_types.TsThisTypeOrIdent.{TsThisTypeOrIdent}
use Rattle.swc_ecma_codegen_tree.specs.declared.ts_types.TsTplLitType.{TsTplLitType}
use Rattle.swc_ecma_codegen_tree.specs.declared.ts_types.TsTupleElement.{TsTupleElement}
use Rattle.swc_ecma_codegen_tree.specs.declared.ts_types.TsTupleType.{TsTupleType}
use Rattle.swc_ecma_codegen_tree.specs.declared.ts_types.TsType.{TsType}
use Rattle.swc_ecma_codegen_tree.specs.declared.ts_types.TsTypeAnn.{TsTypeAnn}
use Rattle.swc_ecma_codegen_tree.specs.declared.ts_members.TsTypeElement.{TsTypeElement}
use Rattle.swc_ecma_codegen_tree.specs.declared.ts_types.TsTypeLit.{TsTypeLit}
use Rattle.swc_ecma_codegen_tree.specs.declared.ts_types.TsTypeParam.{TsTypeParam}
use Rattle.swc_ecma_codegen_tree.specs.declared.ts_types.TsTypeParamDecl.{TsTypeParamDecl}
use Rattle.swc_ecma_codegen_tree.specs.declared.ts_types.TsTypeParamInstantiation.{TsTypeParamInstantiation}
use Rattle.swc_ecma_codegen_tree.specs.declared.ts_types.TsTypePredicate.{TsTypePredicate}
use Rattle.swc_ecma_codegen_tree.specs.declared.ts_types.TsTypeQuery.{TsTypeQuery}
use Rattle.swc_ecma_codegen_tree.specs.declared.ts_types.TsTypeQueryExpr.{TsTypeQueryExpr}
use Rattle.swc_ecma_codegen_tree.specs.declared.ts_types.TsTypeRef.{TsTypeRef}
use Rattle.swc_ecma_codegen_tree.specs.declared.ts_types.TsUnionOrIntersectionType.{TsUnionOrIntersectionType}
use Rattle.swc_ecma_codegen_tree.specs.declared.ts_types.TsUnionType.{TsUnionType}
use Rattle.swc_ecma_codegen_tree.specs.declared.ts_types.TsEntityName.TheVariants as ts_entity_names
use Rattle.swc_ecma_codegen_tree.specs.declared.ts_types.TsFnOrConstructorType.TheVariants as ts_fn_or_constructor_types
use Rattle.swc_ecma_codegen_tree.specs.declared.ts_types.TsFnParam.TheVariants as ts_fn_params
use Rattle.swc_ecma_codegen_tree.specs.declared.ts_types.TsLit.TheVariants as ts_lits
use Rattle.swc_ecma_codegen_tree.specs.declared.ts_types.TsThisTypeOrIdent.TheVariants as ts_this_type_or_idents
use Rattle.swc_ecma_codegen_tree.specs.declared.ts_types.TsType.TheVariants as ts_types
use Rattle.swc_ecma_codegen_tree.specs.declared.ts_members.TsTypeElement.TheVariants as ts_type_elements
use Rattle.swc_ecma_codegen_tree.specs.declared.ts_types.TsTypeQueryExpr.TheVariants as ts_type_query_exprs
use Rattle.swc_ecma_codegen_tree.specs.declared.ts_types.TsUnionOrIntersectionType.TheVariants as ts_union_or_intersection_types
use Rattle.swc_ecma_codegen_visit.specs.Mapping.{map_link}
use Rattle.swc_ecma_codegen_visit.specs.MappedTsTypes.{map_ts_call_signature_decl, map_ts_construct_signature_decl, map_ts_constructor_type}
use Rattle.swc_ecma_codegen_visit.specs.MappedTsTypes.{map_ts_entity_name, map_ts_fn_or_constructor_type, map_ts_fn_param, map_ts_fn_type}
use Rattle.swc_ecma_codegen_visit.specs.MappedTsTypes.{map_ts_getter_signature, map_ts_import_type, map_ts_index_signature}
use Rattle.swc_ecma_codegen_visit.specs.MappedTsTypes.{map_ts_infer_type, map_ts_interface_body, map_ts_intersection_type, map_ts_lit}
use Rattle.swc_ecma_codegen_visit.specs.MappedTsTypes.{map_ts_lit_type, map_ts_mapped_type, map_ts_method_signature}
use Rattle.swc_ecma_codegen_visit.specs.MappedTsTypes.{map_ts_property_signature, map_ts_this_type_or_ident, map_ts_tpl_lit_type}
use Rattle.swc_ecma_codegen_visit.specs.MappedTsTypes.{map_ts_tuple_element, map_ts_tuple_type, map_ts_type, map_ts_type_ann}
use Rattle.swc_ecma_codegen_visit.specs.MappedTsTypes.{map_ts_type_element, map_ts_type_lit, map_ts_type_param, map_ts_type_param_decl}
use Rattle.swc_ecma_codegen_visit.specs.MappedTsTypes.{map_ts_type_param_instantiation, map_ts_type_predicate, map_ts_type_query}
use Rattle.swc_ecma_codegen_visit.specs.MappedTsTypes.{map_ts_type_query_expr, map_ts_type_ref, map_ts_union_or_intersection_type}
use Rattle.swc_ecma_codegen_visit.specs.MappedTsTypes.{map_ts_union_type}
use Rattle.swc_ecma_codegen_visit.proofs.Fused.{box_fused, option_fused, vec_fused}
use Rattle.swc_ecma_codegen_visit.proofs.FusedIdents.{fused_binding_ident}
use Rattle.swc_ecma_codegen_visit.proofs.FusedPats.{fused_array_pat, fused_object_pat, fused_rest_pat}

pub fused_ts_index_signature : {X : Type 0} (g h : Ident → Ident) (f k : X → X) (n : TsIndexSignature X) → map_ts_index_signature g f
    (map_ts_index_signature h k n) ≡ map_ts_index_signature (λ x. g (h x)) (λ x. f (k x)) n
fused_ts_index_signature g h f k n = λ i. record n {
  params = (vec_fused (map_link f) (map_link k) (map_link (λ x. f (k x))) (λ x. refl)) n.params i;
  type_ann = (option_fused (map_link f) (map_link k) (map_link (λ x. f (k x))) (λ x. refl)) n.type_ann i;
}

pub fused_ts_fn_type : {X : Type 0} (g h : Ident → Ident) (f k : X → X) (n : TsFnType X) → map_ts_fn_type g f (map_ts_fn_type h k n) ≡
    map_ts_fn_type (λ x. g (h x)) (λ x. f (k x)) n
fused_ts_fn_type g h f k n = λ i. record n {
  params = (vec_fused (map_link f) (map_link k) (map_link (λ x. f (k x))) (λ x. refl)) n.params i;
  type_params = (option_fused (map_link f) (map_link k) (map_link (λ x. f (k x))) (λ x. refl)) n.type_params i;
  type_ann = map_link (λ x. f (k x)) n.type_ann;
}

pub fused_ts_constructor_type : {X : Type 0} (g h : Ident → Ident) (f k : X → X) (n : TsConstructorType X) → map_ts_constructor_type g f
    (map_ts_constructor_type h k n) ≡ map_ts_constructor_type (λ x. g (h x)) (λ x. f (k x)) n
fused_ts_constructor_type g h f k n = λ i. record n {
  params = (vec_fused (map_link f) (map_link k) (map_link (λ x. f (k x))) (λ x. refl)) n.params i;
  type_params = (option_fused (map_link f) (map_link k) (map_link (λ x. f (k x))) (λ x. refl)) n.type_params i;
  type_ann = map_link (λ x. f (k x)) n.type_ann;
}

pub fused_ts_fn_or_constructor_type : {X : Type 0} (g h : Ident → Ident) (f k : X → X) (n : TsFnOrConstructorType X) →
    map_ts_fn_or_constructor_type g f (map_ts_fn_or_constructor_type h k n) ≡ map_ts_fn_or_constructor_type (λ x. g (h x)) (λ x. f (k x)) n
fused_ts_fn_or_constructor_type g h f k (ts_fn_or_constructor_types.TsFnType n) = ap ts_fn_or_constructor_types.TsFnType ((fused_ts_fn_type
    g h f k) n)
fused_ts_fn_or_constructor_type g h f k (ts_fn_or_constructor_types.TsConstructorType n) = ap ts_fn_or_constructor_types.TsConstructorType
    ((fused_ts_constructor_type g h f k) n)

pub fused_ts_type_ref : {X : Type 0} (g h : Ident → Ident) (f k : X → X) (n : TsTypeRef X) → map_ts_type_ref g f (map_ts_type_ref h k n) ≡
    map_ts_type_ref (λ x. g (h x)) (λ x. f (k x)) n
fused_ts_type_ref g h f k n = λ i. record n {
  type_name = map_link (λ x. f (k x)) n.type_name;
  type_params = (option_fused (map_link f) (map_link k) (map_link (λ x. f (k x))) (λ x. refl)) n.type_params i;
}

pub fused_ts_import_type : {X : Type 0} (g h : Ident → Ident) (f k : X → X) (n : TsImportType X) → map_ts_import_type g f
    (map_ts_import_type h k n) ≡ map_ts_import_type (λ x. g (h x)) (λ x. f (k x)) n
fused_ts_import_type g h f k n = λ i. record n {
  qualifier = (option_fused (map_link f) (map_link k) (map_link (λ x. f (k x))) (λ x. refl)) n.qualifier i;
  type_args = (option_fused (map_link f) (map_link k) (map_link (λ x. f (k x))) (λ x. refl)) n.type_args i;
}

pub fused_ts_type_query_expr : {X : Type 0} (g h : Ident → Ident) (f k : X → X) (n : TsTypeQueryExpr X) → map_ts_type_query_expr g f
    (map_ts_type_query_expr h k n) ≡ map_ts_type_query_expr (λ x. g (h x)) (λ x. f (k x)) n
fused_ts_type_query_expr g h f k (ts_type_query_exprs.TsEntityName n) = refl
fused_ts_type_query_expr g h f k (ts_type_query_exprs.Import n) = ap ts_type_query_exprs.Import ((fused_ts_import_type g h f k) n)

pub fused_ts_type_query : {X : Type 0} (g h : Ident → Ident) (f k : X → X) (n : TsTypeQuery X) → map_ts_type_query g f (map_ts_type_query h
    k n) ≡ map_ts_type_query (λ x. g (h x)) (λ x. f (k x)) n
fused_ts_type_query g h f k n = λ i. record n {
  expr_name = (fused_ts_type_query_expr g h f k) n.expr_name i;
  type_args = (option_fused (map_link f) (map_link k) (map_link (λ x. f (k x))) (λ x. refl)) n.type_args i;
}

pub fused_ts_call_signature_decl : {X : Type 0} (g h : Ident → Ident) (f k : X → X) (n : TsCallSignatureDecl X) → map_ts_call_signature_decl
    g f (map_ts_call_signature_decl h k n) ≡ map_ts_call_signature_decl (λ x. g (h x)) (λ x. f (k x)) n
fused_ts_call_signature_decl g h f k n = λ i. record n {
  params = (vec_fused (map_link f) (map_link k) (map_link (λ x. f (k x))) (λ x. refl)) n.params i;
  type_ann = (option_fused (map_link f) (map_link k) (map_link (λ x. f (k x))) (λ x. refl)) n.type_ann i;
  type_params = (option_fused (map_link f) (map_link k) (map_link (λ x. f (k x))) (λ x. refl)) n.type_params i;
}

pub fused_ts_construct_signature_decl : {X : Type 0} (g h : Ident → Ident) (f k : X → X) (n : TsConstructSignatureDecl X) →
    map_ts_construct_signature_decl g f (map_ts_construct_signature_decl h k n) ≡ map_ts_construct_signature_decl (λ x. g (h x)) (λ x. f (k
    x)) n
fused_ts_construct_signature_decl g h f k n = λ i. record n {
  params = (vec_fused (map_link f) (map_link k) (map_link (λ x. f (k x))) (λ x. refl)) n.params i;
  type_ann = (option_fused (map_link f) (map_link k) (map_link (λ x. f (k x))) (λ x. refl)) n.type_ann i;
  type_params = (option_fused (map_link f) (map_link k) (map_link (λ x. f (k x))) (λ x. refl)) n.type_params i;
}

pub fused_ts_property_signature : {X : Type 0} (g h : Ident → Ident) (f k : X → X) (n : TsPropertySignature X) → map_ts_property_signature g
    f (map_ts_property_signature h k n) ≡ map_ts_property_signature (λ x. g (h x)) (λ x. f (k x)) n
fused_ts_property_signature g h f k n = λ i. record n {
  key = map_link (λ x. f (k x)) n.key;
  type_ann = (option_fused (map_link f) (map_link k) (map_link (λ x. f (k x))) (λ x. refl)) n.type_ann i;
}

pub fused_ts_getter_signature : {X : Type 0} (g h : Ident → Ident) (f k : X → X) (n : TsGetterSignature X) → map_ts_getter_signature g f
    (map_ts_getter_signature h k n) ≡ map_ts_getter_signature (λ x. g (h x)) (λ x. f (k x)) n
fused_ts_getter_signature g h f k n = λ i. record n {
  key = map_link (λ x. f (k x)) n.key;
  type_ann = (option_fused (map_link f) (map_link k) (map_link (λ x. f (k x))) (λ x. refl)) n.type_ann i;
}

pub fused_ts_method_signature : {X : Type 0} (g h : Ident → Ident) (f k : X → X) (n : TsMethodSignature X) → map_ts_method_signature g f
    (map_ts_method_signature h k n) ≡ map_ts_method_signature (λ x. g (h x)) (λ x. f (k x)) n
fused_ts_method_signature g h f k n = λ i. record n {
  key = map_link (λ x. f (k x)) n.key;
  params = (vec_fused (map_link f) (map_link k) (map_link (λ x. f (k x))) (λ x. refl)) n.params i;
  type_ann = (option_fused (map_link f) (map_link k) (map_link (λ x. f (k x))) (λ x. refl)) n.type_ann i;
  type_params = (option_fused (map_link f) (map_link k) (map_link (λ x. f (k x))) (λ x. refl)) n.type_params i;
}

pub fused_ts_type_element : {X : Type 0} (g h : Ident → Ident) (f k : X → X) (n : TsTypeElement X) → map_ts_type_element g f
    (map_ts_type_element h k n) ≡ map_ts_type_element (λ x. g (h x)) (λ x. f (k x)) n
fused_ts_type_element g h f k (ts_type_elements.TsCallSignatureDecl n) = ap ts_type_elements.TsCallSignatureDecl
    ((fused_ts_call_signature_decl g h f k) n)
fused_ts_type_element g h f k (ts_type_elements.TsConstructSignatureDecl n) = ap ts_type_elements.TsConstructSignatureDecl
    ((fused_ts_construct_signature_decl g h f k) n)
fused_ts_type_element g h f k (ts_type_elements.TsPropertySignature n) = ap ts_type_elements.TsPropertySignature
    ((fused_ts_property_signature g h f k) n)
fused_ts_type_element g h f k (ts_type_elements.TsGetterSignature n) = ap ts_type_elements.TsGetterSignature ((fused_ts_getter_signature g h
    f k) n)
fused_ts_type_element g h f k (ts_type_elements.TsSetterSignature n) = refl
fused_ts_type_element g h f k (ts_type_elements.TsMethodSignature n) = ap ts_type_elements.TsMethodSignature ((fused_ts_method_signature g h
    f k) n)
fused_ts_type_element g h f k (ts_type_elements.TsIndexSignature n) = ap ts_type_elements.TsIndexSignature ((fused_ts_index_signature g h f
    k) n)

pub fused_ts_type_lit : {X : Type 0} (g h : Ident → Ident) (f k : X → X) (n : TsTypeLit X) → map_ts_type_lit g f (map_ts_type_lit h k n) ≡
    map_ts_type_lit (λ x. g (h x)) (λ x. f (k x)) n
fused_ts_type_lit g h f k n = λ i. record n {
  members = (vec_fused (map_ts_type_element g f) (map_ts_type_element h k) (map_ts_type_element (λ x. g (h x)) (λ x. f (k x))) (fused_ts_type_element g h f k)) n.members i;
}

pub fused_ts_tuple_element : {X : Type 0} (g h : Ident → Ident) (f k : X → X) (n : TsTupleElement X) → map_ts_tuple_element g f
    (map_ts_tuple_element h k n) ≡ map_ts_tuple_element (λ x. g (h x)) (λ x. f (k x)) n
fused_ts_tuple_element g h f k n = λ i. record n {
  label = (option_fused (map_link f) (map_link k) (map_link (λ x. f (k x))) (λ x. refl)) n.label i;
  ty = map_link (λ x. f (k x)) n.ty;
}

pub fused_ts_tuple_type : {X : Type 0} (g h : Ident → Ident) (f k : X → X) (n : TsTupleType X) → map_ts_tuple_type g f (map_ts_tuple_type h
    k n) ≡ map_ts_tuple_type (λ x. g (h x)) (λ x. f (k x)) n
fused_ts_tuple_type g h f k n = λ i. record n {
  elem_types = (vec_fused (map_ts_tuple_element g f) (map_ts_tuple_element h k) (map_ts_tuple_element (λ x. g (h x)) (λ x. f (k x))) (fused_ts_tuple_element g h f k)) n.elem_types i;
}

pub fused_ts_union_type : {X : Type 0} (g h : Ident → Ident) (f k : X → X) (n : TsUnionType X) → map_ts_union_type g f (map_ts_union_type h
    k n) ≡ map_ts_union_type (λ x. g (h x)) (λ x. f (k x)) n
fused_ts_union_type g h f k n = λ i. record n {
  types = (vec_fused (map_link f) (map_link k) (map_link (λ x. f (k x))) (λ x. refl)) n.types i;
}

pub fused_ts_intersection_type : {X : Type 0} (g h : Ident → Ident) (f k : X → X) (n : TsIntersectionType X) → map_ts_intersection_type g f
    (map_ts_intersection_type h k n) ≡ map_ts_intersection_type (λ x. g (h x)) (λ x. f (k x)) n
fused_ts_intersection_type g h f k n = λ i. record n {
  types = (vec_fused (map_link f) (map_link k) (map_link (λ x. f (k x))) (λ x. refl)) n.types i;
}

pub fused_ts_union_or_intersection_type : {X : Type 0} (g h : Ident → Ident) (f k : X → X) (n : TsUnionOrIntersectionType X) →
    map_ts_union_or_intersection_type g f (map_ts_union_or_intersection_type h k n) ≡ map_ts_union_or_intersection_type (λ x. g (h x)) (λ x.
    f (k x)) n
fused_ts_union_or_intersection_type g h f k (ts_union_or_intersection_types.TsUnionType n) = ap ts_union_or_intersection_types.TsUnionType
    ((fused_ts_union_type g h f k) n)
fused_ts_union_or_intersection_type g h f k (ts_union_or_intersection_types.TsIntersectionType n) = ap
    ts_union_or_intersection_types.TsIntersectionType ((fused_ts_intersection_type g h f k) n)

pub fused_ts_type_param : {X : Type 0} (g h : Ident → Ident) (f k : X → X) (n : TsTypeParam X) → map_ts_type_param g f (map_ts_type_param h
    k n) ≡ map_ts_type_param (λ x. g (h x)) (λ x. f (k x)) n
fused_ts_type_param g h f k n = λ i. record n {
  name = g (h n.name);
  constraint = (option_fused (map_link f) (map_link k) (map_link (λ x. f (k x))) (λ x. refl)) n.constraint i;
  default = (option_fused (map_link f) (map_link k) (map_link (λ x. f (k x))) (λ x. refl)) n.default i;
}

pub fused_ts_infer_type : {X : Type 0} (g h : Ident → Ident) (f k : X → X) (n : TsInferType X) → map_ts_infer_type g f (map_ts_infer_type h
    k n) ≡ map_ts_infer_type (λ x. g (h x)) (λ x. f (k x)) n
fused_ts_infer_type g h f k n = λ i. record n { type_param = (fused_ts_type_param g h f k) n.type_param i }

pub fused_ts_mapped_type : {X : Type 0} (g h : Ident → Ident) (f k : X → X) (n : TsMappedType X) → map_ts_mapped_type g f
    (map_ts_mapped_type h k n) ≡ map_ts_mapped_type (λ x. g (h x)) (λ x. f (k x)) n
fused_ts_mapped_type g h f k n = λ i. record n {
  type_param = (fused_ts_type_param g h f k) n.type_param i;
  name_type = (option_fused (map_link f) (map_link k) (map_link (λ x. f (k x))) (λ x. refl)) n.name_type i;
  type_ann = (option_fused (map_link f) (map_link k) (map_link (λ x. f (k x))) (λ x. refl)) n.type_ann i;
}

pub fused_ts_tpl_lit_type : {X : Type 0} (g h : Ident → Ident) (f k : X → X) (n : TsTplLitType X) → map_ts_tpl_lit_type g f
    (map_ts_tpl_lit_type h k n) ≡ map_ts_tpl_lit_type (λ x. g (h x)) (λ x. f (k x)) n
fused_ts_tpl_lit_type g h f k n = λ i. record n {
  types = (vec_fused (map_link f) (map_link k) (map_link (λ x. f (k x))) (λ x. refl)) n.types i;
}

pub fused_ts_lit : {X : Type 0} (g h : Ident → Ident) (f k : X → X) (n : TsLit X) → map_ts_lit g f (map_ts_lit h k n) ≡ map_ts_lit (λ x. g
    (h x)) (λ x. f (k x)) n
fused_ts_lit g h f k (ts_lits.Number n) = refl
fused_ts_lit g h f k (ts_lits.Str n) = refl
fused_ts_lit g h f k (ts_lits.Bool n) = refl
fused_ts_lit g h f k (ts_lits.BigInt n) = refl
fused_ts_lit g h f k (ts_lits.Tpl n) = ap ts_lits.Tpl ((fused_ts_tpl_lit_type g h f k) n)

pub fused_ts_lit_type : {X : Type 0} (g h : Ident → Ident) (f k : X → X) (n : TsLitType X) → map_ts_lit_type g f (map_ts_lit_type h k n) ≡
    map_ts_lit_type (λ x. g (h x)) (λ x. f (k x)) n
fused_ts_lit_type g h f k n = λ i. record n { lit = (fused_ts_lit g h f k) n.lit i }

pub fused_ts_this_type_or_ident : (g h : Ident → Ident) (n : TsThisTypeOrIdent) → map_ts_this_type_or_ident g (map_ts_this_type_or_ident h
    n) ≡ map_ts_this_type_or_ident (λ x. g (h x)) n
fused_ts_this_type_or_ident g h (ts_this_type_or_idents.TsThisType n) = refl
fused_ts_this_type_or_ident g h (ts_this_type_or_idents.Ident n) = refl

pub fused_ts_type_predicate : {X : Type 0} (g h : Ident → Ident) (f k : X → X) (n : TsTypePredicate X) → map_ts_type_predicate g f
    (map_ts_type_predicate h k n) ≡ map_ts_type_predicate (λ x. g (h x)) (λ x. f (k x)) n
fused_ts_type_predicate g h f k n = λ i. record n {
  param_name = (fused_ts_this_type_or_ident g h) n.param_name i;
  type_ann = (option_fused (map_link f) (map_link k) (map_link (λ x. f (k x))) (λ x. refl)) n.type_ann i;
}

pub fused_ts_type : {X : Type 0} (g h : Ident → Ident) (f k : X → X) (n : TsType X) → map_ts_type g f (map_ts_type h k n) ≡ map_ts_type (λ
    x. g (h x)) (λ x. f (k x)) n
fused_ts_type g h f k (ts_types.TsKeywordType n) = refl
fused_ts_type g h f k (ts_types.TsThisType n) = refl
fused_ts_type g h f k (ts_types.TsFnOrConstructorType n) = ap ts_types.TsFnOrConstructorType ((box_fused (map_ts_fn_or_constructor_type g f)
    (map_ts_fn_or_constructor_type h k) (map_ts_fn_or_constructor_type (λ x. g (h x)) (λ x. f (k x))) (fused_ts_fn_or_constructor_type g h f
    k)) n)
fused_ts_type g h f k (ts_types.TsTypeRef n) = ap ts_types.TsTypeRef ((fused_ts_type_ref g h f k) n)
fused_ts_type g h f k (ts_types.TsTypeQuery n) = ap ts_types.TsTypeQuery ((box_fused (map_ts_type_query g f) (map_ts_type_query h k)
    (map_ts_type_query (λ x. g (h x)) (λ x. f (k x))) (fused_ts_type_query g h f k)) n)
fused_ts_type g h f k (ts_types.TsTypeLit n) = ap ts_types.TsTypeLit ((fused_ts_type_lit g h f k) n)
fused_ts_type g h f k (ts_types.TsArrayType n) = refl
fused_ts_type g h f k (ts_types.TsTupleType n) = ap ts_types.TsTupleType ((fused_ts_tuple_type g h f k) n)
fused_ts_type g h f k (ts_types.TsOptionalType n) = refl
fused_ts_type g h f k (ts_types.TsRestType n) = refl
fused_ts_type g h f k (ts_types.TsUnionOrIntersectionType n) = ap ts_types.TsUnionOrIntersectionType ((fused_ts_union_or_intersection_type g
    h f k) n)
fused_ts_type g h f k (ts_types.TsConditionalType n) = refl
fused_ts_type g h f k (ts_types.TsInferType n) = ap ts_types.TsInferType ((box_fused (map_ts_infer_type g f) (map_ts_infer_type h k)
    (map_ts_infer_type (λ x. g (h x)) (λ x. f (k x))) (fused_ts_infer_type g h f k)) n)
fused_ts_type g h f k (ts_types.TsParenthesizedType n) = refl
fused_ts_type g h f k (ts_types.TsTypeOperator n) = refl
fused_ts_type g h f k (ts_types.TsIndexedAccessType n) = refl
fused_ts_type g h f k (ts_types.TsMappedType n) = ap ts_types.TsMappedType ((box_fused (map_ts_mapped_type g f) (map_ts_mapped_type h k)
    (map_ts_mapped_type (λ x. g (h x)) (λ x. f (k x))) (fused_ts_mapped_type g h f k)) n)
fused_ts_type g h f k (ts_types.TsLitType n) = ap ts_types.TsLitType ((box_fused (map_ts_lit_type g f) (map_ts_lit_type h k)
    (map_ts_lit_type (λ x. g (h x)) (λ x. f (k x))) (fused_ts_lit_type g h f k)) n)
fused_ts_type g h f k (ts_types.TsTypePredicate n) = ap ts_types.TsTypePredicate ((box_fused (map_ts_type_predicate g f)
    (map_ts_type_predicate h k) (map_ts_type_predicate (λ x. g (h x)) (λ x. f (k x))) (fused_ts_type_predicate g h f k)) n)
fused_ts_type g h f k (ts_types.TsImportType n) = ap ts_types.TsImportType ((box_fused (map_ts_import_type g f) (map_ts_import_type h k)
    (map_ts_import_type (λ x. g (h x)) (λ x. f (k x))) (fused_ts_import_type g h f k)) n)

pub fused_ts_type_ann : {X : Type 0} (g h : Ident → Ident) (f k : X → X) (n : TsTypeAnn X) → map_ts_type_ann g f (map_ts_type_ann h k n) ≡
    map_ts_type_ann (λ x. g (h x)) (λ x. f (k x)) n
fused_ts_type_ann g h f k n = λ i. record n { type_ann = (fused_ts_type g h f k) n.type_ann i }

pub fused_ts_type_param_decl : {X : Type 0} (g h : Ident → Ident) (f k : X → X) (n : TsTypeParamDecl X) → map_ts_type_param_decl g f
    (map_ts_type_param_decl h k n) ≡ map_ts_type_param_decl (λ x. g (h x)) (λ x. f (k x)) n
fused_ts_type_param_decl g h f k n = λ i. record n {
  params = (vec_fused (map_ts_type_param g f) (map_ts_type_param h k) (map_ts_type_param (λ x. g (h x)) (λ x. f (k x))) (fused_ts_type_param g h f k)) n.params i;
}

pub fused_ts_type_param_instantiation : {X : Type 0} (g h : Ident → Ident) (f k : X → X) (n : TsTypeParamInstantiation X) →
    map_ts_type_param_instantiation g f (map_ts_type_param_instantiation h k n) ≡ map_ts_type_param_instantiation (λ x. g (h x)) (λ x. f (k
    x)) n
fused_ts_type_param_instantiation g h f k n = λ i. record n {
  params = (vec_fused (map_link f) (map_link k) (map_link (λ x. f (k x))) (λ x. refl)) n.params i;
}

pub fused_ts_fn_param : {X : Type 0} (g h : Ident → Ident) (f k : X → X) (n : TsFnParam X) → map_ts_fn_param g f (map_ts_fn_param h k n) ≡
    map_ts_fn_param (λ x. g (h x)) (λ x. f (k x)) n
fused_ts_fn_param g h f k (ts_fn_params.Ident n) = ap ts_fn_params.Ident ((fused_binding_ident g h f k) n)
fused_ts_fn_param g h f k (ts_fn_params.Array n) = ap ts_fn_params.Array ((fused_array_pat g h f k) n)
fused_ts_fn_param g h f k (ts_fn_params.Rest n) = ap ts_fn_params.Rest ((fused_rest_pat g h f k) n)
fused_ts_fn_param g h f k (ts_fn_params.Object n) = ap ts_fn_params.Object ((fused_object_pat g h f k) n)

pub fused_ts_interface_body : {X : Type 0} (g h : Ident → Ident) (f k : X → X) (n : TsInterfaceBody X) → map_ts_interface_body g f
    (map_ts_interface_body h k n) ≡ map_ts_interface_body (λ x. g (h x)) (λ x. f (k x)) n
fused_ts_interface_body g h f k n = λ i. record n {
  body = (vec_fused (map_ts_type_element g f) (map_ts_type_element h k) (map_ts_type_element (λ x. g (h x)) (λ x. f (k x))) (fused_ts_type_element g h f k)) n.body i;
}

pub fused_ts_entity_name : {X : Type 0} (g h : Ident → Ident) (f k : X → X) (n : TsEntityName X) → map_ts_entity_name g f
    (map_ts_entity_name h k n) ≡ map_ts_entity_name (λ x. g (h x)) (λ x. f (k x)) n
fused_ts_entity_name g h f k (ts_entity_names.TsQualifiedName n) = refl
fused_ts_entity_name g h f k (ts_entity_names.Ident n) = refl
