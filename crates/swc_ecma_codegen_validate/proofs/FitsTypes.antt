-- The same of types of TypeScript.
use Rattle.std.proofs.Common.{◌≡◌, ◌&&◌, ◌||◌, Bool, true, false, not, refl}
use Rattle.swc_ecma_codegen_tree.specs.declared.ts_types.TsArrayType.{TsArrayType}
use Rattle.swc_ecma_codegen_tree.specs.declared.ts_types.TsConditionalType.{TsConditionalType}
use Rattle.swc_ecma_codegen_tree.specs.declared.ts_types.TsConstructorType.{TsConstructorType}
use Rattle.swc_ecma_codegen_tree.specs.declared.ts_types.TsEntityName.{TsEntityName}
use Rattle.swc_ecma_codegen_tree.specs.declared.ts_types.TsFnOrConstructorType.{TsFnOrConstructorType}
use Rattle.swc_ecma_codegen_tree.specs.declared.ts_types.TsFnParam.{TsFnParam}
use Rattle.swc_ecma_codegen_tree.specs.declared.ts_types.TsFnType.{TsFnType}
use Rattle.swc_ecma_codegen_tree.specs.declared.ts_types.TsImportType.{TsImportType}
use Rattle.swc_ecma_codegen_tree.specs.declared.ts_types.TsIndexedAccessType.{TsIndexedAccessType}
use Rattle.swc_ecma_codegen_tree.specs.declared.ts_types.TsInferType.{TsInferType}
use Rattle.swc_ecma_codegen_tree.specs.declared.ts_types.TsIntersectionType.{TsIntersectionType}
use Rattle.swc_ecma_codegen_tree.specs.declared.ts_types.TsLit.{TsLit}
use Rattle.swc_ecma_codegen_tree.specs.declared.ts_types.TsLitType.{TsLitType}
use Rattle.swc_ecma_codegen_tree.specs.declared.ts_types.TsMappedType.{TsMappedType}
use Rattle.swc_ecma_codegen_tree.specs.declared.ts_types.TsOptionalType.{TsOptionalType}
use Rattle.swc_ecma_codegen_tree.specs.declared.ts_types.TsParenthesizedType.{TsParenthesizedType}
use Rattle.swc_ecma_codegen_tree.specs.declared.ts_types.TsQualifiedName.{TsQualifiedName}
use Rattle.swc_ecma_codegen_tree.specs.declared.ts_types.TsRestType.{TsRestType}
use Rattle.swc_ecma_codegen_tree.specs.declared.ts_types.TsThisTypeOrIdent.{TsThisTypeOrIdent}
use Rattle.swc_ecma_codegen_tree.specs.declared.ts_types.TsTplLitType.{TsTplLitType}
use Rattle.swc_ecma_codegen_tree.specs.declared.ts_types.TsTupleElement.{TsTupleElement}
use Rattle.swc_ecma_codegen_tree.specs.declared.ts_types.TsTupleType.{TsTupleType}
use Rattle.swc_ecma_codegen_tree.specs.declared.ts_types.TsType.{TsType}
use Rattle.swc_ecma_codegen_tree.specs.declared.ts_types.TsTypeAnn.{TsTypeAnn}
use Rattle.swc_ecma_codegen_tree.specs.declared.ts_types.TsTypeLit.{TsTypeLit}
use Rattle.swc_ecma_codegen_tree.specs.declared.ts_types.TsTypeOperator.{TsTypeOperator}
use Rattle.swc_ecma_codegen_tree.specs.declared.ts_types.TsTypeParam.{TsTypeParam}
use Rattle.swc_ecma_codegen_tree.specs.declared.ts_types.TsTypeParamDecl.{TsTypeParamDecl}
use Rattle.swc_ecma_codegen_tree.specs.declared.ts_types.TsTypeParamInstantiation.{TsTypeParamInstantiation}
use Rattle.swc_ecma_codegen_tree.specs.declared.ts_types.TsTypePredicate.{TsTypePredicate}
use Rattle.swc_ecma_codegen_tree.specs.declared.ts_types.TsTypeQuery.{TsTypeQuery}
use Rattle.swc_ecma_codegen_tree.specs.declared.ts_types.TsTypeQueryExpr.{TsTypeQueryExpr}
use Rattle.swc_ecma_codegen_tree.specs.declared.ts_types.TsTypeRef.{TsTypeRef}
use Rattle.swc_ecma_codegen_tree.specs.declared.ts_types.TsUnionOrIntersectionType.{TsUnionOrIntersectionType}
use Rattle.swc_ecma_codegen_tree.specs.declared.ts_types.TsUnionType.{TsUnionType}
use Rattle.swc_ecma_codegen_tree.specs.declared.ts_types.TsType.TheVariants as ts_types
use Rattle.swc_ecma_codegen_tree.specs.declared.ts_types.TsFnOrConstructorType.TheVariants as ts_fn_or_constructor_types
use Rattle.swc_ecma_codegen_tree.specs.declared.ts_types.TsUnionOrIntersectionType.TheVariants as ts_union_or_intersection_types
use Rattle.swc_ecma_codegen_tree.specs.declared.ts_types.TsThisTypeOrIdent.TheVariants as ts_this_type_or_idents
use Rattle.swc_ecma_codegen_tree.specs.declared.ts_types.TsLit.TheVariants as ts_lits
use Rattle.swc_ecma_codegen_tree.specs.declared.ts_types.TsTypeQueryExpr.TheVariants as ts_type_query_exprs
use Rattle.swc_ecma_codegen_tree.specs.declared.ts_types.TsEntityName.TheVariants as ts_entity_names
use Rattle.swc_ecma_codegen_tree.specs.declared.ts_types.TsFnParam.TheVariants as ts_fn_params
use Rattle.swc_ecma_codegen_validate.specs.ExprRules as exprs
use Rattle.swc_ecma_codegen_grammar.specs.declared.roles.Role.{Role}
use Rattle.swc_ecma_codegen_grammar.specs.declared.roles.Role.TheVariants.{Annotation, AnyType, EntityName, Pattern, SignatureParameter, TypeArguments, TypeParameters}
use Rattle.swc_ecma_codegen_grammar.specs.MemberPhrases.{ts_type_element}
use Rattle.swc_ecma_codegen_grammar.specs.Phrases.{Phrase, is_possible}
use Rattle.swc_ecma_codegen_grammar.specs.TypePhrases.{ts_array_type, ts_conditional_type, ts_constructor_type, ts_entity_name, ts_fn_or_constructor_type, ts_fn_param, ts_fn_type, ts_import_type, ts_indexed_access_type, ts_infer_type, ts_intersection_type, ts_keyword_type, ts_lit, ts_lit_type, ts_mapped_type, ts_optional_type, ts_parenthesized_type, ts_qualified_name, ts_rest_type, ts_this_type, ts_this_type_or_ident, ts_tpl_lit_type, ts_tuple_element, ts_tuple_type, ts_type, ts_type_ann, ts_type_lit, ts_type_operator, ts_type_param, ts_type_param_decl, ts_type_param_instantiation, ts_type_predicate, ts_type_query, ts_type_query_expr, ts_type_ref, ts_union_or_intersection_type, ts_union_type}
use Rattle.swc_ecma_codegen_validate.specs.TypeRules as rules
use Rattle.swc_ecma_codegen_validate.specs.Rules.{Findings, findings, no_links}
use Rattle.swc_ecma_codegen_validate.proofs.Fitting.{Held, each_fits, some_fits}
use Rattle.swc_ecma_codegen_validate.proofs.FitsNames.{big_int_fits, binding_ident_fits, bool_lit_fits, ident_fits, ident_name_fits, number_fits, str_lit_fits}
use Rattle.swc_ecma_codegen_validate.proofs.FitsPats.{array_pat_fits, object_pat_fits, rest_pat_fits}
use Rattle.swc_ecma_codegen_validate.proofs.FitsTs.{ts_type_element_fits}
use Rattle.swc_ecma_codegen_validate.proofs.FitsExprs.{elements_fit}
use Rattle.swc_ecma_codegen_validate.proofs.TypesPossible.{arguments_possible, array_type_possible, constructor_type_possible, fn_type_possible, import_type_possible, indexed_possible, intersection_possible, mapped_param_possible, mapped_type_possible, optional_type_possible, param_possible, params_possible as typesPossible_params_possible, parenthesized_possible, predicate_possible, query_possible, ref_possible, tpl_type_possible, tuple_element_possible, tuple_possible, type_lit_possible, union_possible}

pub ts_this_type_or_ident_fits : (n : TsThisTypeOrIdent) → (findings no_links (rules.ts_this_type_or_ident n)).none → is_possible (ts_this_type_or_ident n) ≡ true
unfolding findings rules.ts_this_type_or_ident ts_this_type_or_ident ts_this_type is_possible
ts_this_type_or_ident_fits (ts_this_type_or_idents.TsThisType n) h = refl
ts_this_type_or_ident_fits (ts_this_type_or_idents.Ident n) h = simp (ident_fits n h)

module _ {X : Type 0} (f : X → Role → Findings) (g : X → Role → Phrase) (held : Held f g) where
  pub ts_qualified_name_fits : (n : TsQualifiedName X) → (findings f (rules.ts_qualified_name n)).none → is_possible (ts_qualified_name g n) ≡ true
  unfolding findings rules.ts_qualified_name ts_qualified_name is_possible
  ts_qualified_name_fits n h = simp (held.node n.left.node.value EntityName h.0, ident_name_fits n.right h.1)

  pub ts_entity_name_fits : (n : TsEntityName X) → (findings f (rules.ts_entity_name n)).none → is_possible (ts_entity_name g n) ≡ true
  unfolding findings rules.ts_entity_name ts_entity_name is_possible
  ts_entity_name_fits (ts_entity_names.TsQualifiedName n) h = simp (ts_qualified_name_fits n h)
  ts_entity_name_fits (ts_entity_names.Ident n) h = simp (ident_fits n h)

  pub ts_type_ref_fits : (n : TsTypeRef X) → (findings f (rules.ts_type_ref n)).none → is_possible (ts_type_ref g n) ≡ true
  unfolding findings rules.ts_type_ref
  ts_type_ref_fits n h = simp (ref_possible, held.node n.type_name.node.value EntityName h.0, some_fits _ _ n.type_params h.1 (λ x. held.node x.node.value TypeArguments))

  pub ts_type_param_instantiation_fits : (n : TsTypeParamInstantiation X) → (findings f (rules.ts_type_param_instantiation n)).none → is_possible (ts_type_param_instantiation g n) ≡ true
  unfolding findings rules.ts_type_param_instantiation
  ts_type_param_instantiation_fits n h = simp (arguments_possible, h.0, each_fits _ _ _ n.params.items h.1 (λ x. held.node x.node.value AnyType))

  pub ts_type_param_fits : (n : TsTypeParam X) → (findings f (rules.ts_type_param n)).none → is_possible (ts_type_param g n) ≡ true
  unfolding findings rules.ts_type_param
  ts_type_param_fits n h = simp (param_possible, ident_fits n.name h.0, some_fits _ _ n.constraint h.1.0 (λ x. held.node x.node.value AnyType), some_fits _ _ n.default h.1.1 (λ x. held.node x.node.value AnyType))

  pub ts_type_param_decl_fits : (n : TsTypeParamDecl X) → (findings f (rules.ts_type_param_decl n)).none → is_possible (ts_type_param_decl g n) ≡ true
  unfolding findings rules.ts_type_param_decl
  ts_type_param_decl_fits n h = simp (typesPossible_params_possible, h.0, each_fits _ (ts_type_param g) _ n.params.items h.1 ts_type_param_fits)

  pub ts_fn_param_fits : (n : TsFnParam X) → (findings f (rules.ts_fn_param n)).none → is_possible (ts_fn_param g n) ≡ true
  unfolding findings rules.ts_fn_param ts_fn_param is_possible
  ts_fn_param_fits (ts_fn_params.Ident n) h = simp (binding_ident_fits f g held n h)
  ts_fn_param_fits (ts_fn_params.Array n) h = simp (array_pat_fits f g held n h)
  ts_fn_param_fits (ts_fn_params.Rest n) h = simp (rest_pat_fits f g held n h)
  ts_fn_param_fits (ts_fn_params.Object n) h = simp (object_pat_fits f g held n h)

  pub ts_fn_type_fits : (n : TsFnType X) → (findings f (rules.ts_fn_type n)).none → is_possible (ts_fn_type g n) ≡ true
  unfolding findings rules.ts_fn_type
  ts_fn_type_fits n h = simp (fn_type_possible, some_fits _ _ n.type_params h.0 (λ x. held.node x.node.value TypeParameters), each_fits _ _ _ n.params.items h.1.0 (λ x. held.node x.node.value SignatureParameter), held.node n.type_ann.node.value Annotation h.1.1)

  pub ts_constructor_type_fits : (n : TsConstructorType X) → (findings f (rules.ts_constructor_type n)).none → is_possible (ts_constructor_type g n) ≡ true
  unfolding findings rules.ts_constructor_type
  ts_constructor_type_fits n h = simp (constructor_type_possible, some_fits _ _ n.type_params h.0 (λ x. held.node x.node.value TypeParameters), each_fits _ _ _ n.params.items h.1.0 (λ x. held.node x.node.value SignatureParameter), held.node n.type_ann.node.value Annotation h.1.1)

  pub ts_fn_or_constructor_type_fits : (n : TsFnOrConstructorType X) → (findings f (rules.ts_fn_or_constructor_type n)).none → is_possible (ts_fn_or_constructor_type g n) ≡ true
  unfolding findings rules.ts_fn_or_constructor_type ts_fn_or_constructor_type is_possible
  ts_fn_or_constructor_type_fits (ts_fn_or_constructor_types.TsFnType n) h = simp (ts_fn_type_fits n h)
  ts_fn_or_constructor_type_fits (ts_fn_or_constructor_types.TsConstructorType n) h = simp (ts_constructor_type_fits n h)

  pub ts_tpl_lit_type_fits : (n : TsTplLitType X) → (findings f (rules.ts_tpl_lit_type n)).none → is_possible (ts_tpl_lit_type g n) ≡ true
  unfolding findings rules.ts_tpl_lit_type exprs.elements
  ts_tpl_lit_type_fits n h = simp (tpl_type_possible, h.0, elements_fit 0 false n.quasis.items h.1.0, each_fits _ _ _ n.types.items h.1.1 (λ x. held.node x.node.value AnyType))

  pub ts_lit_fits : (n : TsLit X) → (findings f (rules.ts_lit n)).none → is_possible (ts_lit g n) ≡ true
  unfolding findings rules.ts_lit ts_lit is_possible
  ts_lit_fits (ts_lits.Number n) h = simp (number_fits n h)
  ts_lit_fits (ts_lits.Str n) h = simp (str_lit_fits n h)
  ts_lit_fits (ts_lits.Bool n) h = simp (bool_lit_fits n h)
  ts_lit_fits (ts_lits.BigInt n) h = simp (big_int_fits n h)
  ts_lit_fits (ts_lits.Tpl n) h = simp (ts_tpl_lit_type_fits n h)

  pub ts_lit_type_fits : (n : TsLitType X) → (findings f (rules.ts_lit_type n)).none → is_possible (ts_lit_type g n) ≡ true
  unfolding findings rules.ts_lit_type ts_lit_type is_possible
  ts_lit_type_fits n h = simp (ts_lit_fits n.lit h)

  pub ts_import_type_fits : (n : TsImportType X) → (findings f (rules.ts_import_type n)).none → is_possible (ts_import_type g n) ≡ true
  unfolding findings rules.ts_import_type
  ts_import_type_fits n h = simp (import_type_possible, str_lit_fits n.arg h.0, some_fits _ _ n.qualifier h.1.0 (λ x. held.node x.node.value EntityName), some_fits _ _ n.type_args h.1.1 (λ x. held.node x.node.value TypeArguments))

  pub ts_type_query_expr_fits : (n : TsTypeQueryExpr X) → (findings f (rules.ts_type_query_expr n)).none → is_possible (ts_type_query_expr g n) ≡ true
  unfolding findings rules.ts_type_query_expr ts_type_query_expr is_possible
  ts_type_query_expr_fits (ts_type_query_exprs.TsEntityName n) h = simp (held.node n.node.value EntityName h)
  ts_type_query_expr_fits (ts_type_query_exprs.Import n) h = simp (ts_import_type_fits n h)

  pub ts_type_query_fits : (n : TsTypeQuery X) → (findings f (rules.ts_type_query n)).none → is_possible (ts_type_query g n) ≡ true
  unfolding findings rules.ts_type_query
  ts_type_query_fits n h = simp (query_possible, ts_type_query_expr_fits n.expr_name h.0, some_fits _ _ n.type_args h.1 (λ x. held.node x.node.value TypeArguments))

  pub ts_type_lit_fits : (n : TsTypeLit X) → (findings f (rules.ts_type_lit n)).none → is_possible (ts_type_lit g n) ≡ true
  unfolding findings rules.ts_type_lit
  ts_type_lit_fits n h = simp (type_lit_possible, each_fits _ (ts_type_element g) _ n.members.items h (ts_type_element_fits f g held))

  pub ts_array_type_fits : (n : TsArrayType X) → (findings f (rules.ts_array_type n)).none → is_possible (ts_array_type g n) ≡ true
  unfolding findings rules.ts_array_type
  ts_array_type_fits n h = simp (array_type_possible, held.node n.elem_type.node.value AnyType h)

  pub ts_tuple_element_fits : (n : TsTupleElement X) → (findings f (rules.ts_tuple_element n)).none → is_possible (ts_tuple_element g n) ≡ true
  unfolding findings rules.ts_tuple_element
  ts_tuple_element_fits n h = simp (tuple_element_possible, some_fits _ _ n.label h.0 (λ x. held.node x.node.value Pattern), held.node n.ty.node.value AnyType h.1)

  pub ts_tuple_type_fits : (n : TsTupleType X) → (findings f (rules.ts_tuple_type n)).none → is_possible (ts_tuple_type g n) ≡ true
  unfolding findings rules.ts_tuple_type
  ts_tuple_type_fits n h = simp (tuple_possible, each_fits _ (ts_tuple_element g) _ n.elem_types.items h ts_tuple_element_fits)

  pub ts_optional_type_fits : (n : TsOptionalType X) → (findings f (rules.ts_optional_type n)).none → is_possible (ts_optional_type g n) ≡ true
  unfolding findings rules.ts_optional_type
  ts_optional_type_fits n h = simp (optional_type_possible, held.node n.type_ann.node.value AnyType h)

  pub ts_rest_type_fits : (n : TsRestType X) → (findings f (rules.ts_rest_type n)).none → is_possible (ts_rest_type g n) ≡ true
  unfolding findings rules.ts_rest_type ts_rest_type is_possible
  ts_rest_type_fits n h = simp (held.node n.type_ann.node.value AnyType h)

  -- of no modifier
  none_of : (a b c : Bool) → (not a && (not b && not c)) ≡ true → not (a || (b || c)) ≡ true
  none_of true b c h = h
  none_of false true c h = h
  none_of false false true h = h
  none_of false false false h = refl

  pub ts_mapped_type_fits : (n : TsMappedType X) → (findings f (rules.ts_mapped_type n)).none → is_possible (ts_mapped_type g n) ≡ true
  unfolding findings rules.ts_mapped_type rules.ts_type_param
  ts_mapped_type_fits n h =
      let p = h.1.0 in
      simp (mapped_type_possible, mapped_param_possible, none_of n.type_param.is_in n.type_param.is_out n.type_param.is_const h.0, ident_fits n.type_param.name p.0, some_fits _ _ n.type_param.constraint p.1.0 (λ x. held.node x.node.value AnyType), some_fits _ _ n.type_param.default p.1.1 (λ x. held.node x.node.value AnyType), some_fits _ _ n.name_type h.1.1.0 (λ x. held.node x.node.value AnyType), some_fits _ _ n.type_ann h.1.1.1 (λ x. held.node x.node.value AnyType))

  pub ts_union_type_fits : (n : TsUnionType X) → (findings f (rules.ts_union_type n)).none → is_possible (ts_union_type g n) ≡ true
  unfolding findings rules.ts_union_type
  ts_union_type_fits n h = simp (union_possible, h.0, each_fits _ _ _ n.types.items h.1 (λ x. held.node x.node.value AnyType))

  pub ts_intersection_type_fits : (n : TsIntersectionType X) → (findings f (rules.ts_intersection_type n)).none → is_possible (ts_intersection_type g n) ≡ true
  unfolding findings rules.ts_intersection_type
  ts_intersection_type_fits n h = simp (intersection_possible, h.0, each_fits _ _ _ n.types.items h.1 (λ x. held.node x.node.value AnyType))

  pub ts_union_or_intersection_type_fits : (n : TsUnionOrIntersectionType X) → (findings f (rules.ts_union_or_intersection_type n)).none → is_possible (ts_union_or_intersection_type g n) ≡ true
  unfolding findings rules.ts_union_or_intersection_type ts_union_or_intersection_type is_possible
  ts_union_or_intersection_type_fits (ts_union_or_intersection_types.TsUnionType n) h = simp (ts_union_type_fits n h)
  ts_union_or_intersection_type_fits (ts_union_or_intersection_types.TsIntersectionType n) h = simp (ts_intersection_type_fits n h)

  pub ts_parenthesized_type_fits : (n : TsParenthesizedType X) → (findings f (rules.ts_parenthesized_type n)).none → is_possible (ts_parenthesized_type g n) ≡ true
  unfolding findings rules.ts_parenthesized_type
  ts_parenthesized_type_fits n h = simp (parenthesized_possible, held.node n.type_ann.node.value AnyType h)

  pub ts_type_operator_fits : (n : TsTypeOperator X) → (findings f (rules.ts_type_operator n)).none → is_possible (ts_type_operator g n) ≡ true
  unfolding findings rules.ts_type_operator ts_type_operator is_possible
  ts_type_operator_fits n h = simp (held.node n.type_ann.node.value AnyType h)

  pub ts_indexed_access_type_fits : (n : TsIndexedAccessType X) → (findings f (rules.ts_indexed_access_type n)).none → is_possible (ts_indexed_access_type g n) ≡ true
  unfolding findings rules.ts_indexed_access_type
  ts_indexed_access_type_fits n h = simp (indexed_possible, held.node n.obj_type.node.value AnyType h.0, held.node n.index_type.node.value AnyType h.1)

  pub ts_conditional_type_fits : (n : TsConditionalType X) → (findings f (rules.ts_conditional_type n)).none → is_possible (ts_conditional_type g n) ≡ true
  unfolding findings rules.ts_conditional_type ts_conditional_type is_possible
  ts_conditional_type_fits n h = simp (held.node n.check_type.node.value AnyType h.0, held.node n.extends_type.node.value AnyType h.1.0, held.node n.true_type.node.value AnyType h.1.1.0, held.node n.false_type.node.value AnyType h.1.1.1)

  pub ts_infer_type_fits : (n : TsInferType X) → (findings f (rules.ts_infer_type n)).none → is_possible (ts_infer_type g n) ≡ true
  unfolding findings rules.ts_infer_type ts_infer_type is_possible
  ts_infer_type_fits n h = simp (ts_type_param_fits n.type_param h)

  pub ts_type_predicate_fits : (n : TsTypePredicate X) → (findings f (rules.ts_type_predicate n)).none → is_possible (ts_type_predicate g n) ≡ true
  unfolding findings rules.ts_type_predicate
  ts_type_predicate_fits n h = simp (predicate_possible, ts_this_type_or_ident_fits n.param_name h.0, some_fits _ _ n.type_ann h.1 (λ x. held.node x.node.value Annotation))

  pub ts_type_fits : (n : TsType X) → (findings f (rules.ts_type n)).none → is_possible (ts_type g n) ≡ true
  unfolding findings rules.ts_type ts_type ts_keyword_type ts_this_type is_possible
  ts_type_fits (ts_types.TsKeywordType n) h = refl
  ts_type_fits (ts_types.TsThisType n) h = refl
  ts_type_fits (ts_types.TsFnOrConstructorType n) h = simp (ts_fn_or_constructor_type_fits n.value h)
  ts_type_fits (ts_types.TsTypeRef n) h = simp (ts_type_ref_fits n h)
  ts_type_fits (ts_types.TsTypeQuery n) h = simp (ts_type_query_fits n.value h)
  ts_type_fits (ts_types.TsTypeLit n) h = simp (ts_type_lit_fits n h)
  ts_type_fits (ts_types.TsArrayType n) h = simp (ts_array_type_fits n h)
  ts_type_fits (ts_types.TsTupleType n) h = simp (ts_tuple_type_fits n h)
  ts_type_fits (ts_types.TsOptionalType n) h = simp (ts_optional_type_fits n h)
  ts_type_fits (ts_types.TsRestType n) h = simp (ts_rest_type_fits n h)
  ts_type_fits (ts_types.TsUnionOrIntersectionType n) h = simp (ts_union_or_intersection_type_fits n h)
  ts_type_fits (ts_types.TsConditionalType n) h = simp (ts_conditional_type_fits n h)
  ts_type_fits (ts_types.TsInferType n) h = simp (ts_infer_type_fits n.value h)
  ts_type_fits (ts_types.TsParenthesizedType n) h = simp (ts_parenthesized_type_fits n h)
  ts_type_fits (ts_types.TsTypeOperator n) h = simp (ts_type_operator_fits n h)
  ts_type_fits (ts_types.TsIndexedAccessType n) h = simp (ts_indexed_access_type_fits n h)
  ts_type_fits (ts_types.TsMappedType n) h = simp (ts_mapped_type_fits n.value h)
  ts_type_fits (ts_types.TsLitType n) h = simp (ts_lit_type_fits n.value h)
  ts_type_fits (ts_types.TsTypePredicate n) h = simp (ts_type_predicate_fits n.value h)
  ts_type_fits (ts_types.TsImportType n) h = simp (ts_import_type_fits n.value h)

  pub ts_type_ann_fits : (n : TsTypeAnn X) → (findings f (rules.ts_type_ann n)).none → is_possible (ts_type_ann g n) ≡ true
  unfolding findings rules.ts_type_ann ts_type_ann is_possible
  ts_type_ann_fits n h = simp (ts_type_fits n.type_ann h)
