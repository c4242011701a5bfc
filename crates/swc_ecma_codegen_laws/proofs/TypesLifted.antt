-- Types: a law of the words holds of the plan.
use Rattle.std.proofs.Common.{◌≡◌, Bool, true, refl}
use Rattle.swc_ecma_codegen_laws.proofs.Children.{children_hold}
use Rattle.std.specs.Prelude.{ℕ, false, is_some, List, map, codes, Option, Some, None}
use Rattle.swc_ecma_codegen_common.specs.declared.positions.Span.{Span}
use Rattle.swc_ecma_codegen_tree.specs.Links.{PatBox, TsEntityNameBox, TsFnParamBox, TsTypeAnnBox, TsTypeBox}
use Rattle.swc_ecma_codegen_tree.specs.declared.ts_types.TruePlusMinus.{TruePlusMinus}
use Rattle.swc_ecma_codegen_tree.specs.declared.ts_types.TruePlusMinus.TheVariants as signs
use Rattle.swc_ecma_codegen_tree.specs.declared.ts_types.TsArrayType.{TsArrayType}
use Rattle.swc_ecma_codegen_tree.specs.declared.ts_types.TsConditionalType.{TsConditionalType}
use Rattle.swc_ecma_codegen_tree.specs.declared.ts_types.TsConstructorType.{TsConstructorType}
use Rattle.swc_ecma_codegen_tree.specs.declared.ts_types.TsEntityName.{TsEntityName}
use Rattle.swc_ecma_codegen_tree.specs.declared.ts_types.TsEntityName.TheVariants as entity_names
use Rattle.swc_ecma_codegen_tree.specs.declared.ts_types.TsFnOrConstructorType.{TsFnOrConstructorType}
use Rattle.swc_ecma_codegen_tree.specs.declared.ts_types.TsFnOrConstructorType.TheVariants as function_types
use Rattle.swc_ecma_codegen_tree.specs.declared.ts_types.TsFnParam.{TsFnParam}
use Rattle.swc_ecma_codegen_tree.specs.declared.ts_types.TsFnParam.TheVariants as fn_params
use Rattle.swc_ecma_codegen_tree.specs.declared.ts_types.TsFnType.{TsFnType}
use Rattle.swc_ecma_codegen_tree.specs.declared.ts_types.TsImportType.{TsImportType}
use Rattle.swc_ecma_codegen_tree.specs.declared.ts_types.TsIndexedAccessType.{TsIndexedAccessType}
use Rattle.swc_ecma_codegen_tree.specs.declared.ts_types.TsInferType.{TsInferType}
use Rattle.swc_ecma_codegen_tree.specs.declared.ts_types.TsIntersectionType.{TsIntersectionType}
use Rattle.swc_ecma_codegen_tree.specs.declared.ts_types.TsKeywordType.{TsKeywordType}
use Rattle.swc_ecma_codegen_tree.specs.declared.ts_types.TsLit.{TsLit}
use Rattle.swc_ecma_codegen_tree.specs.declared.ts_types.TsLit.TheVariants as type_lits
use Rattle.swc_ecma_codegen_tree.specs.declared.ts_types.TsLitType.{TsLitType}
use Rattle.swc_ecma_codegen_tree.specs.declared.ts_types.TsMappedType.{TsMappedType}
use Rattle.swc_ecma_codegen_tree.specs.declared.ts_types.TsOptionalType.{TsOptionalType}
use Rattle.swc_ecma_codegen_tree.specs.declared.ts_types.TsParenthesizedType.{TsParenthesizedType}
use Rattle.swc_ecma_codegen_tree.specs.declared.ts_types.TsQualifiedName.{TsQualifiedName}
use Rattle.swc_ecma_codegen_tree.specs.declared.ts_types.TsRestType.{TsRestType}
use Rattle.swc_ecma_codegen_tree.specs.declared.ts_types.TsThisType.{TsThisType}
use Rattle.swc_ecma_codegen_tree.specs.declared.ts_types.TsThisTypeOrIdent.{TsThisTypeOrIdent}
use Rattle.swc_ecma_codegen_tree.specs.declared.ts_types.TsThisTypeOrIdent.TheVariants as predicate_names
use Rattle.swc_ecma_codegen_tree.specs.declared.ts_types.TsTplLitType.{TsTplLitType}
use Rattle.swc_ecma_codegen_tree.specs.declared.ts_types.TsTupleElement.{TsTupleElement}
use Rattle.swc_ecma_codegen_tree.specs.declared.ts_types.TsTupleType.{TsTupleType}
use Rattle.swc_ecma_codegen_tree.specs.declared.ts_types.TsType.{TsType}
use Rattle.swc_ecma_codegen_tree.specs.declared.ts_types.TsType.TheVariants as types
use Rattle.swc_ecma_codegen_tree.specs.declared.ts_types.TsTypeAnn.{TsTypeAnn}
use Rattle.swc_ecma_codegen_tree.specs.declared.ts_types.TsTypeLit.{TsTypeLit}
use Rattle.swc_ecma_codegen_tree.specs.declared.ts_types.TsTypeOperator.{TsTypeOperator}
use Rattle.swc_ecma_codegen_tree.specs.declared.ts_types.TsTypeParam.{TsTypeParam}
use Rattle.swc_ecma_codegen_tree.specs.declared.ts_types.TsTypeParamDecl.{TsTypeParamDecl}
use Rattle.swc_ecma_codegen_tree.specs.declared.ts_types.TsTypeParamInstantiation.{TsTypeParamInstantiation}
use Rattle.swc_ecma_codegen_tree.specs.declared.ts_types.TsTypePredicate.{TsTypePredicate}
use Rattle.swc_ecma_codegen_tree.specs.declared.ts_types.TsTypeQuery.{TsTypeQuery}
use Rattle.swc_ecma_codegen_tree.specs.declared.ts_types.TsTypeQueryExpr.{TsTypeQueryExpr}
use Rattle.swc_ecma_codegen_tree.specs.declared.ts_types.TsTypeQueryExpr.TheVariants as query_exprs
use Rattle.swc_ecma_codegen_tree.specs.declared.ts_types.TsTypeRef.{TsTypeRef}
use Rattle.swc_ecma_codegen_tree.specs.declared.ts_types.TsUnionOrIntersectionType.{TsUnionOrIntersectionType}
use Rattle.swc_ecma_codegen_tree.specs.declared.ts_types.TsUnionOrIntersectionType.TheVariants as joined_types
use Rattle.swc_ecma_codegen_tree.specs.declared.ts_types.TsUnionType.{TsUnionType}
use Rattle.swc_ecma_codegen_grammar.specs.TemplatePhrases.{is_counted}
use Rattle.swc_ecma_codegen_grammar.specs.TypePhrases.{keyword_of, type_operator}
use Rattle.swc_ecma_codegen_tokens.specs.Run.{Part}
use Rattle.swc_ecma_codegen_spans.specs.Spans.{ts_type_element_span}
use Rattle.swc_ecma_codegen_emit.specs.declared.nodes.Context.{Context}
use Rattle.swc_ecma_codegen_emit.specs.declared.nodes.Context.TheVariants.{Plain, Reference}
use Rattle.swc_ecma_codegen_emit.specs.Places.{Whole}
use Rattle.swc_ecma_codegen_emit.specs.Annotations.{types_format}
use Rattle.swc_ecma_codegen_emit.specs.Lists.{child_of}
use Rattle.swc_ecma_codegen_emit.specs.Templates.{bad_shape}
use Rattle.swc_ecma_codegen_emit.specs.TsMembers.{member_items}
use Rattle.swc_ecma_codegen_laws.proofs.OfWords.{OfWords, Known, asks_in, items_in, either, tpl_parts_hold, keeps_comma}
use Rattle.swc_ecma_codegen_tokens.specs.declared.refusals.Unprintable.TheVariants as unprintable
use Rattle.swc_ecma_codegen_emit.specs.Types.{type_place, type_items, type_at, type_behind, default_type, ts_qualified_name, ts_entity_name, ts_type_ref, listed_types, type_arguments, ts_type_param_instantiation, ts_type_param, param_place, listed_params, ts_type_param_decl, ts_keyword_type, ts_this_type, ts_fn_param, signature_type, ts_fn_type, spaced_params, ts_constructor_type, ts_fn_or_constructor_type, ts_tpl_parts, ts_tpl_lit_type, ts_lit, ts_lit_type, qualifier, ts_import_type, ts_type_query_expr, ts_type_query, members_format, listed_members, ts_type_lit, ts_array_type, label, ts_tuple_element, element_place, listed_elements, ts_tuple_type, ts_optional_type, ts_rest_type, sign, signed_readonly, signed_question, mapped_param, mapped_type_ann, mapped_parts, ts_mapped_type, union_format, intersection_format, joined_list, union_types, intersection_types, ts_union_type, ts_intersection_type, ts_union_or_intersection_type, ts_parenthesized_type, ts_type_operator, ts_indexed_access_type, ts_conditional_type, ts_infer_type, ts_this_type_or_ident, is_behind, ts_type_predicate, ts_type, ts_type_ann}
use Rattle.swc_ecma_codegen_laws.proofs.AnnotationsLifted.{type_args_holds, type_params_holds, word_before_holds}
use Rattle.swc_ecma_codegen_laws.proofs.ExprsLifted.{ident_holds, ident_name_holds, spaced_punct_holds}
use Rattle.swc_ecma_codegen_laws.proofs.NamesLifted.{binding_ident_holds}
use Rattle.swc_ecma_codegen_laws.proofs.PatsLifted.{array_pat_holds, object_pat_holds, rest_pat_holds}
use Rattle.swc_ecma_codegen_laws.proofs.TsMembersLifted.{fn_params_list_holds, ts_type_element_holds}

pub type_at_holds : {X : Type 0} {holds : Bool → Part → Type 0} (known : Known holds X) (bounded : Bool) (n : TsTypeBox X) → holds bounded (type_at (items_in known) n)
type_at_holds known bounded n = known.law bounded n.node.value (Whole Plain)

pub type_behind_holds : {X : Type 0} {holds : Bool → Part → Type 0} (known : Known holds X) (bounded : Bool) (t : List ℕ) (x2 : Option (TsTypeBox X)) → holds bounded (type_behind (items_in known) t x2)
unfolding type_behind
type_behind_holds known bounded t None = known.words.none bounded
type_behind_holds known bounded t (Some n) = known.words.and_then bounded (known.words.space bounded) (known.words.and_then bounded (known.words.keyword bounded None t) (known.words.and_then bounded (known.words.space bounded) (type_at_holds known bounded n)))

pub default_type_holds : {X : Type 0} {holds : Bool → Part → Type 0} (known : Known holds X) (bounded : Bool) (x1 : Option (TsTypeBox X)) → holds bounded (default_type (items_in known) x1)
unfolding default_type
default_type_holds known bounded None = known.words.none bounded
default_type_holds known bounded (Some n) = known.words.and_then bounded (spaced_punct_holds known.words bounded (codes "=")) (type_at_holds known bounded n)

pub ts_qualified_name_holds : {X : Type 0} {holds : Bool → Part → Type 0} (known : Known holds X) (bounded : Bool) (n : TsQualifiedName X) → holds bounded (ts_qualified_name (items_in known) n)
unfolding ts_qualified_name
ts_qualified_name_holds known bounded n = known.words.and_then bounded (known.words.leading_comments bounded n.span.lo) (known.words.and_then bounded (known.law bounded n.left.node.value (Whole Plain)) (known.words.and_then bounded (known.words.punct bounded (codes ".")) (ident_name_holds known.words bounded n.right)))

pub ts_entity_name_holds : {X : Type 0} {holds : Bool → Part → Type 0} (known : Known holds X) (bounded : Bool) (x1 : TsEntityName X) → holds bounded (ts_entity_name (items_in known) x1)
unfolding ts_entity_name
ts_entity_name_holds known bounded (entity_names.TsQualifiedName n) = ts_qualified_name_holds known bounded n
ts_entity_name_holds known bounded (entity_names.Ident n) = ident_holds known.words bounded n

pub ts_type_ref_holds : {X : Type 0} {holds : Bool → Part → Type 0} (known : Known holds X) (bounded : Bool) (n : TsTypeRef X) → holds bounded (ts_type_ref (items_in known) n)
unfolding ts_type_ref
ts_type_ref_holds known bounded n = known.words.and_then bounded (known.words.leading_comments bounded n.span.lo) (known.words.and_then bounded (known.law bounded n.type_name.node.value (Whole Plain)) (type_args_holds known bounded Reference n.type_params))

pub listed_types_holds : {X : Type 0} {holds : Bool → Part → Type 0} (known : Known holds X) (bounded : Bool) (n : TsTypeParamInstantiation X) → holds bounded (listed_types (asks_in known) (items_in known) n)
listed_types_holds known bounded n = known.words.list bounded types_format refl n.span (map (child_of (type_place (asks_in known)) (type_items (items_in known))) n.params.items) (children_hold _ _ (type_place (asks_in known)) (type_items (items_in known)) (λ x. (known.law bounded x.node.value (Whole Plain))) n.params.items)

pub type_arguments_holds : {X : Type 0} {holds : Bool → Part → Type 0} (known : Known holds X) (bounded : Bool) (n : TsTypeParamInstantiation X) → holds bounded (type_arguments (asks_in known) (items_in known) n)
unfolding type_arguments
type_arguments_holds known bounded n = known.words.and_then bounded (known.words.punct bounded (codes "<")) (known.words.and_then bounded (listed_types_holds known bounded n) (known.words.close bounded))

pub ts_type_param_instantiation_holds : {X : Type 0} {holds : Bool → Part → Type 0} (known : Known holds X) (bounded : Bool) (n : TsTypeParamInstantiation X) (context : Context) → holds bounded (ts_type_param_instantiation (asks_in known) (items_in known) n context)
unfolding ts_type_param_instantiation
ts_type_param_instantiation_holds known bounded n Reference = type_arguments_holds known bounded n
ts_type_param_instantiation_holds known bounded n context = known.words.and_then bounded (known.words.leading_comments bounded n.span.lo) (type_arguments_holds known bounded n)

pub ts_type_param_holds : {X : Type 0} {holds : Bool → Part → Type 0} (known : Known holds X) (bounded : Bool) (n : TsTypeParam X) → holds bounded (ts_type_param (items_in known) n)
unfolding ts_type_param
ts_type_param_holds known bounded n = known.words.and_then bounded (known.words.leading_comments bounded n.span.lo) (known.words.and_then bounded (word_before_holds known.words bounded n.is_const (codes "const")) (known.words.and_then bounded (word_before_holds known.words bounded n.is_in (codes "in")) (known.words.and_then bounded (word_before_holds known.words bounded n.is_out (codes "out")) (known.words.and_then bounded (ident_holds known.words bounded n.name) (known.words.and_then bounded (type_behind_holds known bounded (codes "extends") n.constraint) (default_type_holds known bounded n.default))))))

pub listed_params_holds : {X : Type 0} {holds : Bool → Part → Type 0} (known : Known holds X) (bounded : Bool) (n : TsTypeParamDecl X) → holds bounded (listed_params (items_in known) n)
listed_params_holds known bounded n = known.words.list bounded types_format refl n.span (map (child_of param_place (λ p place. ts_type_param (items_in known) p)) n.params.items) (children_hold _ _ param_place (λ p place. ts_type_param (items_in known) p) (λ p. (ts_type_param_holds known bounded p)) n.params.items)

pub ts_type_param_decl_holds : {X : Type 0} {holds : Bool → Part → Type 0} (known : Known holds X) (bounded : Bool) (n : TsTypeParamDecl X) → holds bounded (ts_type_param_decl (items_in known) n)
unfolding ts_type_param_decl
ts_type_param_decl_holds known bounded n = known.words.and_then bounded (known.words.leading_comments bounded n.span.lo) (known.words.and_then bounded (known.words.punct bounded (codes "<")) (known.words.and_then bounded (listed_params_holds known bounded n) (known.words.close bounded)))

pub ts_keyword_type_holds : {holds : Bool → Part → Type 0} (words : OfWords holds) (bounded : Bool) (n : TsKeywordType) → holds bounded (ts_keyword_type n)
unfolding ts_keyword_type
ts_keyword_type_holds words bounded n = words.and_then bounded (words.leading_comments bounded n.span.lo) (words.keyword bounded (Some n.span) (keyword_of n.kind))

pub ts_this_type_holds : {holds : Bool → Part → Type 0} (words : OfWords holds) (bounded : Bool) (n : TsThisType) → holds bounded (ts_this_type n)
unfolding ts_this_type
ts_this_type_holds words bounded n = words.and_then bounded (words.leading_comments bounded n.span.lo) (words.keyword bounded (Some n.span) (codes "this"))

pub ts_fn_param_holds : {X : Type 0} {holds : Bool → Part → Type 0} (known : Known holds X) (bounded : Bool) (x2 : TsFnParam X) → holds bounded (ts_fn_param (asks_in known) (items_in known) x2)
unfolding ts_fn_param
ts_fn_param_holds known bounded (fn_params.Ident n) = binding_ident_holds known bounded n
ts_fn_param_holds known bounded (fn_params.Array n) = array_pat_holds known bounded n
ts_fn_param_holds known bounded (fn_params.Rest n) = rest_pat_holds known bounded n
ts_fn_param_holds known bounded (fn_params.Object n) = object_pat_holds known bounded n

pub signature_type_holds : {X : Type 0} {holds : Bool → Part → Type 0} (known : Known holds X) (bounded : Bool) (span : Span) (ns : List (TsFnParamBox X)) (result : TsTypeAnnBox X) → holds bounded (signature_type (asks_in known) (items_in known) span ns result)
unfolding signature_type
signature_type_holds known bounded span ns result = known.words.and_then bounded (known.words.punct bounded (codes "(")) (known.words.and_then bounded (fn_params_list_holds known bounded span ns) (known.words.and_then bounded (known.words.punct bounded (codes ")")) (known.words.and_then bounded (spaced_punct_holds known.words bounded (codes "=>")) (known.law bounded result.node.value (Whole Plain)))))

pub ts_fn_type_holds : {X : Type 0} {holds : Bool → Part → Type 0} (known : Known holds X) (bounded : Bool) (n : TsFnType X) → holds bounded (ts_fn_type (asks_in known) (items_in known) n)
unfolding ts_fn_type
ts_fn_type_holds known bounded n = known.words.and_then bounded (known.words.leading_comments bounded n.span.lo) (known.words.and_then bounded (type_params_holds known bounded n.type_params) (signature_type_holds known bounded n.span n.params.items n.type_ann))

pub spaced_params_holds : {X : Type 0} {holds : Bool → Part → Type 0} (known : Known holds X) (bounded : Bool) (n : TsConstructorType X) → holds bounded (spaced_params (items_in known) n)
unfolding spaced_params
spaced_params_holds known bounded n = either known.words bounded (is_some n.type_params) (known.words.and_then bounded (known.words.space bounded) (type_params_holds known bounded n.type_params)) (known.words.none bounded)

pub ts_constructor_type_holds : {X : Type 0} {holds : Bool → Part → Type 0} (known : Known holds X) (bounded : Bool) (n : TsConstructorType X) → holds bounded (ts_constructor_type (asks_in known) (items_in known) n)
unfolding ts_constructor_type
ts_constructor_type_holds known bounded n = known.words.and_then bounded (known.words.leading_comments bounded n.span.lo) (known.words.and_then bounded (word_before_holds known.words bounded n.is_abstract (codes "abstract")) (known.words.and_then bounded (known.words.keyword bounded None (codes "new")) (known.words.and_then bounded (spaced_params_holds known bounded n) (signature_type_holds known bounded n.span n.params.items n.type_ann))))

pub ts_fn_or_constructor_type_holds : {X : Type 0} {holds : Bool → Part → Type 0} (known : Known holds X) (bounded : Bool) (x2 : TsFnOrConstructorType X) → holds bounded (ts_fn_or_constructor_type (asks_in known) (items_in known) x2)
unfolding ts_fn_or_constructor_type
ts_fn_or_constructor_type_holds known bounded (function_types.TsFnType n) = ts_fn_type_holds known bounded n
ts_fn_or_constructor_type_holds known bounded (function_types.TsConstructorType n) = ts_constructor_type_holds known bounded n

pub ts_tpl_parts_holds : {X : Type 0} {holds : Bool → Part → Type 0} (known : Known holds X) (bounded : Bool) (n : TsTplLitType X) → holds bounded (ts_tpl_parts (items_in known) n)
unfolding ts_tpl_parts
ts_tpl_parts_holds {X = X} known bounded n = known.words.and_then bounded (known.words.leading_comments bounded n.span.lo) (tpl_parts_hold known.words bounded (λ (x : TsTypeBox X). known.node x.node.value) (λ x. known.law false x.node.value (Whole Plain)) false n.types.items n.quasis.items)

pub ts_tpl_lit_type_holds : {X : Type 0} {holds : Bool → Part → Type 0} (known : Known holds X) (bounded : Bool) (n : TsTplLitType X) → holds bounded (ts_tpl_lit_type (items_in known) n)
unfolding ts_tpl_lit_type bad_shape
ts_tpl_lit_type_holds known bounded n = either known.words bounded (is_counted n.types.items n.quasis.items) (ts_tpl_parts_holds known bounded n) (known.words.refuse bounded unprintable.BadShape)

pub ts_lit_holds : {X : Type 0} {holds : Bool → Part → Type 0} (known : Known holds X) (bounded : Bool) (x1 : TsLit X) → holds bounded (ts_lit (items_in known) x1)
unfolding ts_lit
ts_lit_holds known bounded (type_lits.Number n) = known.words.number_lit bounded n
ts_lit_holds known bounded (type_lits.Str n) = known.words.str_lit bounded n
ts_lit_holds known bounded (type_lits.Bool n) = known.words.bool_node bounded n
ts_lit_holds known bounded (type_lits.BigInt n) = known.words.big_int_lit bounded n
ts_lit_holds known bounded (type_lits.Tpl n) = ts_tpl_lit_type_holds known bounded n

pub ts_lit_type_holds : {X : Type 0} {holds : Bool → Part → Type 0} (known : Known holds X) (bounded : Bool) (n : TsLitType X) → holds bounded (ts_lit_type (items_in known) n)
unfolding ts_lit_type
ts_lit_type_holds known bounded n = known.words.and_then bounded (known.words.leading_comments bounded n.span.lo) (ts_lit_holds known bounded n.lit)

pub qualifier_holds : {X : Type 0} {holds : Bool → Part → Type 0} (known : Known holds X) (bounded : Bool) (x1 : Option (TsEntityNameBox X)) → holds bounded (qualifier (items_in known) x1)
unfolding qualifier
qualifier_holds known bounded None = known.words.none bounded
qualifier_holds known bounded (Some n) = known.words.and_then bounded (known.words.punct bounded (codes ".")) (known.law bounded n.node.value (Whole Plain))

pub ts_import_type_holds : {X : Type 0} {holds : Bool → Part → Type 0} (known : Known holds X) (bounded : Bool) (n : TsImportType X) → holds bounded (ts_import_type (items_in known) n)
unfolding ts_import_type
ts_import_type_holds known bounded n = known.words.and_then bounded (known.words.leading_comments bounded n.span.lo) (known.words.and_then bounded (known.words.keyword bounded None (codes "import")) (known.words.and_then bounded (known.words.punct bounded (codes "(")) (known.words.and_then bounded (known.words.str_lit bounded n.arg) (known.words.and_then bounded (known.words.punct bounded (codes ")")) (known.words.and_then bounded (qualifier_holds known bounded n.qualifier) (type_args_holds known bounded Plain n.type_args))))))

pub ts_type_query_expr_holds : {X : Type 0} {holds : Bool → Part → Type 0} (known : Known holds X) (bounded : Bool) (x1 : TsTypeQueryExpr X) → holds bounded (ts_type_query_expr (items_in known) x1)
unfolding ts_type_query_expr
ts_type_query_expr_holds known bounded (query_exprs.TsEntityName n) = known.law bounded n.node.value (Whole Plain)
ts_type_query_expr_holds known bounded (query_exprs.Import n) = ts_import_type_holds known bounded n

pub ts_type_query_holds : {X : Type 0} {holds : Bool → Part → Type 0} (known : Known holds X) (bounded : Bool) (n : TsTypeQuery X) → holds bounded (ts_type_query (items_in known) n)
unfolding ts_type_query
ts_type_query_holds known bounded n = known.words.and_then bounded (known.words.leading_comments bounded n.span.lo) (known.words.and_then bounded (known.words.keyword bounded None (codes "typeof")) (known.words.and_then bounded (known.words.space bounded) (known.words.and_then bounded (ts_type_query_expr_holds known bounded n.expr_name) (type_args_holds known bounded Plain n.type_args))))

pub listed_members_holds : {X : Type 0} {holds : Bool → Part → Type 0} (known : Known holds X) (bounded : Bool) (n : TsTypeLit X) → holds bounded (listed_members (asks_in known) (items_in known) n)
listed_members_holds known bounded n = known.words.list bounded members_format refl n.span (map (child_of ts_type_element_span (member_items (asks_in known) (items_in known))) n.members.items) (children_hold _ _ ts_type_element_span (member_items (asks_in known) (items_in known)) (λ x. (ts_type_element_holds known bounded x)) n.members.items)

pub ts_type_lit_holds : {X : Type 0} {holds : Bool → Part → Type 0} (known : Known holds X) (bounded : Bool) (n : TsTypeLit X) → holds bounded (ts_type_lit (asks_in known) (items_in known) n)
unfolding ts_type_lit
ts_type_lit_holds known bounded n = known.words.and_then bounded (known.words.leading_comments bounded n.span.lo) (known.words.and_then bounded (known.words.punct bounded (codes "{")) (known.words.and_then bounded (listed_members_holds known bounded n) (known.words.punct bounded (codes "}"))))

pub ts_array_type_holds : {X : Type 0} {holds : Bool → Part → Type 0} (known : Known holds X) (bounded : Bool) (n : TsArrayType X) → holds bounded (ts_array_type (items_in known) n)
unfolding ts_array_type
ts_array_type_holds known bounded n = known.words.and_then bounded (known.words.leading_comments bounded n.span.lo) (known.words.and_then bounded (type_at_holds known bounded n.elem_type) (known.words.and_then bounded (known.words.punct bounded (codes "[")) (known.words.punct bounded (codes "]"))))

pub label_holds : {X : Type 0} {holds : Bool → Part → Type 0} (known : Known holds X) (bounded : Bool) (x1 : Option (PatBox X)) → holds bounded (label (items_in known) x1)
unfolding label
label_holds known bounded None = known.words.none bounded
label_holds known bounded (Some n) = known.words.and_then bounded (known.law bounded n.node.value (Whole Plain)) (known.words.and_then bounded (known.words.punct bounded (codes ":")) (known.words.formatting_space bounded))

pub ts_tuple_element_holds : {X : Type 0} {holds : Bool → Part → Type 0} (known : Known holds X) (bounded : Bool) (n : TsTupleElement X) → holds bounded (ts_tuple_element (items_in known) n)
unfolding ts_tuple_element
ts_tuple_element_holds known bounded n = known.words.and_then bounded (known.words.leading_comments bounded n.span.lo) (known.words.and_then bounded (label_holds known bounded n.label) (type_at_holds known bounded n.ty))

pub listed_elements_holds : {X : Type 0} {holds : Bool → Part → Type 0} (known : Known holds X) (bounded : Bool) (n : TsTupleType X) → holds bounded (listed_elements (items_in known) n)
listed_elements_holds known bounded n = known.words.list bounded types_format refl n.span (map (child_of element_place (λ x place. ts_tuple_element (items_in known) x)) n.elem_types.items) (children_hold _ _ element_place (λ x place. ts_tuple_element (items_in known) x) (λ x. (ts_tuple_element_holds known bounded x)) n.elem_types.items)

pub ts_tuple_type_holds : {X : Type 0} {holds : Bool → Part → Type 0} (known : Known holds X) (bounded : Bool) (n : TsTupleType X) → holds bounded (ts_tuple_type (items_in known) n)
unfolding ts_tuple_type
ts_tuple_type_holds known bounded n = known.words.and_then bounded (known.words.leading_comments bounded n.span.lo) (known.words.and_then bounded (known.words.punct bounded (codes "[")) (known.words.and_then bounded (listed_elements_holds known bounded n) (known.words.punct bounded (codes "]"))))

pub ts_optional_type_holds : {X : Type 0} {holds : Bool → Part → Type 0} (known : Known holds X) (bounded : Bool) (n : TsOptionalType X) → holds bounded (ts_optional_type (items_in known) n)
unfolding ts_optional_type
ts_optional_type_holds known bounded n = known.words.and_then bounded (known.words.leading_comments bounded n.span.lo) (known.words.and_then bounded (type_at_holds known bounded n.type_ann) (known.words.punct bounded (codes "?")))

pub ts_rest_type_holds : {X : Type 0} {holds : Bool → Part → Type 0} (known : Known holds X) (bounded : Bool) (n : TsRestType X) → holds bounded (ts_rest_type (items_in known) n)
unfolding ts_rest_type
ts_rest_type_holds known bounded n = known.words.and_then bounded (known.words.leading_comments bounded n.span.lo) (known.words.and_then bounded (known.words.punct bounded (codes "...")) (type_at_holds known bounded n.type_ann))

pub sign_holds : {holds : Bool → Part → Type 0} (words : OfWords holds) (bounded : Bool) (x0 : TruePlusMinus) → holds bounded (sign x0)
unfolding sign
sign_holds words bounded signs.True = words.none bounded
sign_holds words bounded signs.Plus = words.punct bounded (codes "+")
sign_holds words bounded signs.Minus = words.punct bounded (codes "-")

pub signed_readonly_holds : {holds : Bool → Part → Type 0} (words : OfWords holds) (bounded : Bool) (x0 : Option TruePlusMinus) → holds bounded (signed_readonly x0)
unfolding signed_readonly
signed_readonly_holds words bounded None = words.none bounded
signed_readonly_holds words bounded (Some s) = words.and_then bounded (sign_holds words bounded s) (words.and_then bounded (words.keyword bounded None (codes "readonly")) (words.space bounded))

pub signed_question_holds : {holds : Bool → Part → Type 0} (words : OfWords holds) (bounded : Bool) (x0 : Option TruePlusMinus) → holds bounded (signed_question x0)
unfolding signed_question
signed_question_holds words bounded None = words.none bounded
signed_question_holds words bounded (Some s) = words.and_then bounded (sign_holds words bounded s) (words.punct bounded (codes "?"))

pub mapped_param_holds : {X : Type 0} {holds : Bool → Part → Type 0} (known : Known holds X) (bounded : Bool) (n : TsTypeParam X) (name_type : Option (TsTypeBox X)) → holds bounded (mapped_param (items_in known) n name_type)
unfolding mapped_param
mapped_param_holds known bounded n name_type = known.words.and_then bounded (ident_holds known.words bounded n.name) (known.words.and_then bounded (type_behind_holds known bounded (codes "in") n.constraint) (known.words.and_then bounded (default_type_holds known bounded n.default) (type_behind_holds known bounded (codes "as") name_type)))

pub mapped_type_ann_holds : {X : Type 0} {holds : Bool → Part → Type 0} (known : Known holds X) (bounded : Bool) (x1 : Option (TsTypeBox X)) → holds bounded (mapped_type_ann (items_in known) x1)
unfolding mapped_type_ann
mapped_type_ann_holds known bounded None = known.words.none bounded
mapped_type_ann_holds known bounded (Some n) = known.words.and_then bounded (known.words.punct bounded (codes ":")) (known.words.and_then bounded (known.words.space bounded) (type_at_holds known bounded n))

pub mapped_parts_holds : {X : Type 0} {holds : Bool → Part → Type 0} (known : Known holds X) (bounded : Bool) (n : TsMappedType X) → holds bounded (mapped_parts (items_in known) n)
unfolding mapped_parts
mapped_parts_holds known bounded n = known.words.and_then bounded (signed_readonly_holds known.words bounded n.readonly) (known.words.and_then bounded (known.words.punct bounded (codes "[")) (known.words.and_then bounded (mapped_param_holds known bounded n.type_param n.name_type) (known.words.and_then bounded (known.words.punct bounded (codes "]")) (known.words.and_then bounded (signed_question_holds known.words bounded n.optional) (known.words.and_then bounded (mapped_type_ann_holds known bounded n.type_ann) (known.words.semi bounded))))))

pub ts_mapped_type_holds : {X : Type 0} {holds : Bool → Part → Type 0} (known : Known holds X) (bounded : Bool) (n : TsMappedType X) → holds bounded (ts_mapped_type (items_in known) n)
unfolding ts_mapped_type
ts_mapped_type_holds known bounded n = known.words.and_then bounded (known.words.leading_comments bounded n.span.lo) (known.words.and_then bounded (known.words.punct bounded (codes "{")) (known.words.and_then bounded (known.words.line_end bounded) (known.words.and_then bounded (known.words.deeper bounded) (known.words.and_then bounded (mapped_parts_holds known bounded n) (known.words.and_then bounded (known.words.line_end bounded) (known.words.and_then bounded (known.words.shallower bounded) (known.words.punct bounded (codes "}"))))))))

pub joined_list_holds : {X : Type 0} {holds : Bool → Part → Type 0} (known : Known holds X) (bounded : Bool) (format : ℕ) → keeps_comma format ≡ true → (span : Span) (ns : List (TsTypeBox X)) → holds bounded (joined_list (asks_in known) (items_in known) format span ns)
joined_list_holds known bounded format keeps span ns = known.words.list bounded format keeps span (map (child_of (type_place (asks_in known)) (type_items (items_in known))) ns) (children_hold _ _ (type_place (asks_in known)) (type_items (items_in known)) (λ x. (known.law bounded x.node.value (Whole Plain))) ns)

pub union_types_holds : {X : Type 0} {holds : Bool → Part → Type 0} (known : Known holds X) (bounded : Bool) (n : TsUnionType X) → holds bounded (union_types (asks_in known) (items_in known) n)
union_types_holds known bounded n = joined_list_holds known bounded union_format refl n.span n.types.items

pub intersection_types_holds : {X : Type 0} {holds : Bool → Part → Type 0} (known : Known holds X) (bounded : Bool) (n : TsIntersectionType X) → holds bounded (intersection_types (asks_in known) (items_in known) n)
intersection_types_holds known bounded n = joined_list_holds known bounded intersection_format refl n.span n.types.items

pub ts_union_type_holds : {X : Type 0} {holds : Bool → Part → Type 0} (known : Known holds X) (bounded : Bool) (n : TsUnionType X) → holds bounded (ts_union_type (asks_in known) (items_in known) n)
unfolding ts_union_type
ts_union_type_holds known bounded n = known.words.and_then bounded (known.words.leading_comments bounded n.span.lo) (union_types_holds known bounded n)

pub ts_intersection_type_holds : {X : Type 0} {holds : Bool → Part → Type 0} (known : Known holds X) (bounded : Bool) (n : TsIntersectionType X) → holds bounded (ts_intersection_type (asks_in known) (items_in known) n)
unfolding ts_intersection_type
ts_intersection_type_holds known bounded n = known.words.and_then bounded (known.words.leading_comments bounded n.span.lo) (intersection_types_holds known bounded n)

pub ts_union_or_intersection_type_holds : {X : Type 0} {holds : Bool → Part → Type 0} (known : Known holds X) (bounded : Bool) (x2 : TsUnionOrIntersectionType X) → holds bounded (ts_union_or_intersection_type (asks_in known) (items_in known) x2)
unfolding ts_union_or_intersection_type
ts_union_or_intersection_type_holds known bounded (joined_types.TsUnionType n) = ts_union_type_holds known bounded n
ts_union_or_intersection_type_holds known bounded (joined_types.TsIntersectionType n) = ts_intersection_type_holds known bounded n

pub ts_parenthesized_type_holds : {X : Type 0} {holds : Bool → Part → Type 0} (known : Known holds X) (bounded : Bool) (n : TsParenthesizedType X) → holds bounded (ts_parenthesized_type (items_in known) n)
unfolding ts_parenthesized_type
ts_parenthesized_type_holds known bounded n = known.words.and_then bounded (known.words.leading_comments bounded n.span.lo) (known.words.and_then bounded (known.words.punct bounded (codes "(")) (known.words.and_then bounded (type_at_holds known bounded n.type_ann) (known.words.punct bounded (codes ")"))))

pub ts_type_operator_holds : {X : Type 0} {holds : Bool → Part → Type 0} (known : Known holds X) (bounded : Bool) (n : TsTypeOperator X) → holds bounded (ts_type_operator (items_in known) n)
unfolding ts_type_operator
ts_type_operator_holds known bounded n = known.words.and_then bounded (known.words.leading_comments bounded n.span.lo) (known.words.and_then bounded (known.words.keyword bounded None (type_operator n.op)) (known.words.and_then bounded (known.words.space bounded) (type_at_holds known bounded n.type_ann)))

pub ts_indexed_access_type_holds : {X : Type 0} {holds : Bool → Part → Type 0} (known : Known holds X) (bounded : Bool) (n : TsIndexedAccessType X) → holds bounded (ts_indexed_access_type (items_in known) n)
unfolding ts_indexed_access_type
ts_indexed_access_type_holds known bounded n = known.words.and_then bounded (known.words.leading_comments bounded n.span.lo) (known.words.and_then bounded (type_at_holds known bounded n.obj_type) (known.words.and_then bounded (known.words.punct bounded (codes "[")) (known.words.and_then bounded (type_at_holds known bounded n.index_type) (known.words.punct bounded (codes "]")))))

pub ts_conditional_type_holds : {X : Type 0} {holds : Bool → Part → Type 0} (known : Known holds X) (bounded : Bool) (n : TsConditionalType X) → holds bounded (ts_conditional_type (items_in known) n)
unfolding ts_conditional_type
ts_conditional_type_holds known bounded n = known.words.and_then bounded (known.words.leading_comments bounded n.span.lo) (known.words.and_then bounded (type_at_holds known bounded n.check_type) (known.words.and_then bounded (known.words.space bounded) (known.words.and_then bounded (known.words.keyword bounded None (codes "extends")) (known.words.and_then bounded (known.words.space bounded) (known.words.and_then bounded (type_at_holds known bounded n.extends_type) (known.words.and_then bounded (known.words.punct_between bounded (codes "?")) (known.words.and_then bounded (type_at_holds known bounded n.true_type) (known.words.and_then bounded (known.words.punct_between bounded (codes ":")) (type_at_holds known bounded n.false_type)))))))))

pub ts_infer_type_holds : {X : Type 0} {holds : Bool → Part → Type 0} (known : Known holds X) (bounded : Bool) (n : TsInferType X) → holds bounded (ts_infer_type (items_in known) n)
unfolding ts_infer_type
ts_infer_type_holds known bounded n = known.words.and_then bounded (known.words.leading_comments bounded n.span.lo) (known.words.and_then bounded (known.words.keyword bounded None (codes "infer")) (known.words.and_then bounded (known.words.space bounded) (ts_type_param_holds known bounded n.type_param)))

pub ts_this_type_or_ident_holds : {holds : Bool → Part → Type 0} (words : OfWords holds) (bounded : Bool) (x0 : TsThisTypeOrIdent) → holds bounded (ts_this_type_or_ident x0)
unfolding ts_this_type_or_ident
ts_this_type_or_ident_holds words bounded (predicate_names.TsThisType n) = ts_this_type_holds words bounded n
ts_this_type_or_ident_holds words bounded (predicate_names.Ident n) = ident_holds words bounded n

pub is_behind_holds : {X : Type 0} {holds : Bool → Part → Type 0} (known : Known holds X) (bounded : Bool) (x1 : Option (TsTypeAnnBox X)) → holds bounded (is_behind (items_in known) x1)
unfolding is_behind
is_behind_holds known bounded None = known.words.none bounded
is_behind_holds known bounded (Some n) = known.words.and_then bounded (known.words.space bounded) (known.words.and_then bounded (known.words.keyword bounded None (codes "is")) (known.words.and_then bounded (known.words.space bounded) (known.law bounded n.node.value (Whole Plain))))

pub ts_type_predicate_holds : {X : Type 0} {holds : Bool → Part → Type 0} (known : Known holds X) (bounded : Bool) (n : TsTypePredicate X) → holds bounded (ts_type_predicate (items_in known) n)
unfolding ts_type_predicate
ts_type_predicate_holds known bounded n = known.words.and_then bounded (known.words.leading_comments bounded n.span.lo) (known.words.and_then bounded (word_before_holds known.words bounded n.asserts (codes "asserts")) (known.words.and_then bounded (ts_this_type_or_ident_holds known.words bounded n.param_name) (is_behind_holds known bounded n.type_ann)))

pub ts_type_holds : {X : Type 0} {holds : Bool → Part → Type 0} (known : Known holds X) (bounded : Bool) (x2 : TsType X) → holds bounded (ts_type (asks_in known) (items_in known) x2)
unfolding ts_type
ts_type_holds known bounded (types.TsKeywordType n) = ts_keyword_type_holds known.words bounded n
ts_type_holds known bounded (types.TsThisType n) = ts_this_type_holds known.words bounded n
ts_type_holds known bounded (types.TsFnOrConstructorType n) = ts_fn_or_constructor_type_holds known bounded n.value
ts_type_holds known bounded (types.TsTypeRef n) = ts_type_ref_holds known bounded n
ts_type_holds known bounded (types.TsTypeQuery n) = ts_type_query_holds known bounded n.value
ts_type_holds known bounded (types.TsTypeLit n) = ts_type_lit_holds known bounded n
ts_type_holds known bounded (types.TsArrayType n) = ts_array_type_holds known bounded n
ts_type_holds known bounded (types.TsTupleType n) = ts_tuple_type_holds known bounded n
ts_type_holds known bounded (types.TsOptionalType n) = ts_optional_type_holds known bounded n
ts_type_holds known bounded (types.TsRestType n) = ts_rest_type_holds known bounded n
ts_type_holds known bounded (types.TsUnionOrIntersectionType n) = ts_union_or_intersection_type_holds known bounded n
ts_type_holds known bounded (types.TsConditionalType n) = ts_conditional_type_holds known bounded n
ts_type_holds known bounded (types.TsInferType n) = ts_infer_type_holds known bounded n.value
ts_type_holds known bounded (types.TsParenthesizedType n) = ts_parenthesized_type_holds known bounded n
ts_type_holds known bounded (types.TsTypeOperator n) = ts_type_operator_holds known bounded n
ts_type_holds known bounded (types.TsIndexedAccessType n) = ts_indexed_access_type_holds known bounded n
ts_type_holds known bounded (types.TsMappedType n) = ts_mapped_type_holds known bounded n.value
ts_type_holds known bounded (types.TsLitType n) = ts_lit_type_holds known bounded n.value
ts_type_holds known bounded (types.TsTypePredicate n) = ts_type_predicate_holds known bounded n.value
ts_type_holds known bounded (types.TsImportType n) = ts_import_type_holds known bounded n.value

pub ts_type_ann_holds : {X : Type 0} {holds : Bool → Part → Type 0} (known : Known holds X) (bounded : Bool) (n : TsTypeAnn X) (context : Context) → holds bounded (ts_type_ann (asks_in known) (items_in known) n context)
unfolding ts_type_ann
ts_type_ann_holds known bounded n Reference = ts_type_holds known bounded n.type_ann
ts_type_ann_holds known bounded n context = known.words.and_then bounded (known.words.leading_comments bounded n.span.lo) (ts_type_holds known bounded n.type_ann)
