-- The rules of types of TypeScript.
use Rattle.std.specs.Prelude.{false, ◌&&◌, not, ◌==◌, length, codes}
use Rattle.swc_ecma_codegen_tree.specs.declared.ts_types.TsArrayType.{TsArrayType}
use Rattle.swc_ecma_codegen_tree.specs.declared.ts_types.TsConditionalType.{TsConditionalType}
use Rattle.swc_ecma_codegen_tree.specs.declared.ts_types.TsConstructorType.{TsConstructorType}
use Rattle.swc_ecma_codegen_tree.specs.declared.ts_types.TsEntityName.{TsEntityName}
use Rattle.swc_ecma_codegen_tree.specs.declared.ts_types.TsFnOrConstructorType.{TsFnOrConstructorType}
use Rattle.swc_ecma_codegen_tree.specs.declared.ts_types.TsFnParam.{TsFnParam}
use Rattle.swc_ecma_codegen_tree.specs.declared.ts_types.TsFnType.{TsFnType}
use Rattle.swc_ecma_codegen_tree.specs.declared.ts_types.TsImportType.{TsImportType}
use Rattle.swc_ecma_codegen_tree.specs.declared.ts_types.TsIndexedAccessType.{TsIndexedAccessType}
use Rattle.swc_ecma_codegen_tree.specs.declared.ts_types.TsInferType.{TsInferType}
use Rattle.swc_ecma_codegen_tree.specs.declared.ts_types.TsIntersectionType.{TsIntersectionType}
use Rattle.swc_ecma_codegen_tree.specs.declared.ts_types.TsLit.{TsLit}
use Rattle.swc_ecma_codegen_tree.specs.declared.ts_types.TsLitType.{TsLitType}
use Rattle.swc_ecma_codegen_tree.specs.declared.ts_types.TsMappedType.{TsMappedType}
use Rattle.swc_ecma_codegen_tree.specs.declared.ts_types.TsOptionalType.{TsOptionalType}
use Rattle.swc_ecma_codegen_tree.specs.declared.ts_types.TsParenthesizedType.{TsParenthesizedType}
use Rattle.swc_ecma_codegen_tree.specs.declared.ts_types.TsQualifiedName.{TsQualifiedName}
use Rattle.swc_ecma_codegen_tree.specs.declared.ts_types.TsRestType.{TsRestType}
use Rattle.swc_ecma_codegen_tree.specs.declared.ts_types.TsThisTypeOrIdent.{TsThisTypeOrIdent}
use Rattle.swc_ecma_codegen_tree.specs.declared.ts_types.TsTplLitType.{TsTplLitType}
use Rattle.swc_ecma_codegen_tree.specs.declared.ts_types.TsTupleElement.{TsTupleElement}
use Rattle.swc_ecma_codegen_tree.specs.declared.ts_types.TsTupleType.{TsTupleType}
use Rattle.swc_ecma_codegen_tree.specs.declared.ts_types.TsType.{TsType}
use Rattle.swc_ecma_codegen_tree.specs.declared.ts_types.TsTypeAnn.{TsTypeAnn}
use Rattle.swc_ecma_codegen_tree.specs.declared.ts_types.TsTypeLit.{TsTypeLit}
use Rattle.swc_ecma_codegen_tree.specs.declared.ts_types.TsTypeOperator.{TsTypeOperator}
use Rattle.swc_ecma_codegen_tree.specs.declared.ts_types.TsTypeParam.{TsTypeParam}
use Rattle.swc_ecma_codegen_tree.specs.declared.ts_types.TsTypeParamDecl.{TsTypeParamDecl}
use Rattle.swc_ecma_codegen_tree.specs.declared.ts_types.TsTypeParamInstantiation.{TsTypeParamInstantiation}
use Rattle.swc_ecma_codegen_tree.specs.declared.ts_types.TsTypePredicate.{TsTypePredicate}
use Rattle.swc_ecma_codegen_tree.specs.declared.ts_types.TsTypeQuery.{TsTypeQuery}
use Rattle.swc_ecma_codegen_tree.specs.declared.ts_types.TsTypeQueryExpr.{TsTypeQueryExpr}
use Rattle.swc_ecma_codegen_tree.specs.declared.ts_types.TsTypeRef.{TsTypeRef}
use Rattle.swc_ecma_codegen_tree.specs.declared.ts_types.TsUnionOrIntersectionType.{TsUnionOrIntersectionType}
use Rattle.swc_ecma_codegen_tree.specs.declared.ts_types.TsUnionType.{TsUnionType}
use Rattle.swc_ecma_codegen_tree.specs.declared.ts_types.TsType.TheVariants as ts_types
use Rattle.swc_ecma_codegen_tree.specs.declared.ts_types.TsFnOrConstructorType.TheVariants as ts_fn_or_constructor_types
use Rattle.swc_ecma_codegen_tree.specs.declared.ts_types.TsUnionOrIntersectionType.TheVariants as ts_union_or_intersection_types
use Rattle.swc_ecma_codegen_tree.specs.declared.ts_types.TsThisTypeOrIdent.TheVariants as ts_this_type_or_idents
use Rattle.swc_ecma_codegen_tree.specs.declared.ts_types.TsLit.TheVariants as ts_lits
use Rattle.swc_ecma_codegen_tree.specs.declared.ts_types.TsTypeQueryExpr.TheVariants as ts_type_query_exprs
use Rattle.swc_ecma_codegen_tree.specs.declared.ts_types.TsEntityName.TheVariants as ts_entity_names
use Rattle.swc_ecma_codegen_tree.specs.declared.ts_types.TsFnParam.TheVariants as ts_fn_params
use Rattle.swc_ecma_codegen_grammar.specs.declared.roles.Role.TheVariants.{Annotation, AnyType, EntityName, Pattern, SignatureParameter, TypeArguments, TypeParameters}
use Rattle.swc_ecma_codegen_grammar.specs.TemplatePhrases.{is_counted}
use Rattle.swc_ecma_codegen_validate.specs.Rules.{Rules, Free, Each, Optional, ◌&◌, rule, at, link, leaf}
use Rattle.swc_ecma_codegen_validate.specs.NameRules.{ident, ident_name, binding_ident, str_lit, bool_lit, number, big_int}
use Rattle.swc_ecma_codegen_validate.specs.ExprRules.{elements}
use Rattle.swc_ecma_codegen_validate.specs.TsRules.{ts_type_element}
use Rattle.swc_ecma_codegen_validate.specs.PatRules.{array_pat, rest_pat, object_pat}

unfoldable pub ts_qualified_name : {X : Type 0} → TsQualifiedName X → Rules X
ts_qualified_name n = at (codes "left") (link n.left EntityName) & at (codes "right") (leaf (ident_name n.right))

unfoldable pub ts_entity_name : {X : Type 0} → TsEntityName X → Rules X
ts_entity_name (ts_entity_names.TsQualifiedName n) = ts_qualified_name n
ts_entity_name (ts_entity_names.Ident n) = leaf (ident n)

unfoldable pub ts_type_ref : {X : Type 0} → TsTypeRef X → Rules X
ts_type_ref n = at (codes "type_name") (link n.type_name EntityName) & at (codes "type_params") (Optional n.type_params (λ x. link x TypeArguments))

unfoldable pub ts_type_param_instantiation : {X : Type 0} → TsTypeParamInstantiation X → Rules X
ts_type_param_instantiation n = rule (not (length n.params.items == 0)) (codes "a list of arguments of types is empty") & at (codes "params") (Each n.params.items (λ x. link x AnyType))

unfoldable pub ts_type_param : {X : Type 0} → TsTypeParam X → Rules X
ts_type_param n = at (codes "name") (leaf (ident n.name)) & at (codes "constraint") (Optional n.constraint (λ x. link x AnyType)) & at (codes "default") (Optional n.default (λ x. link x AnyType))

unfoldable pub ts_type_param_decl : {X : Type 0} → TsTypeParamDecl X → Rules X
ts_type_param_decl n = rule (not (length n.params.items == 0)) (codes "a list of type parameters is empty") & at (codes "params") (Each n.params.items ts_type_param)

unfoldable pub ts_fn_param : {X : Type 0} → TsFnParam X → Rules X
ts_fn_param (ts_fn_params.Ident n) = binding_ident n
ts_fn_param (ts_fn_params.Array n) = array_pat n
ts_fn_param (ts_fn_params.Rest n) = rest_pat n
ts_fn_param (ts_fn_params.Object n) = object_pat n

unfoldable pub ts_fn_type : {X : Type 0} → TsFnType X → Rules X
ts_fn_type n = at (codes "type_params") (Optional n.type_params (λ x. link x TypeParameters)) & at (codes "params") (Each n.params.items (λ x. link x SignatureParameter)) & at (codes "type_ann") (link n.type_ann Annotation)

unfoldable pub ts_constructor_type : {X : Type 0} → TsConstructorType X → Rules X
ts_constructor_type n = at (codes "type_params") (Optional n.type_params (λ x. link x TypeParameters)) & at (codes "params") (Each n.params.items (λ x. link x SignatureParameter)) & at (codes "type_ann") (link n.type_ann Annotation)

unfoldable pub ts_fn_or_constructor_type : {X : Type 0} → TsFnOrConstructorType X → Rules X
ts_fn_or_constructor_type (ts_fn_or_constructor_types.TsFnType n) = ts_fn_type n
ts_fn_or_constructor_type (ts_fn_or_constructor_types.TsConstructorType n) = ts_constructor_type n

unfoldable pub ts_tpl_lit_type : {X : Type 0} → TsTplLitType X → Rules X
ts_tpl_lit_type n = rule (is_counted n.types.items n.quasis.items) (codes "a template hasn't one part more than expressions") & elements false n.quasis.items & at (codes "types") (Each n.types.items (λ x. link x AnyType))

unfoldable pub ts_lit : {X : Type 0} → TsLit X → Rules X
ts_lit (ts_lits.Number n) = leaf (number n)
ts_lit (ts_lits.Str n) = leaf (str_lit n)
ts_lit (ts_lits.Bool n) = leaf (bool_lit n)
ts_lit (ts_lits.BigInt n) = leaf (big_int n)
ts_lit (ts_lits.Tpl n) = ts_tpl_lit_type n

unfoldable pub ts_lit_type : {X : Type 0} → TsLitType X → Rules X
ts_lit_type n = at (codes "lit") (ts_lit n.lit)

unfoldable pub ts_import_type : {X : Type 0} → TsImportType X → Rules X
ts_import_type n = at (codes "arg") (leaf (str_lit n.arg)) & at (codes "qualifier") (Optional n.qualifier (λ x. link x EntityName)) & at (codes "type_args") (Optional n.type_args (λ x. link x TypeArguments))

unfoldable pub ts_type_query_expr : {X : Type 0} → TsTypeQueryExpr X → Rules X
ts_type_query_expr (ts_type_query_exprs.TsEntityName n) = link n EntityName
ts_type_query_expr (ts_type_query_exprs.Import n) = ts_import_type n

unfoldable pub ts_type_query : {X : Type 0} → TsTypeQuery X → Rules X
ts_type_query n = at (codes "expr_name") (ts_type_query_expr n.expr_name) & at (codes "type_args") (Optional n.type_args (λ x. link x TypeArguments))

unfoldable pub ts_type_lit : {X : Type 0} → TsTypeLit X → Rules X
ts_type_lit n = at (codes "members") (Each n.members.items ts_type_element)

unfoldable pub ts_array_type : {X : Type 0} → TsArrayType X → Rules X
ts_array_type n = at (codes "elem_type") (link n.elem_type AnyType)

unfoldable pub ts_tuple_element : {X : Type 0} → TsTupleElement X → Rules X
ts_tuple_element n = at (codes "label") (Optional n.label (λ x. link x Pattern)) & at (codes "ty") (link n.ty AnyType)

unfoldable pub ts_tuple_type : {X : Type 0} → TsTupleType X → Rules X
ts_tuple_type n = at (codes "elem_types") (Each n.elem_types.items ts_tuple_element)

unfoldable pub ts_optional_type : {X : Type 0} → TsOptionalType X → Rules X
ts_optional_type n = at (codes "type_ann") (link n.type_ann AnyType)

unfoldable pub ts_rest_type : {X : Type 0} → TsRestType X → Rules X
ts_rest_type n = at (codes "type_ann") (link n.type_ann AnyType)

unfoldable pub ts_mapped_type : {X : Type 0} → TsMappedType X → Rules X
ts_mapped_type n = rule (not n.type_param.is_in && (not n.type_param.is_out && not n.type_param.is_const)) (codes "the parameter of a mapped type has a modifier") & at (codes "type_param") (ts_type_param n.type_param) & at (codes "name_type") (Optional n.name_type (λ x. link x AnyType)) & at (codes "type_ann") (Optional n.type_ann (λ x. link x AnyType))

unfoldable pub ts_union_type : {X : Type 0} → TsUnionType X → Rules X
ts_union_type n = rule (not (length n.types.items == 0)) (codes "a union or an intersection has no type") & at (codes "types") (Each n.types.items (λ x. link x AnyType))

unfoldable pub ts_intersection_type : {X : Type 0} → TsIntersectionType X → Rules X
ts_intersection_type n = rule (not (length n.types.items == 0)) (codes "a union or an intersection has no type") & at (codes "types") (Each n.types.items (λ x. link x AnyType))

unfoldable pub ts_union_or_intersection_type : {X : Type 0} → TsUnionOrIntersectionType X → Rules X
ts_union_or_intersection_type (ts_union_or_intersection_types.TsUnionType n) = ts_union_type n
ts_union_or_intersection_type (ts_union_or_intersection_types.TsIntersectionType n) = ts_intersection_type n

unfoldable pub ts_parenthesized_type : {X : Type 0} → TsParenthesizedType X → Rules X
ts_parenthesized_type n = at (codes "type_ann") (link n.type_ann AnyType)

unfoldable pub ts_type_operator : {X : Type 0} → TsTypeOperator X → Rules X
ts_type_operator n = at (codes "type_ann") (link n.type_ann AnyType)

unfoldable pub ts_indexed_access_type : {X : Type 0} → TsIndexedAccessType X → Rules X
ts_indexed_access_type n = at (codes "obj_type") (link n.obj_type AnyType) & at (codes "index_type") (link n.index_type AnyType)

unfoldable pub ts_conditional_type : {X : Type 0} → TsConditionalType X → Rules X
ts_conditional_type n = at (codes "check_type") (link n.check_type AnyType) & at (codes "extends_type") (link n.extends_type AnyType) & at (codes "true_type") (link n.true_type AnyType) & at (codes "false_type") (link n.false_type AnyType)

unfoldable pub ts_infer_type : {X : Type 0} → TsInferType X → Rules X
ts_infer_type n = at (codes "type_param") (ts_type_param n.type_param)

unfoldable pub ts_this_type_or_ident : TsThisTypeOrIdent → Rules ⊥
ts_this_type_or_ident (ts_this_type_or_idents.TsThisType n) = Free
ts_this_type_or_ident (ts_this_type_or_idents.Ident n) = ident n

unfoldable pub ts_type_predicate : {X : Type 0} → TsTypePredicate X → Rules X
ts_type_predicate n = at (codes "param_name") (leaf (ts_this_type_or_ident n.param_name)) & at (codes "type_ann") (Optional n.type_ann (λ x. link x Annotation))

unfoldable pub ts_type : {X : Type 0} → TsType X → Rules X
ts_type (ts_types.TsKeywordType n) = Free
ts_type (ts_types.TsThisType n) = Free
ts_type (ts_types.TsFnOrConstructorType n) = ts_fn_or_constructor_type n.value
ts_type (ts_types.TsTypeRef n) = ts_type_ref n
ts_type (ts_types.TsTypeQuery n) = ts_type_query n.value
ts_type (ts_types.TsTypeLit n) = ts_type_lit n
ts_type (ts_types.TsArrayType n) = ts_array_type n
ts_type (ts_types.TsTupleType n) = ts_tuple_type n
ts_type (ts_types.TsOptionalType n) = ts_optional_type n
ts_type (ts_types.TsRestType n) = ts_rest_type n
ts_type (ts_types.TsUnionOrIntersectionType n) = ts_union_or_intersection_type n
ts_type (ts_types.TsConditionalType n) = ts_conditional_type n
ts_type (ts_types.TsInferType n) = ts_infer_type n.value
ts_type (ts_types.TsParenthesizedType n) = ts_parenthesized_type n
ts_type (ts_types.TsTypeOperator n) = ts_type_operator n
ts_type (ts_types.TsIndexedAccessType n) = ts_indexed_access_type n
ts_type (ts_types.TsMappedType n) = ts_mapped_type n.value
ts_type (ts_types.TsLitType n) = ts_lit_type n.value
ts_type (ts_types.TsTypePredicate n) = ts_type_predicate n.value
ts_type (ts_types.TsImportType n) = ts_import_type n.value

unfoldable pub ts_type_ann : {X : Type 0} → TsTypeAnn X → Rules X
ts_type_ann n = at (codes "type_ann") (ts_type n.type_ann)
