-- What is written of types of TypeScript.
use Rattle.std.specs.Prelude.{ℕ, false, if◌then◌else◌, is_some, List, map, codes, Option, Some, None}
use Rattle.swc_ecma_codegen_common.specs.declared.positions.Span.{Span}
use Rattle.swc_ecma_codegen_tree.specs.Links.{PatBox, TsEntityNameBox, TsFnParamBox, TsTypeAnnBox, TsTypeBox}
use Rattle.swc_ecma_codegen_tree.specs.declared.ts_types.TruePlusMinus.{TruePlusMinus}
use Rattle.swc_ecma_codegen_tree.specs.declared.ts_types.TruePlusMinus.TheVariants as signs
use Rattle.swc_ecma_codegen_tree.specs.declared.ts_types.TsArrayType.{TsArrayType}
use Rattle.swc_ecma_codegen_tree.specs.declared.ts_types.TsConditionalType.{TsConditionalType}
use Rattle.swc_ecma_codegen_tree.specs.declared.ts_types.TsConstructorType.{TsConstructorType}
use Rattle.swc_ecma_codegen_tree.specs.declared.ts_types.TsEntityName.{TsEntityName}
use Rattle.swc_ecma_codegen_tree.specs.declared.ts_types.TsEntityName.TheVariants as entity_names
use Rattle.swc_ecma_codegen_tree.specs.declared.ts_types.TsFnOrConstructorType.{TsFnOrConstructorType}
use Rattle.swc_ecma_codegen_tree.specs.declared.ts_types.TsFnOrConstructorType.TheVariants as function_types
use Rattle.swc_ecma_codegen_tree.specs.declared.ts_types.TsFnParam.{TsFnParam}
use Rattle.swc_ecma_codegen_tree.specs.declared.ts_types.TsFnParam.TheVariants as fn_params
use Rattle.swc_ecma_codegen_tree.specs.declared.ts_types.TsFnType.{TsFnType}
use Rattle.swc_ecma_codegen_tree.specs.declared.ts_types.TsImportType.{TsImportType}
use Rattle.swc_ecma_codegen_tree.specs.declared.ts_types.TsIndexedAccessType.{TsIndexedAccessType}
use Rattle.swc_ecma_codegen_tree.specs.declared.ts_types.TsInferType.{TsInferType}
use Rattle.swc_ecma_codegen_tree.specs.declared.ts_types.TsIntersectionType.{TsIntersectionType}
use Rattle.swc_ecma_codegen_tree.specs.declared.ts_types.TsKeywordType.{TsKeywordType}
use Rattle.swc_ecma_codegen_tree.specs.declared.ts_types.TsLit.{TsLit}
use Rattle.swc_ecma_codegen_tree.specs.declared.ts_types.TsLit.TheVariants as type_lits
use Rattle.swc_ecma_codegen_tree.specs.declared.ts_types.TsLitType.{TsLitType}
use Rattle.swc_ecma_codegen_tree.specs.declared.ts_types.TsMappedType.{TsMappedType}
use Rattle.swc_ecma_codegen_tree.specs.declared.ts_types.TsOptionalType.{TsOptionalType}
use Rattle.swc_ecma_codegen_tree.specs.declared.ts_types.TsParenthesizedType.{TsParenthesizedType}
use Rattle.swc_ecma_codegen_tree.specs.declared.ts_types.TsQualifiedName.{TsQualifiedName}
use Rattle.swc_ecma_codegen_tree.specs.declared.ts_types.TsRestType.{TsRestType}
use Rattle.swc_ecma_codegen_tree.specs.declared.ts_types.TsThisType.{TsThisType}
use Rattle.swc_ecma_codegen_tree.specs.declared.ts_types.TsThisTypeOrIdent.{TsThisTypeOrIdent}
use Rattle.swc_ecma_codegen_tree.specs.declared.ts_types.TsThisTypeOrIdent.TheVariants as predicate_names
use Rattle.swc_ecma_codegen_tree.specs.declared.ts_types.TsTplLitType.{TsTplLitType}
use Rattle.swc_ecma_codegen_tree.specs.declared.ts_types.TsTupleElement.{TsTupleElement}
use Rattle.swc_ecma_codegen_tree.specs.declared.ts_types.TsTupleType.{TsTupleType}
use Rattle.swc_ecma_codegen_tree.specs.declared.ts_types.TsType.{TsType}
use Rattle.swc_ecma_codegen_tree.specs.declared.ts_types.TsType.TheVariants as types
use Rattle.swc_ecma_codegen_tree.specs.declared.ts_types.TsTypeAnn.{TsTypeAnn}
use Rattle.swc_ecma_codegen_tree.specs.declared.ts_types.TsTypeLit.{TsTypeLit}
use Rattle.swc_ecma_codegen_tree.specs.declared.ts_types.TsTypeOperator.{TsTypeOperator}
use Rattle.swc_ecma_codegen_tree.specs.declared.ts_types.TsTypeParam.{TsTypeParam}
use Rattle.swc_ecma_codegen_tree.specs.declared.ts_types.TsTypeParamDecl.{TsTypeParamDecl}
use Rattle.swc_ecma_codegen_tree.specs.declared.ts_types.TsTypeParamInstantiation.{TsTypeParamInstantiation}
use Rattle.swc_ecma_codegen_tree.specs.declared.ts_types.TsTypePredicate.{TsTypePredicate}
use Rattle.swc_ecma_codegen_tree.specs.declared.ts_types.TsTypeQuery.{TsTypeQuery}
use Rattle.swc_ecma_codegen_tree.specs.declared.ts_types.TsTypeQueryExpr.{TsTypeQueryExpr}
use Rattle.swc_ecma_codegen_tree.specs.declared.ts_types.TsTypeQueryExpr.TheVariants as query_exprs
use Rattle.swc_ecma_codegen_tree.specs.declared.ts_types.TsTypeRef.{TsTypeRef}
use Rattle.swc_ecma_codegen_tree.specs.declared.ts_types.TsUnionOrIntersectionType.{TsUnionOrIntersectionType}
use Rattle.swc_ecma_codegen_tree.specs.declared.ts_types.TsUnionOrIntersectionType.TheVariants as joined_types
use Rattle.swc_ecma_codegen_tree.specs.declared.ts_types.TsUnionType.{TsUnionType}
use Rattle.swc_ecma_codegen_grammar.specs.TemplatePhrases.{is_counted}
use Rattle.swc_ecma_codegen_grammar.specs.TypePhrases.{keyword_of, type_operator}
use Rattle.swc_ecma_codegen_tokens.specs.Run.{Part}
use Rattle.swc_ecma_codegen_tokens.specs.Lists.{list, deeper, shallower}
use Rattle.swc_ecma_codegen_tokens.specs.Lits.{str_lit, bool_node, number_lit, big_int_lit}
use Rattle.swc_ecma_codegen_tokens.specs.Tags.{close}
use Rattle.swc_ecma_codegen_tokens.specs.Words.{keyword, punct, punct_between, semi, space, formatting_space, line_end, leading_comments}
use Rattle.swc_ecma_codegen_spans.specs.Spans.{ts_type_element_span}
use Rattle.swc_ecma_codegen_emit.specs.declared.nodes.Context.{Context}
use Rattle.swc_ecma_codegen_emit.specs.declared.nodes.Context.TheVariants.{Plain, Reference}
use Rattle.swc_ecma_codegen_emit.specs.Places.{Place, Whole}
use Rattle.swc_ecma_codegen_emit.specs.Annotations.{types_format, word_before, type_args, type_params}
use Rattle.swc_ecma_codegen_emit.specs.Answers.{Answers}
use Rattle.swc_ecma_codegen_emit.specs.Exprs.{ident, ident_name, spaced_punct}
use Rattle.swc_ecma_codegen_emit.specs.Lists.{child_of}
use Rattle.swc_ecma_codegen_emit.specs.Names.{binding_ident}
use Rattle.swc_ecma_codegen_emit.specs.Pats.{array_pat, rest_pat, object_pat}
use Rattle.swc_ecma_codegen_emit.specs.Templates.{bad_shape, tpl_parts}
use Rattle.swc_ecma_codegen_emit.specs.TsMembers.{fn_params_list, member_items}

-- a type that a link holds: where it stands, and what is written of it
abbrev pub type_place : {X : Type 0} → (X → Answers) → TsTypeBox X → Span
type_place asks n = (asks n.node.value).place

abbrev pub type_items : {X : Type 0} → (X → Place → Part) → TsTypeBox X → Place → Part
type_items items n place = items n.node.value place

abbrev pub type_at : {X : Type 0} → (X → Place → Part) → TsTypeBox X → Part
type_at items n = items n.node.value (Whole Plain)

-- a type, where there is one, behind a word between two blanks: ` extends A`
unfoldable pub type_behind : {X : Type 0} → (X → Place → Part) → List ℕ → Option (TsTypeBox X) → Part
type_behind items t None rest = rest
type_behind items t (Some n) rest = space (keyword None t (space (type_at items n rest)))

-- ` = A`
unfoldable pub default_type : {X : Type 0} → (X → Place → Part) → Option (TsTypeBox X) → Part
default_type items None rest = rest
default_type items (Some n) rest = spaced_punct (codes "=") (type_at items n rest)

-- ---- names of types

-- `a.B`
unfoldable pub ts_qualified_name : {X : Type 0} → (X → Place → Part) → TsQualifiedName X → Part
ts_qualified_name items n rest = leading_comments n.span.lo (items n.left.node.value (Whole Plain) (punct (codes ".") (ident_name n.right rest)))

unfoldable pub ts_entity_name : {X : Type 0} → (X → Place → Part) → TsEntityName X → Part
ts_entity_name items (entity_names.TsQualifiedName n) rest = ts_qualified_name items n rest
ts_entity_name items (entity_names.Ident n) rest = ident n rest

-- `A<B>`: its arguments leave their comments
unfoldable pub ts_type_ref : {X : Type 0} → (X → Place → Part) → TsTypeRef X → Part
ts_type_ref items n rest = leading_comments n.span.lo (items n.type_name.node.value (Whole Plain) (type_args items Reference n.type_params rest))

-- ---- arguments and parameters

-- the types of a list, with commas between
abbrev pub listed_types : {X : Type 0} → (X → Answers) → (X → Place → Part) → TsTypeParamInstantiation X → Part
listed_types asks items n = list types_format n.span (map (child_of (type_place asks) (type_items items)) n.params.items)

unfoldable pub type_arguments : {X : Type 0} → (X → Answers) → (X → Place → Part) → TsTypeParamInstantiation X → Part
type_arguments asks items n rest = punct (codes "<") (listed_types asks items n (close rest))

-- `<A, B>`, with its comments but behind the name of a type
unfoldable pub ts_type_param_instantiation : {X : Type 0} → (X → Answers) → (X → Place → Part) → TsTypeParamInstantiation X → Context → Part
ts_type_param_instantiation asks items n Reference rest = type_arguments asks items n rest
ts_type_param_instantiation asks items n context rest = leading_comments n.span.lo (type_arguments asks items n rest)

-- `const in out A extends B = C`
unfoldable pub ts_type_param : {X : Type 0} → (X → Place → Part) → TsTypeParam X → Part
ts_type_param items n rest =
    leading_comments n.span.lo
    (word_before n.is_const (codes "const")
    (word_before n.is_in (codes "in")
    (word_before n.is_out (codes "out")
    (ident n.name
    (type_behind items (codes "extends") n.constraint
    (default_type items n.default rest))))))

abbrev pub param_place : {X : Type 0} → TsTypeParam X → Span
param_place n = n.span

abbrev pub listed_params : {X : Type 0} → (X → Place → Part) → TsTypeParamDecl X → Part
listed_params items n = list types_format n.span (map (child_of param_place (λ p place. ts_type_param items p)) n.params.items)

-- `<A, B extends C>`
unfoldable pub ts_type_param_decl : {X : Type 0} → (X → Place → Part) → TsTypeParamDecl X → Part
ts_type_param_decl items n rest = leading_comments n.span.lo (punct (codes "<") (listed_params items n (close rest)))

-- ---- keywords

unfoldable pub ts_keyword_type : TsKeywordType → Part
ts_keyword_type n rest = leading_comments n.span.lo (keyword (Some n.span) (keyword_of n.kind) rest)

unfoldable pub ts_this_type : TsThisType → Part
ts_this_type n rest = leading_comments n.span.lo (keyword (Some n.span) (codes "this") rest)

-- ---- functions

-- a parameter without the comments behind it
unfoldable pub ts_fn_param : {X : Type 0} → (X → Answers) → (X → Place → Part) → TsFnParam X → Part
ts_fn_param asks items (fn_params.Ident n) rest = binding_ident items n rest
ts_fn_param asks items (fn_params.Array n) rest = array_pat asks items n rest
ts_fn_param asks items (fn_params.Rest n) rest = rest_pat items n rest
ts_fn_param asks items (fn_params.Object n) rest = object_pat asks items n rest

-- `(a: A) => B`
unfoldable pub signature_type : {X : Type 0} → (X → Answers) → (X → Place → Part) → Span → List (TsFnParamBox X) → TsTypeAnnBox X → Part
signature_type asks items span ns result rest =
    punct (codes "(")
    (fn_params_list asks items span ns
    (punct (codes ")") (spaced_punct (codes "=>") (items result.node.value (Whole Plain) rest))))

-- `<A>(a: A) => B`
unfoldable pub ts_fn_type : {X : Type 0} → (X → Answers) → (X → Place → Part) → TsFnType X → Part
ts_fn_type asks items n rest = leading_comments n.span.lo (type_params items n.type_params (signature_type asks items n.span n.params.items n.type_ann rest))

-- the blank before type parameters behind `new`
unfoldable pub spaced_params : {X : Type 0} → (X → Place → Part) → TsConstructorType X → Part
spaced_params items n rest = if is_some n.type_params then space (type_params items n.type_params rest) else rest

-- `abstract new <A>(a: A) => B`
unfoldable pub ts_constructor_type : {X : Type 0} → (X → Answers) → (X → Place → Part) → TsConstructorType X → Part
ts_constructor_type asks items n rest =
    leading_comments n.span.lo
    (word_before n.is_abstract (codes "abstract")
    (keyword None (codes "new")
    (spaced_params items n
    (signature_type asks items n.span n.params.items n.type_ann rest))))

unfoldable pub ts_fn_or_constructor_type : {X : Type 0} → (X → Answers) → (X → Place → Part) → TsFnOrConstructorType X → Part
ts_fn_or_constructor_type asks items (function_types.TsFnType n) rest = ts_fn_type asks items n rest
ts_fn_or_constructor_type asks items (function_types.TsConstructorType n) rest = ts_constructor_type asks items n rest

-- ---- literals

unfoldable pub ts_tpl_parts : {X : Type 0} → (X → Place → Part) → TsTplLitType X → Part
ts_tpl_parts items n rest = leading_comments n.span.lo (tpl_parts (type_at items) false n.types.items n.quasis.items rest)

-- a template has one part more than types, or no text
unfoldable pub ts_tpl_lit_type : {X : Type 0} → (X → Place → Part) → TsTplLitType X → Part
ts_tpl_lit_type items n rest = if is_counted n.types.items n.quasis.items then ts_tpl_parts items n rest else bad_shape rest

unfoldable pub ts_lit : {X : Type 0} → (X → Place → Part) → TsLit X → Part
ts_lit items (type_lits.Number n) rest = number_lit n rest
ts_lit items (type_lits.Str n) rest = str_lit n rest
ts_lit items (type_lits.Bool n) rest = bool_node n rest
ts_lit items (type_lits.BigInt n) rest = big_int_lit n rest
ts_lit items (type_lits.Tpl n) rest = ts_tpl_lit_type items n rest

unfoldable pub ts_lit_type : {X : Type 0} → (X → Place → Part) → TsLitType X → Part
ts_lit_type items n rest = leading_comments n.span.lo (ts_lit items n.lit rest)

-- ---- imports and queries

-- `.B` of `import("a").B`
unfoldable pub qualifier : {X : Type 0} → (X → Place → Part) → Option (TsEntityNameBox X) → Part
qualifier items None rest = rest
qualifier items (Some n) rest = punct (codes ".") (items n.node.value (Whole Plain) rest)

-- `import("a").B<C>`
unfoldable pub ts_import_type : {X : Type 0} → (X → Place → Part) → TsImportType X → Part
ts_import_type items n rest =
    leading_comments n.span.lo
    (keyword None (codes "import")
    (punct (codes "(") (str_lit n.arg (punct (codes ")") (qualifier items n.qualifier (type_args items Plain n.type_args rest))))))

unfoldable pub ts_type_query_expr : {X : Type 0} → (X → Place → Part) → TsTypeQueryExpr X → Part
ts_type_query_expr items (query_exprs.TsEntityName n) rest = items n.node.value (Whole Plain) rest
ts_type_query_expr items (query_exprs.Import n) rest = ts_import_type items n rest

-- `typeof a.b<C>`
unfoldable pub ts_type_query : {X : Type 0} → (X → Place → Part) → TsTypeQuery X → Part
ts_type_query items n rest = leading_comments n.span.lo (keyword None (codes "typeof") (space (ts_type_query_expr items n.expr_name (type_args items Plain n.type_args rest))))

-- ---- objects

-- `MultiLineTypeLiteralMembers`
abbrev pub members_format : ℕ
members_format = 1089

abbrev pub listed_members : {X : Type 0} → (X → Answers) → (X → Place → Part) → TsTypeLit X → Part
listed_members asks items n = list members_format n.span (map (child_of ts_type_element_span (member_items asks items)) n.members.items)

-- `{ a: B; }`
unfoldable pub ts_type_lit : {X : Type 0} → (X → Answers) → (X → Place → Part) → TsTypeLit X → Part
ts_type_lit asks items n rest = leading_comments n.span.lo (punct (codes "{") (listed_members asks items n (punct (codes "}") rest)))

-- `A[]`
unfoldable pub ts_array_type : {X : Type 0} → (X → Place → Part) → TsArrayType X → Part
ts_array_type items n rest = leading_comments n.span.lo (type_at items n.elem_type (punct (codes "[") (punct (codes "]") rest)))

-- `b: ` of `[b: B]`
unfoldable pub label : {X : Type 0} → (X → Place → Part) → Option (PatBox X) → Part
label items None rest = rest
label items (Some n) rest = items n.node.value (Whole Plain) (punct (codes ":") (formatting_space rest))

unfoldable pub ts_tuple_element : {X : Type 0} → (X → Place → Part) → TsTupleElement X → Part
ts_tuple_element items n rest = leading_comments n.span.lo (label items n.label (type_at items n.ty rest))

abbrev pub element_place : {X : Type 0} → TsTupleElement X → Span
element_place n = n.span

abbrev pub listed_elements : {X : Type 0} → (X → Place → Part) → TsTupleType X → Part
listed_elements items n = list types_format n.span (map (child_of element_place (λ x place. ts_tuple_element items x)) n.elem_types.items)

-- `[A, b: B]`
unfoldable pub ts_tuple_type : {X : Type 0} → (X → Place → Part) → TsTupleType X → Part
ts_tuple_type items n rest = leading_comments n.span.lo (punct (codes "[") (listed_elements items n (punct (codes "]") rest)))

-- `B?`
unfoldable pub ts_optional_type : {X : Type 0} → (X → Place → Part) → TsOptionalType X → Part
ts_optional_type items n rest = leading_comments n.span.lo (type_at items n.type_ann (punct (codes "?") rest))

-- `...B[]`
unfoldable pub ts_rest_type : {X : Type 0} → (X → Place → Part) → TsRestType X → Part
ts_rest_type items n rest = leading_comments n.span.lo (punct (codes "...") (type_at items n.type_ann rest))

-- `+` or `-`, where there is one
unfoldable pub sign : TruePlusMinus → Part
sign signs.True rest = rest
sign signs.Plus rest = punct (codes "+") rest
sign signs.Minus rest = punct (codes "-") rest

-- `+readonly `
unfoldable pub signed_readonly : Option TruePlusMinus → Part
signed_readonly None rest = rest
signed_readonly (Some s) rest = sign s (keyword None (codes "readonly") (space rest))

-- `+?`
unfoldable pub signed_question : Option TruePlusMinus → Part
signed_question None rest = rest
signed_question (Some s) rest = sign s (punct (codes "?") rest)

-- `A in B = C as D`
unfoldable pub mapped_param : {X : Type 0} → (X → Place → Part) → TsTypeParam X → Option (TsTypeBox X) → Part
mapped_param items n name_type rest =
    ident n.name (type_behind items (codes "in") n.constraint (default_type items n.default (type_behind items (codes "as") name_type rest)))

-- `: A`, with a blank always
unfoldable pub mapped_type_ann : {X : Type 0} → (X → Place → Part) → Option (TsTypeBox X) → Part
mapped_type_ann items None rest = rest
mapped_type_ann items (Some n) rest = punct (codes ":") (space (type_at items n rest))

-- `readonly [A in B as C]?: D;`
unfoldable pub mapped_parts : {X : Type 0} → (X → Place → Part) → TsMappedType X → Part
mapped_parts items n rest =
    signed_readonly n.readonly
    (punct (codes "[")
    (mapped_param items n.type_param n.name_type
    (punct (codes "]")
    (signed_question n.optional (mapped_type_ann items n.type_ann (semi rest))))))

-- The lines and the level are there minified too.
unfoldable pub ts_mapped_type : {X : Type 0} → (X → Place → Part) → TsMappedType X → Part
ts_mapped_type items n rest = leading_comments n.span.lo (punct (codes "{") (line_end (deeper (mapped_parts items n (line_end (shallower (punct (codes "}") rest)))))))

-- ---- types of types

-- `UnionTypeConstituents` and `IntersectionTypeConstituents`
abbrev pub union_format : ℕ
union_format = 260

abbrev pub intersection_format : ℕ
intersection_format = 264

abbrev pub joined_list : {X : Type 0} → (X → Answers) → (X → Place → Part) → ℕ → Span → List (TsTypeBox X) → Part
joined_list asks items format span ns = list format span (map (child_of (type_place asks) (type_items items)) ns)

abbrev pub union_types : {X : Type 0} → (X → Answers) → (X → Place → Part) → TsUnionType X → Part
union_types asks items n = joined_list asks items union_format n.span n.types.items

abbrev pub intersection_types : {X : Type 0} → (X → Answers) → (X → Place → Part) → TsIntersectionType X → Part
intersection_types asks items n = joined_list asks items intersection_format n.span n.types.items

-- `A | B`
unfoldable pub ts_union_type : {X : Type 0} → (X → Answers) → (X → Place → Part) → TsUnionType X → Part
ts_union_type asks items n rest = leading_comments n.span.lo (union_types asks items n rest)

-- `A & B`
unfoldable pub ts_intersection_type : {X : Type 0} → (X → Answers) → (X → Place → Part) → TsIntersectionType X → Part
ts_intersection_type asks items n rest = leading_comments n.span.lo (intersection_types asks items n rest)

unfoldable pub ts_union_or_intersection_type : {X : Type 0} → (X → Answers) → (X → Place → Part) → TsUnionOrIntersectionType X → Part
ts_union_or_intersection_type asks items (joined_types.TsUnionType n) rest = ts_union_type asks items n rest
ts_union_or_intersection_type asks items (joined_types.TsIntersectionType n) rest = ts_intersection_type asks items n rest

-- `(A)`
unfoldable pub ts_parenthesized_type : {X : Type 0} → (X → Place → Part) → TsParenthesizedType X → Part
ts_parenthesized_type items n rest = leading_comments n.span.lo (punct (codes "(") (type_at items n.type_ann (punct (codes ")") rest)))

-- `keyof A`
unfoldable pub ts_type_operator : {X : Type 0} → (X → Place → Part) → TsTypeOperator X → Part
ts_type_operator items n rest = leading_comments n.span.lo (keyword None (type_operator n.op) (space (type_at items n.type_ann rest)))

-- `A["b"]`
unfoldable pub ts_indexed_access_type : {X : Type 0} → (X → Place → Part) → TsIndexedAccessType X → Part
ts_indexed_access_type items n rest = leading_comments n.span.lo (type_at items n.obj_type (punct (codes "[") (type_at items n.index_type (punct (codes "]") rest))))

-- `A extends B ? C : D`
unfoldable pub ts_conditional_type : {X : Type 0} → (X → Place → Part) → TsConditionalType X → Part
ts_conditional_type items n rest =
    leading_comments n.span.lo
    (type_at items n.check_type
    (space (keyword None (codes "extends") (space
    (type_at items n.extends_type
    (punct_between (codes "?")
    (type_at items n.true_type
    (punct_between (codes ":")
    (type_at items n.false_type rest)))))))))

-- `infer A`
unfoldable pub ts_infer_type : {X : Type 0} → (X → Place → Part) → TsInferType X → Part
ts_infer_type items n rest = leading_comments n.span.lo (keyword None (codes "infer") (space (ts_type_param items n.type_param rest)))

-- ---- predicates

unfoldable pub ts_this_type_or_ident : TsThisTypeOrIdent → Part
ts_this_type_or_ident (predicate_names.TsThisType n) rest = ts_this_type n rest
ts_this_type_or_ident (predicate_names.Ident n) rest = ident n rest

-- ` is B`
unfoldable pub is_behind : {X : Type 0} → (X → Place → Part) → Option (TsTypeAnnBox X) → Part
is_behind items None rest = rest
is_behind items (Some n) rest = space (keyword None (codes "is") (space (items n.node.value (Whole Plain) rest)))

-- `asserts a is B`
unfoldable pub ts_type_predicate : {X : Type 0} → (X → Place → Part) → TsTypePredicate X → Part
ts_type_predicate items n rest = leading_comments n.span.lo (word_before n.asserts (codes "asserts") (ts_this_type_or_ident n.param_name (is_behind items n.type_ann rest)))

-- ---- types

unfoldable pub ts_type : {X : Type 0} → (X → Answers) → (X → Place → Part) → TsType X → Part
ts_type asks items (types.TsKeywordType n) rest = ts_keyword_type n rest
ts_type asks items (types.TsThisType n) rest = ts_this_type n rest
ts_type asks items (types.TsFnOrConstructorType n) rest = ts_fn_or_constructor_type asks items n.value rest
ts_type asks items (types.TsTypeRef n) rest = ts_type_ref items n rest
ts_type asks items (types.TsTypeQuery n) rest = ts_type_query items n.value rest
ts_type asks items (types.TsTypeLit n) rest = ts_type_lit asks items n rest
ts_type asks items (types.TsArrayType n) rest = ts_array_type items n rest
ts_type asks items (types.TsTupleType n) rest = ts_tuple_type items n rest
ts_type asks items (types.TsOptionalType n) rest = ts_optional_type items n rest
ts_type asks items (types.TsRestType n) rest = ts_rest_type items n rest
ts_type asks items (types.TsUnionOrIntersectionType n) rest = ts_union_or_intersection_type asks items n rest
ts_type asks items (types.TsConditionalType n) rest = ts_conditional_type items n rest
ts_type asks items (types.TsInferType n) rest = ts_infer_type items n.value rest
ts_type asks items (types.TsParenthesizedType n) rest = ts_parenthesized_type items n rest
ts_type asks items (types.TsTypeOperator n) rest = ts_type_operator items n rest
ts_type asks items (types.TsIndexedAccessType n) rest = ts_indexed_access_type items n rest
ts_type asks items (types.TsMappedType n) rest = ts_mapped_type items n.value rest
ts_type asks items (types.TsLitType n) rest = ts_lit_type items n.value rest
ts_type asks items (types.TsTypePredicate n) rest = ts_type_predicate items n.value rest
ts_type asks items (types.TsImportType n) rest = ts_import_type items n.value rest

-- with its comments but as the type of a getter
unfoldable pub ts_type_ann : {X : Type 0} → (X → Answers) → (X → Place → Part) → TsTypeAnn X → Context → Part
ts_type_ann asks items n Reference rest = ts_type asks items n.type_ann rest
ts_type_ann asks items n context rest = leading_comments n.span.lo (ts_type asks items n.type_ann rest)
