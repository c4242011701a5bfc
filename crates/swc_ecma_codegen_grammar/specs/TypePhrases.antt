-- Types of TypeScript: one production a node. `f` says what is read of what a link holds, in its role. TypeScript handbook, the section
-- that stands with each.
use Rattle.std.specs.Prelude.{◌||◌, false, not, if◌then◌else◌, List, map, codes, ℕ, Option, Some, None}
use Rattle.swc_ecma_codegen_tree.specs.Links.{PatBox, TsEntityNameBox, TsTypeAnnBox, TsTypeBox, TsTypeParamDeclBox, TsTypeParamInstantiationBox}
use Rattle.swc_ecma_codegen_tree.specs.declared.ts_types.TruePlusMinus.{TruePlusMinus}
use Rattle.swc_ecma_codegen_tree.specs.declared.ts_types.TruePlusMinus.TheVariants as signs
use Rattle.swc_ecma_codegen_tree.specs.declared.ts_types.TsArrayType.{TsArrayType}
use Rattle.swc_ecma_codegen_tree.specs.declared.ts_types.TsConditionalType.{TsConditionalType}
use Rattle.swc_ecma_codegen_tree.specs.declared.ts_types.TsConstructorType.{TsConstructorType}
use Rattle.swc_ecma_codegen_tree.specs.declared.ts_types.TsEntityName.{TsEntityName}
use Rattle.swc_ecma_codegen_tree.specs.declared.ts_types.TsEntityName.TheVariants as entity_names
use Rattle.swc_ecma_codegen_tree.specs.declared.ts_types.TsFnOrConstructorType.{TsFnOrConstructorType}
use Rattle.swc_ecma_codegen_tree.specs.declared.ts_types.TsFnOrConstructorType.TheVariants as function_types
use Rattle.swc_ecma_codegen_tree.specs.declared.ts_types.TsFnParam.{TsFnParam}
use Rattle.swc_ecma_codegen_tree.specs.declared.ts_types.TsFnParam.TheVariants as fn_params
use Rattle.swc_ecma_codegen_tree.specs.declared.ts_types.TsFnType.{TsFnType}
use Rattle.swc_ecma_codegen_tree.specs.declared.ts_types.TsImportType.{TsImportType}
use Rattle.swc_ecma_codegen_tree.specs.declared.ts_types.TsIndexedAccessType.{TsIndexedAccessType}
use Rattle.swc_ecma_codegen_tree.specs.declared.ts_types.TsInferType.{TsInferType}
use Rattle.swc_ecma_codegen_tree.specs.declared.ts_types.TsIntersectionType.{TsIntersectionType}
use Rattle.swc_ecma_codegen_tree.specs.declared.ts_types.TsKeywordType.{TsKeywordType}
use Rattle.swc_ecma_codegen_tree.specs.declared.ts_types.TsKeywordTypeKind.{TsKeywordTypeKind}
use Rattle.swc_ecma_codegen_tree.specs.declared.ts_types.TsKeywordTypeKind.TheVariants as keyword_kinds
use Rattle.swc_ecma_codegen_tree.specs.declared.ts_types.TsLit.{TsLit}
use Rattle.swc_ecma_codegen_tree.specs.declared.ts_types.TsLit.TheVariants as type_lits
use Rattle.swc_ecma_codegen_tree.specs.declared.ts_types.TsLitType.{TsLitType}
use Rattle.swc_ecma_codegen_tree.specs.declared.ts_types.TsMappedType.{TsMappedType}
use Rattle.swc_ecma_codegen_tree.specs.declared.ts_types.TsOptionalType.{TsOptionalType}
use Rattle.swc_ecma_codegen_tree.specs.declared.ts_types.TsParenthesizedType.{TsParenthesizedType}
use Rattle.swc_ecma_codegen_tree.specs.declared.ts_types.TsQualifiedName.{TsQualifiedName}
use Rattle.swc_ecma_codegen_tree.specs.declared.ts_types.TsRestType.{TsRestType}
use Rattle.swc_ecma_codegen_tree.specs.declared.ts_types.TsThisType.{TsThisType}
use Rattle.swc_ecma_codegen_tree.specs.declared.ts_types.TsThisTypeOrIdent.{TsThisTypeOrIdent}
use Rattle.swc_ecma_codegen_tree.specs.declared.ts_types.TsThisTypeOrIdent.TheVariants as predicate_names
use Rattle.swc_ecma_codegen_tree.specs.declared.ts_types.TsTplLitType.{TsTplLitType}
use Rattle.swc_ecma_codegen_tree.specs.declared.ts_types.TsTupleElement.{TsTupleElement}
use Rattle.swc_ecma_codegen_tree.specs.declared.ts_types.TsTupleType.{TsTupleType}
use Rattle.swc_ecma_codegen_tree.specs.declared.ts_types.TsType.{TsType}
use Rattle.swc_ecma_codegen_tree.specs.declared.ts_types.TsType.TheVariants as types
use Rattle.swc_ecma_codegen_tree.specs.declared.ts_types.TsTypeAnn.{TsTypeAnn}
use Rattle.swc_ecma_codegen_tree.specs.declared.ts_types.TsTypeLit.{TsTypeLit}
use Rattle.swc_ecma_codegen_tree.specs.declared.ts_types.TsTypeOperator.{TsTypeOperator}
use Rattle.swc_ecma_codegen_tree.specs.declared.ts_types.TsTypeOperatorOp.{TsTypeOperatorOp}
use Rattle.swc_ecma_codegen_tree.specs.declared.ts_types.TsTypeOperatorOp.TheVariants as type_operators
use Rattle.swc_ecma_codegen_tree.specs.declared.ts_types.TsTypeParam.{TsTypeParam}
use Rattle.swc_ecma_codegen_tree.specs.declared.ts_types.TsTypeParamDecl.{TsTypeParamDecl}
use Rattle.swc_ecma_codegen_tree.specs.declared.ts_types.TsTypeParamInstantiation.{TsTypeParamInstantiation}
use Rattle.swc_ecma_codegen_tree.specs.declared.ts_types.TsTypePredicate.{TsTypePredicate}
use Rattle.swc_ecma_codegen_tree.specs.declared.ts_types.TsTypeQuery.{TsTypeQuery}
use Rattle.swc_ecma_codegen_tree.specs.declared.ts_types.TsTypeQueryExpr.{TsTypeQueryExpr}
use Rattle.swc_ecma_codegen_tree.specs.declared.ts_types.TsTypeQueryExpr.TheVariants as query_exprs
use Rattle.swc_ecma_codegen_tree.specs.declared.ts_types.TsTypeRef.{TsTypeRef}
use Rattle.swc_ecma_codegen_tree.specs.declared.ts_types.TsUnionOrIntersectionType.{TsUnionOrIntersectionType}
use Rattle.swc_ecma_codegen_tree.specs.declared.ts_types.TsUnionOrIntersectionType.TheVariants as joined_types
use Rattle.swc_ecma_codegen_tree.specs.declared.ts_types.TsUnionType.{TsUnionType}
use Rattle.swc_ecma_codegen_grammar.specs.Phrases.{Phrase, Never, Nothing, One, ◌>◌, where_, word, mark, ending, in_order, listed, some_listed}
use Rattle.swc_ecma_codegen_grammar.specs.AnnotationPhrases.{type_args, type_params}
use Rattle.swc_ecma_codegen_grammar.specs.FunctionPhrases.{word_if}
use Rattle.swc_ecma_codegen_grammar.specs.MemberPhrases.{signature_param_at, ts_type_element}
use Rattle.swc_ecma_codegen_grammar.specs.LitPhrases.{str_lit, number, bool_lit, big_int}
use Rattle.swc_ecma_codegen_grammar.specs.NamePhrases.{ident, ident_name, binding_ident}
use Rattle.swc_ecma_codegen_grammar.specs.PatPhrases.{pat_at, array_pat, rest_pat, object_pat}
use Rattle.swc_ecma_codegen_grammar.specs.TemplatePhrases.{is_counted, tpl_parts}
use Rattle.swc_ecma_codegen_grammar.specs.Tokens as tokens
use Rattle.swc_ecma_codegen_grammar.specs.declared.roles.Role.{Role}
use Rattle.swc_ecma_codegen_grammar.specs.declared.roles.Role.TheVariants.{AnyType, Annotation, TypeArguments, TypeParameters, EntityName}

-- a type that a link holds
abbrev pub type_at : {X : Type 0} → (X → Role → Phrase) → TsTypeBox X → Phrase
type_at f n = f n.node.value AnyType

-- a type, where there is one, behind what stands before it: `= A`
unfoldable pub type_behind : {X : Type 0} → (X → Role → Phrase) → Phrase → Option (TsTypeBox X) → Phrase
type_behind f before None = Nothing
type_behind f before (Some n) = before > type_at f n

-- what types add to other nodes, in links
abbrev pub ann_at : {X : Type 0} → (X → Role → Phrase) → TsTypeAnnBox X → Phrase
ann_at f n = f n.node.value Annotation

abbrev pub args_at : {X : Type 0} → (X → Role → Phrase) → TsTypeParamInstantiationBox X → Phrase
args_at f n = f n.node.value TypeArguments

abbrev pub params_at : {X : Type 0} → (X → Role → Phrase) → TsTypeParamDeclBox X → Phrase
params_at f n = f n.node.value TypeParameters

-- ---- names of types. Section "Namespaces".

-- `a.B`
unfoldable pub ts_qualified_name : {X : Type 0} → (X → Role → Phrase) → TsQualifiedName X → Phrase
ts_qualified_name f n = f n.left.node.value EntityName > mark (codes ".") > ident_name n.right

unfoldable pub ts_entity_name : {X : Type 0} → (X → Role → Phrase) → TsEntityName X → Phrase
ts_entity_name f (entity_names.TsQualifiedName n) = ts_qualified_name f n
ts_entity_name f (entity_names.Ident n) = ident n

-- `A<B>`
unfoldable pub ts_type_ref : {X : Type 0} → (X → Role → Phrase) → TsTypeRef X → Phrase
ts_type_ref f n = f n.type_name.node.value EntityName > type_args f n.type_params

-- ---- arguments and parameters. Section "Generics".

-- `<A, B>`
unfoldable pub ts_type_param_instantiation : {X : Type 0} → (X → Role → Phrase) → TsTypeParamInstantiation X → Phrase
ts_type_param_instantiation f n = mark (codes "<") > some_listed (codes ",") (map (type_at f) n.params.items) > One tokens.tag_close

-- `const in out A extends B = C`
unfoldable pub ts_type_param : {X : Type 0} → (X → Role → Phrase) → TsTypeParam X → Phrase
ts_type_param f n =
    word_if n.is_const (word (codes "const")) > word_if n.is_in (word (codes "in")) > word_if n.is_out (word (codes "out")) > ident n.name
    > type_behind f (word (codes "extends")) n.constraint > type_behind f (mark (codes "=")) n.default

-- `<A, B extends C>`
unfoldable pub ts_type_param_decl : {X : Type 0} → (X → Role → Phrase) → TsTypeParamDecl X → Phrase
ts_type_param_decl f n = mark (codes "<") > some_listed (codes ",") (map (ts_type_param f) n.params.items) > One tokens.tag_close

-- ---- keywords. Section "Everyday Types".

unfoldable pub keyword_of : TsKeywordTypeKind → List ℕ
keyword_of keyword_kinds.TsAnyKeyword = codes "any"
keyword_of keyword_kinds.TsUnknownKeyword = codes "unknown"
keyword_of keyword_kinds.TsNumberKeyword = codes "number"
keyword_of keyword_kinds.TsObjectKeyword = codes "object"
keyword_of keyword_kinds.TsBooleanKeyword = codes "boolean"
keyword_of keyword_kinds.TsBigIntKeyword = codes "bigint"
keyword_of keyword_kinds.TsStringKeyword = codes "string"
keyword_of keyword_kinds.TsSymbolKeyword = codes "symbol"
keyword_of keyword_kinds.TsVoidKeyword = codes "void"
keyword_of keyword_kinds.TsUndefinedKeyword = codes "undefined"
keyword_of keyword_kinds.TsNullKeyword = codes "null"
keyword_of keyword_kinds.TsNeverKeyword = codes "never"
keyword_of keyword_kinds.TsIntrinsicKeyword = codes "intrinsic"

unfoldable pub ts_keyword_type : TsKeywordType → Phrase
ts_keyword_type n = word (keyword_of n.kind)

unfoldable pub ts_this_type : TsThisType → Phrase
ts_this_type n = word (codes "this")

-- ---- functions. Section "Functions".

-- `a: A`, `[a]: A`, `...a: A` or `{ a }: A`
unfoldable pub ts_fn_param : {X : Type 0} → (X → Role → Phrase) → TsFnParam X → Phrase
ts_fn_param f (fn_params.Ident n) = binding_ident f n
ts_fn_param f (fn_params.Array n) = array_pat f n
ts_fn_param f (fn_params.Rest n) = rest_pat f n
ts_fn_param f (fn_params.Object n) = object_pat f n

-- `<A>(a: A) => B`
unfoldable pub ts_fn_type : {X : Type 0} → (X → Role → Phrase) → TsFnType X → Phrase
ts_fn_type f n =
    type_params f n.type_params > mark (codes "(") > listed (codes ",") (map (signature_param_at f) n.params.items) > mark (codes ")")
    > mark (codes "=>") > ann_at f n.type_ann

-- `abstract new <A>(a: A) => B`
unfoldable pub ts_constructor_type : {X : Type 0} → (X → Role → Phrase) → TsConstructorType X → Phrase
ts_constructor_type f n =
    word_if n.is_abstract (word (codes "abstract")) > word (codes "new") > type_params f n.type_params
    > mark (codes "(") > listed (codes ",") (map (signature_param_at f) n.params.items) > mark (codes ")")
    > mark (codes "=>") > ann_at f n.type_ann

unfoldable pub ts_fn_or_constructor_type : {X : Type 0} → (X → Role → Phrase) → TsFnOrConstructorType X → Phrase
ts_fn_or_constructor_type f (function_types.TsFnType n) = ts_fn_type f n
ts_fn_or_constructor_type f (function_types.TsConstructorType n) = ts_constructor_type f n

-- ---- literals. Sections "Everyday Types" and "Template Literal Types".

-- `a${B}c` between back quotes
unfoldable pub ts_tpl_lit_type : {X : Type 0} → (X → Role → Phrase) → TsTplLitType X → Phrase
ts_tpl_lit_type f n = if is_counted n.types.items n.quasis.items then tpl_parts (type_at f) false n.types.items n.quasis.items else Never

unfoldable pub ts_lit : {X : Type 0} → (X → Role → Phrase) → TsLit X → Phrase
ts_lit f (type_lits.Number n) = number n
ts_lit f (type_lits.Str n) = str_lit n
ts_lit f (type_lits.Bool n) = bool_lit n
ts_lit f (type_lits.BigInt n) = big_int n
ts_lit f (type_lits.Tpl n) = ts_tpl_lit_type f n

unfoldable pub ts_lit_type : {X : Type 0} → (X → Role → Phrase) → TsLitType X → Phrase
ts_lit_type f n = ts_lit f n.lit

-- ---- imports and queries. Sections "Modules" and "Typeof Type Operator".

-- `.B` of `import("a").B`
unfoldable pub qualifier : {X : Type 0} → (X → Role → Phrase) → Option (TsEntityNameBox X) → Phrase
qualifier f None = Nothing
qualifier f (Some n) = mark (codes ".") > f n.node.value EntityName

-- `import("a").B<C>`
unfoldable pub ts_import_type : {X : Type 0} → (X → Role → Phrase) → TsImportType X → Phrase
ts_import_type f n = word (codes "import") > mark (codes "(") > str_lit n.arg > mark (codes ")") > qualifier f n.qualifier > type_args f n.type_args

unfoldable pub ts_type_query_expr : {X : Type 0} → (X → Role → Phrase) → TsTypeQueryExpr X → Phrase
ts_type_query_expr f (query_exprs.TsEntityName n) = f n.node.value EntityName
ts_type_query_expr f (query_exprs.Import n) = ts_import_type f n

-- `typeof a.b<C>`
unfoldable pub ts_type_query : {X : Type 0} → (X → Role → Phrase) → TsTypeQuery X → Phrase
ts_type_query f n = word (codes "typeof") > ts_type_query_expr f n.expr_name > type_args f n.type_args

-- ---- objects. Sections "Object Types" and "Mapped Types".

-- `{ a: B; }`
unfoldable pub ts_type_lit : {X : Type 0} → (X → Role → Phrase) → TsTypeLit X → Phrase
ts_type_lit f n = mark (codes "{") > in_order (map (ts_type_element f) n.members.items) > mark (codes "}")

-- `A[]`
unfoldable pub ts_array_type : {X : Type 0} → (X → Role → Phrase) → TsArrayType X → Phrase
ts_array_type f n = type_at f n.elem_type > mark (codes "[") > mark (codes "]")

-- `b:` of `[b: B]`
unfoldable pub label : {X : Type 0} → (X → Role → Phrase) → Option (PatBox X) → Phrase
label f None = Nothing
label f (Some n) = pat_at f n > mark (codes ":")

unfoldable pub ts_tuple_element : {X : Type 0} → (X → Role → Phrase) → TsTupleElement X → Phrase
ts_tuple_element f n = label f n.label > type_at f n.ty

-- `[A, b: B]`
unfoldable pub ts_tuple_type : {X : Type 0} → (X → Role → Phrase) → TsTupleType X → Phrase
ts_tuple_type f n = mark (codes "[") > listed (codes ",") (map (ts_tuple_element f) n.elem_types.items) > mark (codes "]")

-- `B?` and `...B[]` of `[A, B?, ...B[]]`
unfoldable pub ts_optional_type : {X : Type 0} → (X → Role → Phrase) → TsOptionalType X → Phrase
ts_optional_type f n = type_at f n.type_ann > mark (codes "?")

unfoldable pub ts_rest_type : {X : Type 0} → (X → Role → Phrase) → TsRestType X → Phrase
ts_rest_type f n = mark (codes "...") > type_at f n.type_ann

-- what is there with a sign or without: `readonly`, `+readonly`, `-readonly`
unfoldable pub signed : Option TruePlusMinus → Phrase → Phrase
signed None phrase = Nothing
signed (Some signs.True) phrase = phrase
signed (Some signs.Plus) phrase = mark (codes "+") > phrase
signed (Some signs.Minus) phrase = mark (codes "-") > phrase

-- `A in B as C`, of which `in`, `out` and `const` have no place before the name
unfoldable pub mapped_param : {X : Type 0} → (X → Role → Phrase) → TsTypeParam X → Option (TsTypeBox X) → Phrase
mapped_param f n name_type =
    where_ (not (n.is_in || (n.is_out || n.is_const)))
    (ident n.name > type_behind f (word (codes "in")) n.constraint > type_behind f (mark (codes "=")) n.default > type_behind f (word (codes "as")) name_type)

-- `{ readonly [A in B as C]?: D; }`
unfoldable pub ts_mapped_type : {X : Type 0} → (X → Role → Phrase) → TsMappedType X → Phrase
ts_mapped_type f n =
    mark (codes "{") > signed n.readonly (word (codes "readonly"))
    > mark (codes "[") > mapped_param f n.type_param n.name_type > mark (codes "]")
    > signed n.optional (mark (codes "?")) > type_behind f (mark (codes ":")) n.type_ann > ending > mark (codes "}")

-- ---- types of types. Sections "Everyday Types", "Object Types", "Keyof Type Operator", "Indexed Access Types" and "Conditional Types".

-- `A | B`, `A & B`
unfoldable pub ts_union_type : {X : Type 0} → (X → Role → Phrase) → TsUnionType X → Phrase
ts_union_type f n = some_listed (codes "|") (map (type_at f) n.types.items)

unfoldable pub ts_intersection_type : {X : Type 0} → (X → Role → Phrase) → TsIntersectionType X → Phrase
ts_intersection_type f n = some_listed (codes "&") (map (type_at f) n.types.items)

unfoldable pub ts_union_or_intersection_type : {X : Type 0} → (X → Role → Phrase) → TsUnionOrIntersectionType X → Phrase
ts_union_or_intersection_type f (joined_types.TsUnionType n) = ts_union_type f n
ts_union_or_intersection_type f (joined_types.TsIntersectionType n) = ts_intersection_type f n

-- `(A)`
unfoldable pub ts_parenthesized_type : {X : Type 0} → (X → Role → Phrase) → TsParenthesizedType X → Phrase
ts_parenthesized_type f n = mark (codes "(") > type_at f n.type_ann > mark (codes ")")

-- `keyof A`
unfoldable pub type_operator : TsTypeOperatorOp → List ℕ
type_operator type_operators.KeyOf = codes "keyof"
type_operator type_operators.Unique = codes "unique"
type_operator type_operators.ReadOnly = codes "readonly"

unfoldable pub ts_type_operator : {X : Type 0} → (X → Role → Phrase) → TsTypeOperator X → Phrase
ts_type_operator f n = word (type_operator n.op) > type_at f n.type_ann

-- `A["b"]`
unfoldable pub ts_indexed_access_type : {X : Type 0} → (X → Role → Phrase) → TsIndexedAccessType X → Phrase
ts_indexed_access_type f n = type_at f n.obj_type > mark (codes "[") > type_at f n.index_type > mark (codes "]")

-- `A extends B ? C : D`
unfoldable pub ts_conditional_type : {X : Type 0} → (X → Role → Phrase) → TsConditionalType X → Phrase
ts_conditional_type f n =
    type_at f n.check_type > word (codes "extends") > type_at f n.extends_type > mark (codes "?") > type_at f n.true_type > mark (codes ":") > type_at f n.false_type

-- `infer A`
unfoldable pub ts_infer_type : {X : Type 0} → (X → Role → Phrase) → TsInferType X → Phrase
ts_infer_type f n = word (codes "infer") > ts_type_param f n.type_param

-- ---- predicates. Section "Narrowing".

unfoldable pub ts_this_type_or_ident : TsThisTypeOrIdent → Phrase
ts_this_type_or_ident (predicate_names.TsThisType n) = ts_this_type n
ts_this_type_or_ident (predicate_names.Ident n) = ident n

-- `is B` of `a is B`
unfoldable pub is_behind : {X : Type 0} → (X → Role → Phrase) → Option (TsTypeAnnBox X) → Phrase
is_behind f None = Nothing
is_behind f (Some n) = word (codes "is") > ann_at f n

-- `asserts a is B`
unfoldable pub ts_type_predicate : {X : Type 0} → (X → Role → Phrase) → TsTypePredicate X → Phrase
ts_type_predicate f n = word_if n.asserts (word (codes "asserts")) > ts_this_type_or_ident n.param_name > is_behind f n.type_ann

-- ---- types

unfoldable pub ts_type : {X : Type 0} → (X → Role → Phrase) → TsType X → Phrase
ts_type f (types.TsKeywordType n) = ts_keyword_type n
ts_type f (types.TsThisType n) = ts_this_type n
ts_type f (types.TsFnOrConstructorType n) = ts_fn_or_constructor_type f n.value
ts_type f (types.TsTypeRef n) = ts_type_ref f n
ts_type f (types.TsTypeQuery n) = ts_type_query f n.value
ts_type f (types.TsTypeLit n) = ts_type_lit f n
ts_type f (types.TsArrayType n) = ts_array_type f n
ts_type f (types.TsTupleType n) = ts_tuple_type f n
ts_type f (types.TsOptionalType n) = ts_optional_type f n
ts_type f (types.TsRestType n) = ts_rest_type f n
ts_type f (types.TsUnionOrIntersectionType n) = ts_union_or_intersection_type f n
ts_type f (types.TsConditionalType n) = ts_conditional_type f n
ts_type f (types.TsInferType n) = ts_infer_type f n.value
ts_type f (types.TsParenthesizedType n) = ts_parenthesized_type f n
ts_type f (types.TsTypeOperator n) = ts_type_operator f n
ts_type f (types.TsIndexedAccessType n) = ts_indexed_access_type f n
ts_type f (types.TsMappedType n) = ts_mapped_type f n.value
ts_type f (types.TsLitType n) = ts_lit_type f n.value
ts_type f (types.TsTypePredicate n) = ts_type_predicate f n.value
ts_type f (types.TsImportType n) = ts_import_type f n.value

unfoldable pub ts_type_ann : {X : Type 0} → (X → Role → Phrase) → TsTypeAnn X → Phrase
ts_type_ann f n = ts_type f n.type_ann
