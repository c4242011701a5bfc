-- What is written of types is what it reads as.
use Rattle.std.proofs.Common.{◌||◌, not, false, cond, is_some, refl, List, [], ◌∷◌, codes, map, ℕ, arith, Option, Some, None}
use Rattle.swc_ecma_codegen_common.specs.declared.positions.Span.{Span}
use Rattle.swc_ecma_codegen_tree.specs.Links.{PatBox, TsEntityNameBox, TsFnParamBox, TsTypeAnnBox, TsTypeBox, TsTypeParamDeclBox}
use Rattle.swc_ecma_codegen_tree.specs.declared.ts_types.TruePlusMinus.{TruePlusMinus}
use Rattle.swc_ecma_codegen_tree.specs.declared.ts_types.TruePlusMinus.TheVariants as signs
use Rattle.swc_ecma_codegen_tree.specs.declared.ts_types.TsArrayType.{TsArrayType}
use Rattle.swc_ecma_codegen_tree.specs.declared.ts_types.TsConditionalType.{TsConditionalType}
use Rattle.swc_ecma_codegen_tree.specs.declared.ts_types.TsConstructorType.{TsConstructorType}
use Rattle.swc_ecma_codegen_tree.specs.declared.ts_types.TsEntityName.{TsEntityName}
use Rattle.swc_ecma_codegen_tree.specs.declared.ts_types.TsEntityName.TheVariants as entity_names
use Rattle.swc_ecma_codegen_tree.specs.declared.ts_types.TsFnOrConstructorType.{TsFnOrConstructorType}
use Rattle.swc_ecma_codegen_tree.specs.declared.ts_types.TsFnOrConstructorType.TheVariants as function_types
use Rattle.swc_ecma_codegen_tree.specs.declared.ts_types.TsFnParam.{TsFnParam}
use Rattle.swc_ecma_codegen_tree.specs.declared.ts_types.TsFnParam.TheVariants as fn_params
use Rattle.swc_ecma_codegen_tree.specs.declared.ts_types.TsFnType.{TsFnType}
use Rattle.swc_ecma_codegen_tree.specs.declared.ts_types.TsImportType.{TsImportType}
use Rattle.swc_ecma_codegen_tree.specs.declared.ts_types.TsIndexedAccessType.{TsIndexedAccessType}
use Rattle.swc_ecma_codegen_tree.specs.declared.ts_types.TsInferType.{TsInferType}
use Rattle.swc_ecma_codegen_tree.specs.declared.ts_types.TsKeywordType.{TsKeywordType}
use Rattle.swc_ecma_codegen_tree.specs.declared.ts_types.TsLit.{TsLit}
use Rattle.swc_ecma_codegen_tree.specs.declared.ts_types.TsLit.TheVariants as type_lits
use Rattle.swc_ecma_codegen_tree.specs.declared.ts_types.TsLitType.{TsLitType}
use Rattle.swc_ecma_codegen_tree.specs.declared.ts_types.TsMappedType.{TsMappedType}
use Rattle.swc_ecma_codegen_tree.specs.declared.ts_types.TsOptionalType.{TsOptionalType}
use Rattle.swc_ecma_codegen_tree.specs.declared.ts_types.TsParenthesizedType.{TsParenthesizedType}
use Rattle.swc_ecma_codegen_tree.specs.declared.ts_types.TsRestType.{TsRestType}
use Rattle.swc_ecma_codegen_tree.specs.declared.ts_types.TsThisType.{TsThisType}
use Rattle.swc_ecma_codegen_tree.specs.declared.ts_types.TsThisTypeOrIdent.{TsThisTypeOrIdent}
use Rattle.swc_ecma_codegen_tree.specs.declared.ts_types.TsThisTypeOrIdent.TheVariants as predicate_names
use Rattle.swc_ecma_codegen_tree.specs.declared.ts_types.TsTplLitType.{TsTplLitType}
use Rattle.swc_ecma_codegen_tree.specs.declared.ts_types.TsTupleElement.{TsTupleElement}
use Rattle.swc_ecma_codegen_tree.specs.declared.ts_types.TsTupleType.{TsTupleType}
use Rattle.swc_ecma_codegen_tree.specs.declared.ts_types.TsType.{TsType}
use Rattle.swc_ecma_codegen_tree.specs.declared.ts_types.TsType.TheVariants as types
use Rattle.swc_ecma_codegen_tree.specs.declared.ts_types.TsTypeAnn.{TsTypeAnn}
use Rattle.swc_ecma_codegen_tree.specs.declared.ts_types.TsTypeLit.{TsTypeLit}
use Rattle.swc_ecma_codegen_tree.specs.declared.ts_types.TsTypeOperator.{TsTypeOperator}
use Rattle.swc_ecma_codegen_tree.specs.declared.ts_types.TsTypeParam.{TsTypeParam}
use Rattle.swc_ecma_codegen_tree.specs.declared.ts_types.TsTypeParamDecl.{TsTypeParamDecl}
use Rattle.swc_ecma_codegen_tree.specs.declared.ts_types.TsTypeParamInstantiation.{TsTypeParamInstantiation}
use Rattle.swc_ecma_codegen_tree.specs.declared.ts_types.TsTypePredicate.{TsTypePredicate}
use Rattle.swc_ecma_codegen_tree.specs.declared.ts_types.TsTypeQuery.{TsTypeQuery}
use Rattle.swc_ecma_codegen_tree.specs.declared.ts_types.TsTypeQueryExpr.{TsTypeQueryExpr}
use Rattle.swc_ecma_codegen_tree.specs.declared.ts_types.TsTypeQueryExpr.TheVariants as query_exprs
use Rattle.swc_ecma_codegen_tree.specs.declared.ts_types.TsTypeRef.{TsTypeRef}
use Rattle.swc_ecma_codegen_tree.specs.declared.ts_types.TsUnionOrIntersectionType.{TsUnionOrIntersectionType}
use Rattle.swc_ecma_codegen_tree.specs.declared.ts_types.TsUnionOrIntersectionType.TheVariants as joined_types
use Rattle.swc_ecma_codegen_tree.specs.declared.ts_types.TsKeywordTypeKind.{TsKeywordTypeKind}
use Rattle.swc_ecma_codegen_tree.specs.declared.ts_types.TsKeywordTypeKind.TheVariants as keyword_kinds
use Rattle.swc_ecma_codegen_tree.specs.declared.ts_types.TsTypeOperatorOp.{TsTypeOperatorOp}
use Rattle.swc_ecma_codegen_tree.specs.declared.ts_types.TsTypeOperatorOp.TheVariants as type_operators
use Rattle.swc_ecma_codegen_spans.specs.Spans.{ts_type_element_span}
use Rattle.swc_ecma_codegen_grammar.specs.declared.kinds.Kind.TheVariants.{Punctuator}
use Rattle.swc_ecma_codegen_grammar.specs.Tokens as lexical
use Rattle.swc_ecma_codegen_grammar.specs.Tokens.{token_of}
use Rattle.swc_ecma_codegen_grammar.specs.AnnotationPhrases as annotations
use Rattle.swc_ecma_codegen_grammar.specs.LitPhrases.{bool_lit}
use Rattle.swc_ecma_codegen_grammar.specs.MemberPhrases.{signature_param_at, ts_type_element}
use Rattle.swc_ecma_codegen_grammar.specs.Phrases as phrases
use Rattle.swc_ecma_codegen_grammar.specs.Phrases.{Phrase, One, ◌>◌, mark, word}
use Rattle.swc_ecma_codegen_grammar.specs.TemplatePhrases.{is_counted}
use Rattle.swc_ecma_codegen_grammar.specs.Texts.{begins}
use Rattle.swc_ecma_codegen_grammar.specs.TypePhrases as lists
use Rattle.swc_ecma_codegen_grammar.specs.declared.roles.Role.TheVariants.{AnyType, TypeParameters, EntityName, SignatureParameter}
use Rattle.swc_ecma_codegen_text_writer.specs.Sheet.{is_ending}
use Rattle.swc_ecma_codegen_tokens.specs.Run.{Env, Part, spelling}
use Rattle.swc_ecma_codegen_tokens.specs.Lists.{list, delimiter, deeper, shallower}
use Rattle.swc_ecma_codegen_tokens.specs.Lits.{bool_text, bool_node}
use Rattle.swc_ecma_codegen_tokens.specs.Tags.{close}
use Rattle.swc_ecma_codegen_tokens.specs.Words.{punct, space, line_end}
use Rattle.swc_ecma_codegen_tokens.specs.Written.{IsWord, Anything, InName}
use Rattle.swc_ecma_codegen_tokens.proofs.LiteralTokens.BigPrints.{prints_big_int}
use Rattle.swc_ecma_codegen_tokens.proofs.LiteralTokens.LitPrints.{bool_is_word}
use Rattle.swc_ecma_codegen_tokens.proofs.Listing.ListLaws.{IsUndelimited, IsJoined, prints_list, prints_bracketed, prints_bracketed_in_order, prints_joined}
use Rattle.swc_ecma_codegen_tokens.proofs.LiteralTokens.NumberPrints.{prints_number}
use Rattle.swc_ecma_codegen_tokens.proofs.Reading.Phrased.{Prints, PrintsOn, PrintsAt, prints_wider, loosened, then, then_on, after, after_on, before, prints_nothing, prints_never, prints_where, prints_mark, mark_spelled, prints_keyword, prints_punct, prints_semi, prints_close}
use Rattle.swc_ecma_codegen_tokens.proofs.Reading.Printed.{MakesAt, with_room, within_then, punct_within, deeper_within, writes_space, writes_formatting_space, writes_line, writes_shallower}
use Rattle.swc_ecma_codegen_tokens.proofs.Commenting.CommentPrints.{writes_leading, writes_named_leading}
use Rattle.swc_ecma_codegen_tokens.proofs.Filling.Shapes.{open_, whole, ended, closed, loose}
use Rattle.swc_ecma_codegen_tokens.proofs.LiteralTokens.StringPrints.{prints_str}
use Rattle.swc_ecma_codegen_tokens.proofs.Jsx.TagPrints.{prints_named_mark}
use Rattle.swc_ecma_codegen_emit.specs.declared.nodes.Context.{Context}
use Rattle.swc_ecma_codegen_emit.specs.declared.nodes.Context.TheVariants.{Plain, Reference}
use Rattle.swc_ecma_codegen_emit.specs.Places.{Whole}
use Rattle.swc_ecma_codegen_emit.specs.Annotations.{type_params, types_format}
use Rattle.swc_ecma_codegen_emit.specs.Exprs.{spaced_punct}
use Rattle.swc_ecma_codegen_emit.specs.TsMembers.{fn_param_place, fn_param_items, member_items}
use Rattle.swc_ecma_codegen_emit.specs.Types as words
use Rattle.swc_ecma_codegen_emit.specs.Types.{members_format, union_format, intersection_format}
use Rattle.swc_ecma_codegen_emit.proofs.AnnotationParts.{ann_at, word_before_prints, word_space_prints, between_prints, no_line, type_args_print, type_params_print}
use Rattle.swc_ecma_codegen_emit.proofs.ExprParts.{ident_prints, ident_name_prints, spaced_prints}
use Rattle.swc_ecma_codegen_emit.proofs.Linked.{Linked, pat_at, unbounded_linked}
use Rattle.swc_ecma_codegen_emit.proofs.MarkWords as marks
use Rattle.swc_ecma_codegen_emit.proofs.NameParts.{binding_ident_prints}
use Rattle.swc_ecma_codegen_emit.proofs.PatParts.{array_pat_prints, rest_pat_prints, object_pat_prints}
use Rattle.swc_ecma_codegen_emit.proofs.TemplateParts.{parts_print, shaped_or}
use Rattle.swc_ecma_codegen_emit.proofs.TsMemberParts.{type_element_prints}
use Rattle.swc_ecma_codegen_emit.proofs.TypeWords as type_words

pub type_at : {X : Type 0} (l : Linked X) (n : TsTypeBox X) → Prints l.env (words.type_at l.items n) (lists.type_at l.reads n)
type_at l n = l.law n.node.value (Whole Plain) AnyType

pub entity_at : {X : Type 0} (l : Linked X) (n : TsEntityNameBox X) → Prints l.env (l.items n.node.value (Whole Plain)) (l.reads n.node.value EntityName)
entity_at l n = l.law n.node.value (Whole Plain) EntityName

behind_prints : {X : Type 0} (l : Linked X) (t : List ℕ) → IsWord t → (n : Option (TsTypeBox X)) → PrintsAt open_ l.env (words.type_behind l.items t n) (lists.type_behind l.reads (word t) n)
unfolding words.type_behind lists.type_behind
behind_prints l t w None = prints_nothing
behind_prints l t w (Some n) = prints_wider open_ refl (after (writes_space l.env) (then (before (prints_keyword l.env None t w) (writes_space l.env)) (type_at l n)))

default_prints : {X : Type 0} (l : Linked X) (n : Option (TsTypeBox X)) → PrintsAt open_ l.env (words.default_type l.items n) (lists.type_behind l.reads (mark (codes "=")) n)
unfolding words.default_type lists.type_behind
default_prints l None = prints_nothing
default_prints l (Some n) = prints_wider open_ refl (then (spaced_prints l.env (codes "=") refl marks.equal) (type_at l n))

-- ---- names, arguments and parameters

pub entity_prints : {X : Type 0} (l : Linked X) (n : TsEntityName X) → Prints l.env (words.ts_entity_name l.items n) (lists.ts_entity_name l.reads n)
unfolding words.ts_entity_name words.ts_qualified_name lists.ts_entity_name lists.ts_qualified_name
entity_prints l (entity_names.TsQualifiedName n) = after (writes_leading l.env n.span.lo) (then (entity_at l n.left) (then (prints_punct l.env (codes ".") type_words.dot) (ident_name_prints l n.right)))
entity_prints l (entity_names.Ident n) = ident_prints l n

ref_prints : {X : Type 0} (l : Linked X) (n : TsTypeRef X) → Prints l.env (words.ts_type_ref l.items n) (lists.ts_type_ref l.reads n)
unfolding words.ts_type_ref lists.ts_type_ref
ref_prints l n = after (writes_leading l.env n.span.lo) (then (entity_at l n.type_name) (type_args_print l Reference n.type_params))

-- one at least, with commas between, to `>`
closed_list : {A : Type 0} (env : Env) (parent : Span) (place : A → Span) (part : A → Part) (e : A → Phrase) → ((x : A) → Prints env (part x) (e x)) → (xs : List A) → Prints env (λ rest. punct (codes "<") (list types_format parent (map (λ x. record { place = place x; part = part x }) xs) (close rest))) (mark (codes "<") > phrases.some_listed (codes ",") (map e xs) > One lexical.tag_close)
unfolding phrases.some_listed phrases.listed
closed_list env parent place part e law [] = then (prints_punct env (codes "<") type_words.less) (then (prints_never {i = open_} {p = list types_format parent []}) (prints_close env))
closed_list env parent place part e law (x ∷ xs) = prints_bracketed env (codes "<") type_words.less (λ rest. rest) (no_line env) types_format parent place part e (One lexical.tag_close) close (λ y. loosened (law y)) refl refl refl (prints_close env) (x ∷ xs)

-- `<` behind the name of a tag, or any other
named_less : (env : Env) → PrintsOn InName Anything whole env (punct (codes "<")) (mark (codes "<"))
unfolding is_ending begins
named_less env = prints_named_mark env (codes "<") refl refl refl type_words.less

-- the same list there
named_list : {A : Type 0} (env : Env) (parent : Span) (place : A → Span) (part : A → Part) (e : A → Phrase) → ((x : A) → Prints env (part x) (e x)) → (xs : List A) → PrintsOn InName Anything whole env (λ rest. punct (codes "<") (list types_format parent (map (λ x. record { place = place x; part = part x }) xs) (close rest))) (mark (codes "<") > phrases.some_listed (codes ",") (map e xs) > One lexical.tag_close)
unfolding phrases.some_listed phrases.listed
named_list env parent place part e law [] = then_on (named_less env) (then (prints_never {i = open_} {p = list types_format parent []}) (prints_close env))
named_list env parent place part e law (x ∷ xs) = then_on (named_less env) (then (prints_list env types_format parent place part e (λ y. loosened (law y)) refl refl refl refl (x ∷ xs)) (prints_close env))

type_arguments_print : {X : Type 0} (l : Linked X) (n : TsTypeParamInstantiation X) → PrintsOn InName Anything whole l.env (words.type_arguments l.asks l.items n) (lists.ts_type_param_instantiation l.reads n)
unfolding words.type_arguments lists.ts_type_param_instantiation
type_arguments_print l n = named_list l.env n.span (words.type_place l.asks) (λ x. words.type_items l.items x (Whole Plain)) (lists.type_at l.reads) (type_at l) n.params.items

pub arguments_print : {X : Type 0} (l : Linked X) (n : TsTypeParamInstantiation X) (context : Context) → PrintsOn InName Anything whole l.env (words.ts_type_param_instantiation l.asks l.items n context) (lists.ts_type_param_instantiation l.reads n)
unfolding words.ts_type_param_instantiation
arguments_print l n Reference = type_arguments_print l n
arguments_print l n context = after_on (writes_named_leading l.env n.span.lo) (type_arguments_print l n)

param_prints : {X : Type 0} (l : Linked X) (n : TsTypeParam X) → Prints l.env (words.ts_type_param l.items n) (lists.ts_type_param l.reads n)
unfolding words.ts_type_param lists.ts_type_param
param_prints l n =
    after (writes_leading l.env n.span.lo)
    (then (word_before_prints l.env n.is_const (codes "const") marks.const_word)
    (then (word_before_prints l.env n.is_in (codes "in") marks.in_word)
    (then (word_before_prints l.env n.is_out (codes "out") type_words.out_word)
    (then (ident_prints l n.name)
    (then (behind_prints l (codes "extends") marks.extends_word n.constraint) (default_prints l n.default))))))

pub params_print : {X : Type 0} (l : Linked X) (n : TsTypeParamDecl X) → Prints l.env (words.ts_type_param_decl l.items n) (lists.ts_type_param_decl l.reads n)
unfolding words.ts_type_param_decl lists.ts_type_param_decl
params_print l n = after (writes_leading l.env n.span.lo) (closed_list l.env n.span words.param_place (words.ts_type_param l.items) (lists.ts_type_param l.reads) (param_prints l) n.params.items)

-- ---- keywords

keyword_is_word : (kind : TsKeywordTypeKind) → IsWord (lists.keyword_of kind)
unfolding lists.keyword_of
keyword_is_word keyword_kinds.TsAnyKeyword = type_words.any_word
keyword_is_word keyword_kinds.TsUnknownKeyword = type_words.unknown_word
keyword_is_word keyword_kinds.TsNumberKeyword = type_words.number_word
keyword_is_word keyword_kinds.TsObjectKeyword = type_words.object_word
keyword_is_word keyword_kinds.TsBooleanKeyword = type_words.boolean_word
keyword_is_word keyword_kinds.TsBigIntKeyword = type_words.bigint_word
keyword_is_word keyword_kinds.TsStringKeyword = type_words.string_word
keyword_is_word keyword_kinds.TsSymbolKeyword = type_words.symbol_word
keyword_is_word keyword_kinds.TsVoidKeyword = type_words.void_word
keyword_is_word keyword_kinds.TsUndefinedKeyword = type_words.undefined_word
keyword_is_word keyword_kinds.TsNullKeyword = type_words.null_word
keyword_is_word keyword_kinds.TsNeverKeyword = type_words.never_word
keyword_is_word keyword_kinds.TsIntrinsicKeyword = type_words.intrinsic_word

keyword_type_prints : (env : Env) (n : TsKeywordType) → Prints env (words.ts_keyword_type n) (lists.ts_keyword_type n)
unfolding words.ts_keyword_type lists.ts_keyword_type
keyword_type_prints env n = after (writes_leading env n.span.lo) (prints_keyword env (Some n.span) (lists.keyword_of n.kind) (keyword_is_word n.kind))

this_type_prints : (env : Env) (n : TsThisType) → Prints env (words.ts_this_type n) (lists.ts_this_type n)
unfolding words.ts_this_type lists.ts_this_type
this_type_prints env n = after (writes_leading env n.span.lo) (prints_keyword env (Some n.span) (codes "this") type_words.this_word)

-- ---- functions

pub fn_param_prints : {X : Type 0} (l : Linked X) (n : TsFnParam X) → Prints l.env (words.ts_fn_param l.asks l.items n) (lists.ts_fn_param l.reads n)
unfolding words.ts_fn_param lists.ts_fn_param
fn_param_prints l (fn_params.Ident n) = binding_ident_prints l n
fn_param_prints l (fn_params.Array n) = array_pat_prints l n
fn_param_prints l (fn_params.Rest n) = rest_pat_prints l n
fn_param_prints l (fn_params.Object n) = object_pat_prints l n

signature_prints : {X : Type 0} (l : Linked X) (span : Span) (ns : List (TsFnParamBox X)) (result : TsTypeAnnBox X) → Prints l.env (words.signature_type l.asks l.items span ns result) (mark (codes "(") > phrases.listed (codes ",") (map (signature_param_at l.reads) ns) > mark (codes ")") > mark (codes "=>") > lists.ann_at l.reads result)
unfolding words.signature_type
signature_prints l span ns result =
    prints_bracketed l.env (codes "(") marks.left_parenthesis (λ rest. rest) (no_line l.env) types_format span (fn_param_place l.asks) (λ x. fn_param_items l.items x (Whole Plain)) (signature_param_at l.reads)
    (mark (codes ")") > mark (codes "=>") > lists.ann_at l.reads result) (λ rest. punct (codes ")") (spaced_punct (codes "=>") (l.items result.node.value (Whole Plain) rest)))
    (λ n. loosened (l.law n.node.value (Whole Plain) SignatureParameter)) refl refl refl
    (then (prints_punct l.env (codes ")") marks.right_parenthesis) (then (spaced_prints l.env (codes "=>") refl marks.arrow) (ann_at l result))) ns

fn_type_prints : {X : Type 0} (l : Linked X) (n : TsFnType X) → Prints l.env (words.ts_fn_type l.asks l.items n) (lists.ts_fn_type l.reads n)
unfolding words.ts_fn_type lists.ts_fn_type
fn_type_prints l n = after (writes_leading l.env n.span.lo) (then (type_params_print l n.type_params) (signature_prints l n.span n.params.items n.type_ann))

-- the blank is there where parameters are
spaced_params_print : {X : Type 0} (l : Linked X) (n : Option (TsTypeParamDeclBox X)) → PrintsAt open_ l.env (λ rest. cond (is_some n) (space (type_params l.items n rest)) rest) (annotations.type_params l.reads n)
unfolding type_params annotations.type_params
spaced_params_print l None = prints_nothing
spaced_params_print l (Some n) = prints_wider open_ refl (after (writes_space l.env) (l.law n.node.value (Whole Plain) TypeParameters))

constructor_type_prints : {X : Type 0} (l : Linked X) (n : TsConstructorType X) → Prints l.env (words.ts_constructor_type l.asks l.items n) (lists.ts_constructor_type l.reads n)
unfolding words.ts_constructor_type words.spaced_params lists.ts_constructor_type
constructor_type_prints l n =
    after (writes_leading l.env n.span.lo)
    (then (word_before_prints l.env n.is_abstract (codes "abstract") type_words.abstract_word)
    (then (prints_keyword l.env None (codes "new") type_words.new_word)
    (then (spaced_params_print l n.type_params) (signature_prints l n.span n.params.items n.type_ann))))

function_type_prints : {X : Type 0} (l : Linked X) (n : TsFnOrConstructorType X) → Prints l.env (words.ts_fn_or_constructor_type l.asks l.items n) (lists.ts_fn_or_constructor_type l.reads n)
unfolding words.ts_fn_or_constructor_type lists.ts_fn_or_constructor_type
function_type_prints l (function_types.TsFnType n) = fn_type_prints l n
function_type_prints l (function_types.TsConstructorType n) = constructor_type_prints l n

-- ---- literals

tpl_type_prints : {X : Type 0} (l : Linked X) (n : TsTplLitType X) → Prints l.env (words.ts_tpl_lit_type l.items n) (lists.ts_tpl_lit_type l.reads n)
unfolding words.ts_tpl_lit_type words.ts_tpl_parts lists.ts_tpl_lit_type
tpl_type_prints l n = shaped_or (is_counted n.types.items n.quasis.items) (after (writes_leading l.env n.span.lo) (parts_print l.env (words.type_at l.items) (lists.type_at l.reads) (type_at (unbounded_linked l)) false n.types.items n.quasis.items))

lit_prints : {X : Type 0} (l : Linked X) (n : TsLit X) → Prints l.env (words.ts_lit l.items n) (lists.ts_lit l.reads n)
unfolding words.ts_lit lists.ts_lit bool_node bool_text bool_lit
lit_prints l (type_lits.Number n) = prints_number l.env n
lit_prints l (type_lits.Str n) = prints_str l.env n
lit_prints l (type_lits.Bool n) = after (writes_leading l.env n.span.lo) (prints_keyword l.env (Some n.span) (bool_text n.value) (bool_is_word n.value))
lit_prints l (type_lits.BigInt n) = prints_big_int l.env n
lit_prints l (type_lits.Tpl n) = tpl_type_prints l n

lit_type_prints : {X : Type 0} (l : Linked X) (n : TsLitType X) → Prints l.env (words.ts_lit_type l.items n) (lists.ts_lit_type l.reads n)
unfolding words.ts_lit_type lists.ts_lit_type
lit_type_prints l n = after (writes_leading l.env n.span.lo) (lit_prints l n.lit)

-- ---- imports and queries

qualifier_prints : {X : Type 0} (l : Linked X) (n : Option (TsEntityNameBox X)) → PrintsAt open_ l.env (words.qualifier l.items n) (lists.qualifier l.reads n)
unfolding words.qualifier lists.qualifier
qualifier_prints l None = prints_nothing
qualifier_prints l (Some n) = prints_wider open_ refl (then (prints_punct l.env (codes ".") type_words.dot) (entity_at l n))

import_type_prints : {X : Type 0} (l : Linked X) (n : TsImportType X) → Prints l.env (words.ts_import_type l.items n) (lists.ts_import_type l.reads n)
unfolding words.ts_import_type lists.ts_import_type
import_type_prints l n =
    after (writes_leading l.env n.span.lo)
    (then (prints_keyword l.env None (codes "import") marks.import_word)
    (then (prints_punct l.env (codes "(") marks.left_parenthesis)
    (then (prints_str l.env n.arg)
    (then (prints_punct l.env (codes ")") marks.right_parenthesis)
    (then (qualifier_prints l n.qualifier) (type_args_print l Plain n.type_args))))))

query_expr_prints : {X : Type 0} (l : Linked X) (n : TsTypeQueryExpr X) → Prints l.env (words.ts_type_query_expr l.items n) (lists.ts_type_query_expr l.reads n)
unfolding words.ts_type_query_expr lists.ts_type_query_expr
query_expr_prints l (query_exprs.TsEntityName n) = entity_at l n
query_expr_prints l (query_exprs.Import n) = import_type_prints l n

query_prints : {X : Type 0} (l : Linked X) (n : TsTypeQuery X) → Prints l.env (words.ts_type_query l.items n) (lists.ts_type_query l.reads n)
unfolding words.ts_type_query lists.ts_type_query
query_prints l n = after (writes_leading l.env n.span.lo) (then (word_space_prints l.env (codes "typeof") type_words.typeof_word) (then (query_expr_prints l n.expr_name) (type_args_print l Plain n.type_args)))

-- ---- objects, arrays and tuples

members_undelimited : IsUndelimited members_format
members_undelimited = record { no_comma = refl; no_bar = refl; no_ampersand = refl }

type_lit_prints : {X : Type 0} (l : Linked X) (n : TsTypeLit X) → Prints l.env (words.ts_type_lit l.asks l.items n) (lists.ts_type_lit l.reads n)
unfolding words.ts_type_lit lists.ts_type_lit
type_lit_prints l n =
    after (writes_leading l.env n.span.lo)
    (prints_bracketed_in_order l.env (codes "{") marks.left_brace (λ rest. rest) (no_line l.env) members_format n.span ts_type_element_span (λ x. member_items l.asks l.items x (Whole Plain)) (ts_type_element l.reads)
    (mark (codes "}")) (punct (codes "}")) (λ m. prints_wider loose refl (type_element_prints l m)) members_undelimited (prints_punct l.env (codes "}") marks.right_brace) n.members.items)

-- `[` and `]`
brackets_print : (env : Env) → Prints env (λ rest. punct (codes "[") (punct (codes "]") rest)) (mark (codes "[") > mark (codes "]"))
brackets_print env = then (prints_punct env (codes "[") marks.left_bracket) (prints_punct env (codes "]") marks.right_bracket)

array_type_prints : {X : Type 0} (l : Linked X) (n : TsArrayType X) → Prints l.env (words.ts_array_type l.items n) (lists.ts_array_type l.reads n)
unfolding words.ts_array_type lists.ts_array_type
array_type_prints l n = after (writes_leading l.env n.span.lo) (then (type_at l n.elem_type) (brackets_print l.env))

label_prints : {X : Type 0} (l : Linked X) (n : Option (PatBox X)) → PrintsAt open_ l.env (words.label l.items n) (lists.label l.reads n)
unfolding words.label lists.label
label_prints l None = prints_nothing
label_prints l (Some n) = prints_wider open_ refl (then (pat_at l n) (before (prints_punct l.env (codes ":") marks.colon) (writes_formatting_space l.env)))

tuple_element_prints : {X : Type 0} (l : Linked X) (n : TsTupleElement X) → Prints l.env (words.ts_tuple_element l.items n) (lists.ts_tuple_element l.reads n)
unfolding words.ts_tuple_element lists.ts_tuple_element
tuple_element_prints l n = after (writes_leading l.env n.span.lo) (then (label_prints l n.label) (type_at l n.ty))

tuple_prints : {X : Type 0} (l : Linked X) (n : TsTupleType X) → Prints l.env (words.ts_tuple_type l.items n) (lists.ts_tuple_type l.reads n)
unfolding words.ts_tuple_type lists.ts_tuple_type
tuple_prints l n =
    after (writes_leading l.env n.span.lo)
    (prints_bracketed l.env (codes "[") marks.left_bracket (λ rest. rest) (no_line l.env) types_format n.span words.element_place (words.ts_tuple_element l.items) (lists.ts_tuple_element l.reads)
    (mark (codes "]")) (punct (codes "]")) (λ x. loosened (tuple_element_prints l x)) refl refl refl (prints_punct l.env (codes "]") marks.right_bracket) n.elem_types.items)

optional_type_prints : {X : Type 0} (l : Linked X) (n : TsOptionalType X) → Prints l.env (words.ts_optional_type l.items n) (lists.ts_optional_type l.reads n)
unfolding words.ts_optional_type lists.ts_optional_type
optional_type_prints l n = after (writes_leading l.env n.span.lo) (then (type_at l n.type_ann) (prints_punct l.env (codes "?") type_words.question))

rest_type_prints : {X : Type 0} (l : Linked X) (n : TsRestType X) → Prints l.env (words.ts_rest_type l.items n) (lists.ts_rest_type l.reads n)
unfolding words.ts_rest_type lists.ts_rest_type
rest_type_prints l n = after (writes_leading l.env n.span.lo) (then (prints_punct l.env (codes "...") marks.ellipsis) (type_at l n.type_ann))

-- ---- mapped types

readonly_prints : (env : Env) (s : Option TruePlusMinus) → PrintsAt open_ env (words.signed_readonly s) (lists.signed s (word (codes "readonly")))
unfolding words.signed_readonly words.sign lists.signed
readonly_prints env None = prints_nothing
readonly_prints env (Some signs.True) = prints_wider open_ refl (word_space_prints env (codes "readonly") type_words.readonly_word)
readonly_prints env (Some signs.Plus) = prints_wider open_ refl (then (prints_punct env (codes "+") type_words.plus) (word_space_prints env (codes "readonly") type_words.readonly_word))
readonly_prints env (Some signs.Minus) = prints_wider open_ refl (then (prints_punct env (codes "-") type_words.minus) (word_space_prints env (codes "readonly") type_words.readonly_word))

signed_question_prints : (env : Env) (s : Option TruePlusMinus) → PrintsAt open_ env (words.signed_question s) (lists.signed s (mark (codes "?")))
unfolding words.signed_question words.sign lists.signed
signed_question_prints env None = prints_nothing
signed_question_prints env (Some signs.True) = prints_wider open_ refl (prints_punct env (codes "?") type_words.question)
signed_question_prints env (Some signs.Plus) = prints_wider open_ refl (then (prints_punct env (codes "+") type_words.plus) (prints_punct env (codes "?") type_words.question))
signed_question_prints env (Some signs.Minus) = prints_wider open_ refl (then (prints_punct env (codes "-") type_words.minus) (prints_punct env (codes "?") type_words.question))

mapped_param_prints : {X : Type 0} (l : Linked X) (n : TsTypeParam X) (name_type : Option (TsTypeBox X)) → Prints l.env (words.mapped_param l.items n name_type) (lists.mapped_param l.reads n name_type)
unfolding words.mapped_param lists.mapped_param
mapped_param_prints l n name_type = prints_where (not (n.is_in || (n.is_out || n.is_const))) (λ h.
    then (ident_prints l n.name) (then (behind_prints l (codes "in") marks.in_word n.constraint) (then (default_prints l n.default) (behind_prints l (codes "as") marks.as_word name_type))))

mapped_ann_prints : {X : Type 0} (l : Linked X) (n : Option (TsTypeBox X)) → PrintsAt open_ l.env (words.mapped_type_ann l.items n) (lists.type_behind l.reads (mark (codes ":")) n)
unfolding words.mapped_type_ann lists.type_behind
mapped_ann_prints l None = prints_nothing
mapped_ann_prints l (Some n) = prints_wider open_ refl (then (before (prints_punct l.env (codes ":") marks.colon) (writes_space l.env)) (type_at l n))

-- `{`, the end of the line and a level, whatever the settings
brace_within : (env : Env) → MakesAt ended env (λ rest. punct (codes "{") (line_end (deeper rest))) (token_of Punctuator (spelling Punctuator (codes "{")) ∷ []) false
brace_within env =
    let t : List ℕ = codes "{" in
    let x : lexical.Token = token_of Punctuator (spelling Punctuator t) in
    with_room 1 1 (omega arith)
    (within_then env (punct t) (λ rest. line_end (deeper rest)) (x ∷ []) [] (punct_within env t (mark_spelled t marks.left_brace) marks.left_brace.ascii)
    (within_then env line_end deeper [] [] (writes_line env) (deeper_within env)))

brace_deeper : (env : Env) → PrintsAt ended env (λ rest. punct (codes "{") (line_end (deeper rest))) (mark (codes "{"))
brace_deeper env = prints_mark env (λ rest. punct (codes "{") (line_end (deeper rest))) (codes "{") (brace_within env)

brace_shallower : (env : Env) → PrintsAt closed env (λ rest. line_end (shallower (punct (codes "}") rest))) (mark (codes "}"))
brace_shallower env = prints_wider closed refl (after (writes_line env) (after (writes_shallower env) (prints_punct env (codes "}") marks.right_brace)))

mapped_type_prints : {X : Type 0} (l : Linked X) (n : TsMappedType X) → Prints l.env (words.ts_mapped_type l.items n) (lists.ts_mapped_type l.reads n)
unfolding words.ts_mapped_type words.mapped_parts lists.ts_mapped_type
mapped_type_prints l n =
    after (writes_leading l.env n.span.lo)
    (then (brace_deeper l.env)
    (then (readonly_prints l.env n.readonly)
    (then (prints_punct l.env (codes "[") marks.left_bracket)
    (then (mapped_param_prints l n.type_param n.name_type)
    (then (prints_punct l.env (codes "]") marks.right_bracket)
    (then (signed_question_prints l.env n.optional)
    (then (mapped_ann_prints l n.type_ann)
    (then (prints_semi l.env) (brace_shallower l.env)))))))))

-- ---- types of types

union_joined : IsJoined union_format (codes "|")
unfolding delimiter
union_joined = record { joins = λ rest. refl; is_mark = type_words.bar; unbroken = refl; no_comma = refl; flat = refl; leads = λ lines p q. refl; separates = λ lines p q. refl; closes = λ lines p q. refl }

intersection_joined : IsJoined intersection_format (codes "&")
unfolding delimiter
intersection_joined = record { joins = λ rest. refl; is_mark = type_words.ampersand; unbroken = refl; no_comma = refl; flat = refl; leads = λ lines p q. refl; separates = λ lines p q. refl; closes = λ lines p q. refl }

joined_type_prints : {X : Type 0} (l : Linked X) (n : TsUnionOrIntersectionType X) → Prints l.env (words.ts_union_or_intersection_type l.asks l.items n) (lists.ts_union_or_intersection_type l.reads n)
unfolding words.ts_union_or_intersection_type words.ts_union_type words.ts_intersection_type lists.ts_union_or_intersection_type lists.ts_union_type lists.ts_intersection_type
joined_type_prints l (joined_types.TsUnionType n) = after (writes_leading l.env n.span.lo) (prints_joined l.env union_format (codes "|") n.span (words.type_place l.asks) (λ x. words.type_items l.items x (Whole Plain)) (lists.type_at l.reads) (type_at l) union_joined n.types.items)
joined_type_prints l (joined_types.TsIntersectionType n) = after (writes_leading l.env n.span.lo) (prints_joined l.env intersection_format (codes "&") n.span (words.type_place l.asks) (λ x. words.type_items l.items x (Whole Plain)) (lists.type_at l.reads) (type_at l) intersection_joined n.types.items)

parenthesized_prints : {X : Type 0} (l : Linked X) (n : TsParenthesizedType X) → Prints l.env (words.ts_parenthesized_type l.items n) (lists.ts_parenthesized_type l.reads n)
unfolding words.ts_parenthesized_type lists.ts_parenthesized_type
parenthesized_prints l n = after (writes_leading l.env n.span.lo) (then (prints_punct l.env (codes "(") marks.left_parenthesis) (then (type_at l n.type_ann) (prints_punct l.env (codes ")") marks.right_parenthesis)))

operator_is_word : (op : TsTypeOperatorOp) → IsWord (lists.type_operator op)
unfolding lists.type_operator
operator_is_word type_operators.KeyOf = type_words.keyof_word
operator_is_word type_operators.Unique = type_words.unique_word
operator_is_word type_operators.ReadOnly = type_words.readonly_word

operator_prints : {X : Type 0} (l : Linked X) (n : TsTypeOperator X) → Prints l.env (words.ts_type_operator l.items n) (lists.ts_type_operator l.reads n)
unfolding words.ts_type_operator lists.ts_type_operator
operator_prints l n = after (writes_leading l.env n.span.lo) (then (word_space_prints l.env (lists.type_operator n.op) (operator_is_word n.op)) (type_at l n.type_ann))

indexed_prints : {X : Type 0} (l : Linked X) (n : TsIndexedAccessType X) → Prints l.env (words.ts_indexed_access_type l.items n) (lists.ts_indexed_access_type l.reads n)
unfolding words.ts_indexed_access_type lists.ts_indexed_access_type
indexed_prints l n = after (writes_leading l.env n.span.lo) (then (type_at l n.obj_type) (then (prints_punct l.env (codes "[") marks.left_bracket) (then (type_at l n.index_type) (prints_punct l.env (codes "]") marks.right_bracket))))

conditional_prints : {X : Type 0} (l : Linked X) (n : TsConditionalType X) → Prints l.env (words.ts_conditional_type l.items n) (lists.ts_conditional_type l.reads n)
unfolding words.ts_conditional_type lists.ts_conditional_type
conditional_prints l n =
    after (writes_leading l.env n.span.lo)
    (then (type_at l n.check_type)
    (then (after (writes_space l.env) (word_space_prints l.env (codes "extends") marks.extends_word))
    (then (type_at l n.extends_type)
    (then (between_prints l.env (codes "?") refl type_words.question)
    (then (type_at l n.true_type)
    (then (between_prints l.env (codes ":") refl marks.colon) (type_at l n.false_type)))))))

infer_prints : {X : Type 0} (l : Linked X) (n : TsInferType X) → Prints l.env (words.ts_infer_type l.items n) (lists.ts_infer_type l.reads n)
unfolding words.ts_infer_type lists.ts_infer_type
infer_prints l n = after (writes_leading l.env n.span.lo) (then (word_space_prints l.env (codes "infer") type_words.infer_word) (param_prints l n.type_param))

-- ---- predicates

predicate_name_prints : {X : Type 0} (l : Linked X) (n : TsThisTypeOrIdent) → Prints l.env (words.ts_this_type_or_ident n) (lists.ts_this_type_or_ident n)
unfolding words.ts_this_type_or_ident lists.ts_this_type_or_ident
predicate_name_prints l (predicate_names.TsThisType n) = this_type_prints l.env n
predicate_name_prints l (predicate_names.Ident n) = ident_prints l n

is_behind_prints : {X : Type 0} (l : Linked X) (n : Option (TsTypeAnnBox X)) → PrintsAt open_ l.env (words.is_behind l.items n) (lists.is_behind l.reads n)
unfolding words.is_behind lists.is_behind
is_behind_prints l None = prints_nothing
is_behind_prints l (Some n) = prints_wider open_ refl (after (writes_space l.env) (then (word_space_prints l.env (codes "is") type_words.predicate_word) (ann_at l n)))

predicate_prints : {X : Type 0} (l : Linked X) (n : TsTypePredicate X) → Prints l.env (words.ts_type_predicate l.items n) (lists.ts_type_predicate l.reads n)
unfolding words.ts_type_predicate lists.ts_type_predicate
predicate_prints l n = after (writes_leading l.env n.span.lo) (then (word_before_prints l.env n.asserts (codes "asserts") type_words.asserts_word) (then (predicate_name_prints l n.param_name) (is_behind_prints l n.type_ann)))

-- ---- types

pub type_prints : {X : Type 0} (l : Linked X) (n : TsType X) → Prints l.env (words.ts_type l.asks l.items n) (lists.ts_type l.reads n)
unfolding words.ts_type lists.ts_type
type_prints l (types.TsKeywordType n) = keyword_type_prints l.env n
type_prints l (types.TsThisType n) = this_type_prints l.env n
type_prints l (types.TsFnOrConstructorType n) = function_type_prints l n.value
type_prints l (types.TsTypeRef n) = ref_prints l n
type_prints l (types.TsTypeQuery n) = query_prints l n.value
type_prints l (types.TsTypeLit n) = type_lit_prints l n
type_prints l (types.TsArrayType n) = array_type_prints l n
type_prints l (types.TsTupleType n) = tuple_prints l n
type_prints l (types.TsOptionalType n) = optional_type_prints l n
type_prints l (types.TsRestType n) = rest_type_prints l n
type_prints l (types.TsUnionOrIntersectionType n) = joined_type_prints l n
type_prints l (types.TsConditionalType n) = conditional_prints l n
type_prints l (types.TsInferType n) = infer_prints l n.value
type_prints l (types.TsParenthesizedType n) = parenthesized_prints l n
type_prints l (types.TsTypeOperator n) = operator_prints l n
type_prints l (types.TsIndexedAccessType n) = indexed_prints l n
type_prints l (types.TsMappedType n) = mapped_type_prints l n.value
type_prints l (types.TsLitType n) = lit_type_prints l n.value
type_prints l (types.TsTypePredicate n) = predicate_prints l n.value
type_prints l (types.TsImportType n) = import_type_prints l n.value

pub ann_prints : {X : Type 0} (l : Linked X) (n : TsTypeAnn X) (context : Context) → Prints l.env (words.ts_type_ann l.asks l.items n context) (lists.ts_type_ann l.reads n)
unfolding words.ts_type_ann lists.ts_type_ann
ann_prints l n Reference = type_prints l n.type_ann
ann_prints l n context = after (writes_leading l.env n.span.lo) (type_prints l n.type_ann)
