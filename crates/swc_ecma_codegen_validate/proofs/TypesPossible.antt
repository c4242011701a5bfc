-- When types are well-formed.
use Rattle.std.proofs.Common.{◌≡◌, ◌+◌, ◌==◌, ◌∙◌, refl, ap, Bool, true, false, not, ◌&&◌, ◌||◌, length, codes, map, Option, Some, None}
use Rattle.std.proofs.lemmas.Bool.{eqb-true}
use Rattle.swc_ecma_codegen_tree.specs.Links.{PatBox, TsEntityNameBox, TsTypeAnnBox, TsTypeBox}
use Rattle.swc_ecma_codegen_tree.specs.declared.ts_types.TruePlusMinus.{TruePlusMinus}
use Rattle.swc_ecma_codegen_tree.specs.declared.ts_types.TruePlusMinus.TheVariants as signs
use Rattle.swc_ecma_codegen_tree.specs.declared.ts_types.TsArrayType.{TsArrayType}
use Rattle.swc_ecma_codegen_tree.specs.declared.ts_types.TsConstructorType.{TsConstructorType}
use Rattle.swc_ecma_codegen_tree.specs.declared.ts_types.TsFnType.{TsFnType}
use Rattle.swc_ecma_codegen_tree.specs.declared.ts_types.TsImportType.{TsImportType}
use Rattle.swc_ecma_codegen_tree.specs.declared.ts_types.TsIndexedAccessType.{TsIndexedAccessType}
use Rattle.swc_ecma_codegen_tree.specs.declared.ts_types.TsIntersectionType.{TsIntersectionType}
use Rattle.swc_ecma_codegen_tree.specs.declared.ts_types.TsMappedType.{TsMappedType}
use Rattle.swc_ecma_codegen_tree.specs.declared.ts_types.TsOptionalType.{TsOptionalType}
use Rattle.swc_ecma_codegen_tree.specs.declared.ts_types.TsParenthesizedType.{TsParenthesizedType}
use Rattle.swc_ecma_codegen_tree.specs.declared.ts_types.TsTplLitType.{TsTplLitType}
use Rattle.swc_ecma_codegen_tree.specs.declared.ts_types.TsTupleElement.{TsTupleElement}
use Rattle.swc_ecma_codegen_tree.specs.declared.ts_types.TsTupleType.{TsTupleType}
use Rattle.swc_ecma_codegen_tree.specs.declared.ts_types.TsTypeLit.{TsTypeLit}
use Rattle.swc_ecma_codegen_tree.specs.declared.ts_types.TsTypeParam.{TsTypeParam}
use Rattle.swc_ecma_codegen_tree.specs.declared.ts_types.TsTypeParamDecl.{TsTypeParamDecl}
use Rattle.swc_ecma_codegen_tree.specs.declared.ts_types.TsTypeParamInstantiation.{TsTypeParamInstantiation}
use Rattle.swc_ecma_codegen_tree.specs.declared.ts_types.TsTypePredicate.{TsTypePredicate}
use Rattle.swc_ecma_codegen_tree.specs.declared.ts_types.TsTypeQuery.{TsTypeQuery}
use Rattle.swc_ecma_codegen_tree.specs.declared.ts_types.TsTypeRef.{TsTypeRef}
use Rattle.swc_ecma_codegen_tree.specs.declared.ts_types.TsUnionType.{TsUnionType}
use Rattle.swc_ecma_codegen_grammar.specs.AnnotationPhrases.{type_args, type_params}
use Rattle.swc_ecma_codegen_grammar.specs.ElementPhrases.{element}
use Rattle.swc_ecma_codegen_grammar.specs.FunctionPhrases.{word_if}
use Rattle.swc_ecma_codegen_grammar.specs.LitPhrases.{str_lit}
use Rattle.swc_ecma_codegen_grammar.specs.NamePhrases.{ident}
use Rattle.swc_ecma_codegen_grammar.specs.PatPhrases.{pat_at}
use Rattle.swc_ecma_codegen_grammar.specs.Phrases.{Phrase, mark, word, listed, is_possible}
use Rattle.swc_ecma_codegen_grammar.specs.TemplatePhrases.{is_counted, tpl_parts}
use Rattle.swc_ecma_codegen_grammar.specs.MemberPhrases.{signature_param_at, ts_type_element}
use Rattle.swc_ecma_codegen_grammar.specs.TypePhrases.{type_at, ann_at, args_at, params_at, type_behind, ts_type_ref, ts_type_param_instantiation, ts_type_param, ts_type_param_decl, ts_fn_type, ts_constructor_type, ts_tpl_lit_type, qualifier, ts_import_type, ts_type_query_expr, ts_type_query, ts_type_lit, ts_array_type, label, ts_tuple_element, ts_tuple_type, ts_optional_type, signed, mapped_param, ts_mapped_type, ts_union_type, ts_intersection_type, ts_parenthesized_type, ts_indexed_access_type, ts_this_type_or_ident, is_behind, ts_type_predicate}
use Rattle.swc_ecma_codegen_grammar.specs.declared.roles.Role.{Role}
use Rattle.swc_ecma_codegen_grammar.specs.declared.roles.Role.TheVariants.{EntityName}
use Rattle.swc_ecma_codegen_validate.specs.Possible.{all_possible}
use Rattle.swc_ecma_codegen_validate.specs.TemplateStates.{all_elements}
use Rattle.swc_ecma_codegen_validate.proofs.Annotations.{args_possible, params_possible as type_params_possible}
use Rattle.swc_ecma_codegen_validate.proofs.Lists.{in_order_possible, listed_possible, some_or_never, and_true}
use Rattle.swc_ecma_codegen_validate.proofs.Possible.{where_possible}
use Rattle.swc_ecma_codegen_validate.proofs.TemplatesPossible.{counted, parts_possible}

-- a name of a type that a link holds
abbrev entity_at : {X : Type 0} → (X → Role → Phrase) → TsEntityNameBox X → Phrase
entity_at f n = f n.node.value EntityName

-- what is there, or isn't
wanted : (b : Bool) (p : Phrase) → is_possible p ≡ true → is_possible (word_if b p) ≡ true
unfolding is_possible word_if
wanted true p h = h
wanted false p h = refl

behind_possible : {X : Type 0} (f : X → Role → Phrase) (before : Phrase) (o : Option (TsTypeBox X)) → is_possible before ≡ true → is_possible (type_behind f before o) ≡ is_possible (element (type_at f) o)
unfolding is_possible type_behind element
behind_possible f before None h = refl
behind_possible f before (Some n) h = ap (λ b. b && is_possible (type_at f n)) h

-- ---- names, arguments and parameters

pub ref_possible : {X : Type 0} (f : X → Role → Phrase) (n : TsTypeRef X) → is_possible (ts_type_ref f n) ≡ (is_possible (entity_at f n.type_name) && is_possible (element (args_at f) n.type_params))
unfolding is_possible ts_type_ref
ref_possible f n = ap (λ b. is_possible (entity_at f n.type_name) && b) (args_possible f n.type_params)

pub arguments_possible : {X : Type 0} (f : X → Role → Phrase) (n : TsTypeParamInstantiation X) → is_possible (ts_type_param_instantiation f n) ≡ (not (length n.params.items == 0) && all_possible (type_at f) n.params.items)
unfolding is_possible ts_type_param_instantiation
arguments_possible f n = and_true _ ∙ some_or_never (codes ",") (type_at f) n.params.items

pub param_possible : {X : Type 0} (f : X → Role → Phrase) (n : TsTypeParam X) → is_possible (ts_type_param f n) ≡ (is_possible (ident n.name) && (is_possible (element (type_at f) n.constraint) && is_possible (element (type_at f) n.default)))
unfolding is_possible ts_type_param
param_possible f n =
    let rest : Bool = is_possible (ident n.name) && (is_possible (type_behind f (word (codes "extends")) n.constraint) && is_possible (type_behind f (mark (codes "=")) n.default)) in
    ap (λ b. b && (is_possible (word_if n.is_in (word (codes "in"))) && (is_possible (word_if n.is_out (word (codes "out"))) && rest))) (wanted n.is_const (word (codes "const")) refl)
    ∙ ap (λ b. b && (is_possible (word_if n.is_out (word (codes "out"))) && rest)) (wanted n.is_in (word (codes "in")) refl)
    ∙ ap (λ b. b && rest) (wanted n.is_out (word (codes "out")) refl)
    ∙ ap (λ b. is_possible (ident n.name) && (b && is_possible (type_behind f (mark (codes "=")) n.default))) (behind_possible f (word (codes "extends")) n.constraint refl)
    ∙ ap (λ b. is_possible (ident n.name) && (is_possible (element (type_at f) n.constraint) && b)) (behind_possible f (mark (codes "=")) n.default refl)

pub params_possible : {X : Type 0} (f : X → Role → Phrase) (n : TsTypeParamDecl X) → is_possible (ts_type_param_decl f n) ≡ (not (length n.params.items == 0) && all_possible (ts_type_param f) n.params.items)
unfolding is_possible ts_type_param_decl
params_possible f n = and_true _ ∙ some_or_never (codes ",") (ts_type_param f) n.params.items

-- ---- functions

pub fn_type_possible : {X : Type 0} (f : X → Role → Phrase) (n : TsFnType X) → is_possible (ts_fn_type f n) ≡ (is_possible (element (params_at f) n.type_params) && (all_possible (signature_param_at f) n.params.items && is_possible (ann_at f n.type_ann)))
unfolding is_possible ts_fn_type
fn_type_possible f n =
    ap (λ b. b && (is_possible (listed (codes ",") (map (signature_param_at f) n.params.items)) && is_possible (ann_at f n.type_ann))) (type_params_possible f n.type_params)
    ∙ ap (λ b. is_possible (element (params_at f) n.type_params) && (b && is_possible (ann_at f n.type_ann))) (listed_possible (codes ",") (signature_param_at f) n.params.items)

pub constructor_type_possible : {X : Type 0} (f : X → Role → Phrase) (n : TsConstructorType X) → is_possible (ts_constructor_type f n) ≡ (is_possible (element (params_at f) n.type_params) && (all_possible (signature_param_at f) n.params.items && is_possible (ann_at f n.type_ann)))
unfolding is_possible ts_constructor_type
constructor_type_possible f n =
    ap (λ b. b && (is_possible (type_params f n.type_params) && (is_possible (listed (codes ",") (map (signature_param_at f) n.params.items)) && is_possible (ann_at f n.type_ann)))) (wanted n.is_abstract (word (codes "abstract")) refl)
    ∙ ap (λ b. b && (is_possible (listed (codes ",") (map (signature_param_at f) n.params.items)) && is_possible (ann_at f n.type_ann))) (type_params_possible f n.type_params)
    ∙ ap (λ b. is_possible (element (params_at f) n.type_params) && (b && is_possible (ann_at f n.type_ann))) (listed_possible (codes ",") (signature_param_at f) n.params.items)

-- ---- templates, imports and queries

pub tpl_type_possible : {X : Type 0} (f : X → Role → Phrase) (n : TsTplLitType X) → is_possible (ts_tpl_lit_type f n) ≡ (is_counted n.types.items n.quasis.items && (all_elements false n.quasis.items && all_possible (type_at f) n.types.items))
unfolding ts_tpl_lit_type
tpl_type_possible f n =
    counted (is_counted n.types.items n.quasis.items) (tpl_parts (type_at f) false n.types.items n.quasis.items) _ (λ h.
    parts_possible (type_at f) false n.types.items n.quasis.items (eqb-true (length n.quasis.items) (length n.types.items + 1) h))

qualifier_possible : {X : Type 0} (f : X → Role → Phrase) (o : Option (TsEntityNameBox X)) → is_possible (qualifier f o) ≡ is_possible (element (entity_at f) o)
unfolding is_possible qualifier element
qualifier_possible f None = refl
qualifier_possible f (Some n) = refl

pub import_type_possible : {X : Type 0} (f : X → Role → Phrase) (n : TsImportType X) → is_possible (ts_import_type f n) ≡ (is_possible (str_lit n.arg) && (is_possible (element (entity_at f) n.qualifier) && is_possible (element (args_at f) n.type_args)))
unfolding is_possible ts_import_type
import_type_possible f n =
    ap (λ b. is_possible (str_lit n.arg) && (b && is_possible (type_args f n.type_args))) (qualifier_possible f n.qualifier)
    ∙ ap (λ b. is_possible (str_lit n.arg) && (is_possible (element (entity_at f) n.qualifier) && b)) (args_possible f n.type_args)

pub query_possible : {X : Type 0} (f : X → Role → Phrase) (n : TsTypeQuery X) → is_possible (ts_type_query f n) ≡ (is_possible (ts_type_query_expr f n.expr_name) && is_possible (element (args_at f) n.type_args))
unfolding is_possible ts_type_query
query_possible f n = ap (λ b. is_possible (ts_type_query_expr f n.expr_name) && b) (args_possible f n.type_args)

-- ---- objects, arrays and tuples

pub type_lit_possible : {X : Type 0} (f : X → Role → Phrase) (n : TsTypeLit X) → is_possible (ts_type_lit f n) ≡ all_possible (ts_type_element f) n.members.items
unfolding is_possible ts_type_lit
type_lit_possible f n = and_true _ ∙ in_order_possible (ts_type_element f) n.members.items

pub array_type_possible : {X : Type 0} (f : X → Role → Phrase) (n : TsArrayType X) → is_possible (ts_array_type f n) ≡ is_possible (type_at f n.elem_type)
unfolding is_possible ts_array_type
array_type_possible f n = and_true _

label_possible : {X : Type 0} (f : X → Role → Phrase) (o : Option (PatBox X)) → is_possible (label f o) ≡ is_possible (element (pat_at f) o)
unfolding is_possible label element
label_possible f None = refl
label_possible f (Some n) = and_true _

pub tuple_element_possible : {X : Type 0} (f : X → Role → Phrase) (n : TsTupleElement X) → is_possible (ts_tuple_element f n) ≡ (is_possible (element (pat_at f) n.label) && is_possible (type_at f n.ty))
unfolding is_possible ts_tuple_element
tuple_element_possible f n = ap (λ b. b && is_possible (type_at f n.ty)) (label_possible f n.label)

pub tuple_possible : {X : Type 0} (f : X → Role → Phrase) (n : TsTupleType X) → is_possible (ts_tuple_type f n) ≡ all_possible (ts_tuple_element f) n.elem_types.items
unfolding is_possible ts_tuple_type
tuple_possible f n = and_true _ ∙ listed_possible (codes ",") (ts_tuple_element f) n.elem_types.items

pub optional_type_possible : {X : Type 0} (f : X → Role → Phrase) (n : TsOptionalType X) → is_possible (ts_optional_type f n) ≡ is_possible (type_at f n.type_ann)
unfolding is_possible ts_optional_type
optional_type_possible f n = and_true _

-- ---- mapped types

signed_possible : (s : Option TruePlusMinus) (p : Phrase) → is_possible p ≡ true → is_possible (signed s p) ≡ true
unfolding is_possible signed
signed_possible None p h = refl
signed_possible (Some signs.True) p h = h
signed_possible (Some signs.Plus) p h = h
signed_possible (Some signs.Minus) p h = h

pub mapped_param_possible : {X : Type 0} (f : X → Role → Phrase) (n : TsTypeParam X) (name_type : Option (TsTypeBox X)) → is_possible (mapped_param f n name_type) ≡ (not (n.is_in || (n.is_out || n.is_const)) && (is_possible (ident n.name) && (is_possible (element (type_at f) n.constraint) && (is_possible (element (type_at f) n.default) && is_possible (element (type_at f) name_type)))))
unfolding is_possible mapped_param
mapped_param_possible f n name_type =
    let name : Bool = is_possible (ident n.name) in
    where_possible (not (n.is_in || (n.is_out || n.is_const))) _
    ∙ ap (λ b. not (n.is_in || (n.is_out || n.is_const)) && b)
    (ap (λ b. name && (b && (is_possible (type_behind f (mark (codes "=")) n.default) && is_possible (type_behind f (word (codes "as")) name_type)))) (behind_possible f (word (codes "in")) n.constraint refl)
    ∙ ap (λ b. name && (is_possible (element (type_at f) n.constraint) && (b && is_possible (type_behind f (word (codes "as")) name_type)))) (behind_possible f (mark (codes "=")) n.default refl)
    ∙ ap (λ b. name && (is_possible (element (type_at f) n.constraint) && (is_possible (element (type_at f) n.default) && b))) (behind_possible f (word (codes "as")) name_type refl))

pub mapped_type_possible : {X : Type 0} (f : X → Role → Phrase) (n : TsMappedType X) → is_possible (ts_mapped_type f n) ≡ (is_possible (mapped_param f n.type_param n.name_type) && is_possible (element (type_at f) n.type_ann))
unfolding is_possible ts_mapped_type
mapped_type_possible f n =
    let param : Bool = is_possible (mapped_param f n.type_param n.name_type) in
    let typed : Bool = is_possible (type_behind f (mark (codes ":")) n.type_ann) in
    ap (λ b. b && (param && (is_possible (signed n.optional (mark (codes "?"))) && (typed && true)))) (signed_possible n.readonly (word (codes "readonly")) refl)
    ∙ ap (λ b. param && (b && (typed && true))) (signed_possible n.optional (mark (codes "?")) refl)
    ∙ ap (λ b. param && b) (and_true typed ∙ behind_possible f (mark (codes ":")) n.type_ann refl)

-- ---- types of types

pub union_possible : {X : Type 0} (f : X → Role → Phrase) (n : TsUnionType X) → is_possible (ts_union_type f n) ≡ (not (length n.types.items == 0) && all_possible (type_at f) n.types.items)
unfolding ts_union_type
union_possible f n = some_or_never (codes "|") (type_at f) n.types.items

pub intersection_possible : {X : Type 0} (f : X → Role → Phrase) (n : TsIntersectionType X) → is_possible (ts_intersection_type f n) ≡ (not (length n.types.items == 0) && all_possible (type_at f) n.types.items)
unfolding ts_intersection_type
intersection_possible f n = some_or_never (codes "&") (type_at f) n.types.items

pub parenthesized_possible : {X : Type 0} (f : X → Role → Phrase) (n : TsParenthesizedType X) → is_possible (ts_parenthesized_type f n) ≡ is_possible (type_at f n.type_ann)
unfolding is_possible ts_parenthesized_type
parenthesized_possible f n = and_true _

pub indexed_possible : {X : Type 0} (f : X → Role → Phrase) (n : TsIndexedAccessType X) → is_possible (ts_indexed_access_type f n) ≡ (is_possible (type_at f n.obj_type) && is_possible (type_at f n.index_type))
unfolding is_possible ts_indexed_access_type
indexed_possible f n = ap (λ b. is_possible (type_at f n.obj_type) && b) (and_true _)

-- ---- predicates

is_possible_behind : {X : Type 0} (f : X → Role → Phrase) (o : Option (TsTypeAnnBox X)) → is_possible (is_behind f o) ≡ is_possible (element (ann_at f) o)
unfolding is_possible is_behind element
is_possible_behind f None = refl
is_possible_behind f (Some n) = refl

pub predicate_possible : {X : Type 0} (f : X → Role → Phrase) (n : TsTypePredicate X) → is_possible (ts_type_predicate f n) ≡ (is_possible (ts_this_type_or_ident n.param_name) && is_possible (element (ann_at f) n.type_ann))
unfolding is_possible ts_type_predicate
predicate_possible f n =
    ap (λ b. b && (is_possible (ts_this_type_or_ident n.param_name) && is_possible (is_behind f n.type_ann))) (wanted n.asserts (word (codes "asserts")) refl)
    ∙ ap (λ b. is_possible (ts_this_type_or_ident n.param_name) && b) (is_possible_behind f n.type_ann)
