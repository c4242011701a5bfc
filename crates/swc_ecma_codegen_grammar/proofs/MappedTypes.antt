-- The productions of types see what links hold through f alone.
use Rattle.std.proofs.Common.{◌≡◌, refl, ap, not, ◌||◌, false, codes, Option, Some, None, Box, Global}
use Rattle.std.specs.Box.{with_value}
use Rattle.swc_ecma_codegen_tree.specs.declared.links.AnyNode.{AnyNode-F, map-AnyNode}
use Rattle.swc_ecma_codegen_tree.specs.declared.links.AnyNode.TheOpen as nodes
use Rattle.swc_ecma_codegen_tree.specs.Links.{PatBox, TsEntityNameBox, TsFnParamBox, TsTypeAnnBox, TsTypeBox, TsTypeParamDeclBox, TsTypeParamInstantiationBox}
use Rattle.swc_ecma_codegen_tree.specs.declared.idents.Ident.{Ident}
use Rattle.swc_ecma_codegen_tree.specs.declared.pats.ArrayPat.{ArrayPat}
use Rattle.swc_ecma_codegen_tree.specs.declared.pats.ObjectPat.{ObjectPat}
use Rattle.swc_ecma_codegen_tree.specs.declared.pats.RestPat.{RestPat}
use Rattle.swc_ecma_codegen_tree.specs.declared.parts.TsPart.{TsPart}
use Rattle.swc_ecma_codegen_tree.specs.declared.parts.TsPart.TheVariants as ts_parts
use Rattle.swc_ecma_codegen_tree.specs.declared.ts_members.TsTypeElement.{TsTypeElement}
use Rattle.swc_ecma_codegen_tree.specs.declared.ts_types.TsConstructorType.{TsConstructorType}
use Rattle.swc_ecma_codegen_tree.specs.declared.ts_types.TsEntityName.{TsEntityName}
use Rattle.swc_ecma_codegen_tree.specs.declared.ts_types.TsEntityName.TheVariants as entity_names
use Rattle.swc_ecma_codegen_tree.specs.declared.ts_types.TsFnOrConstructorType.{TsFnOrConstructorType}
use Rattle.swc_ecma_codegen_tree.specs.declared.ts_types.TsFnOrConstructorType.TheVariants as function_types
use Rattle.swc_ecma_codegen_tree.specs.declared.ts_types.TsFnParam.{TsFnParam}
use Rattle.swc_ecma_codegen_tree.specs.declared.ts_types.TsFnParam.TheVariants as fn_params
use Rattle.swc_ecma_codegen_tree.specs.declared.ts_types.TsFnType.{TsFnType}
use Rattle.swc_ecma_codegen_tree.specs.declared.ts_types.TsImportType.{TsImportType}
use Rattle.swc_ecma_codegen_tree.specs.declared.ts_types.TsInferType.{TsInferType}
use Rattle.swc_ecma_codegen_tree.specs.declared.ts_types.TsLit.{TsLit}
use Rattle.swc_ecma_codegen_tree.specs.declared.ts_types.TsLit.TheVariants as type_lits
use Rattle.swc_ecma_codegen_tree.specs.declared.ts_types.TsLitType.{TsLitType}
use Rattle.swc_ecma_codegen_tree.specs.declared.ts_types.TsMappedType.{TsMappedType}
use Rattle.swc_ecma_codegen_tree.specs.declared.ts_types.TsTupleElement.{TsTupleElement}
use Rattle.swc_ecma_codegen_tree.specs.declared.ts_types.TsTupleType.{TsTupleType}
use Rattle.swc_ecma_codegen_tree.specs.declared.ts_types.TsType.{TsType}
use Rattle.swc_ecma_codegen_tree.specs.declared.ts_types.TsType.TheVariants as types
use Rattle.swc_ecma_codegen_tree.specs.declared.ts_types.TsTypeLit.{TsTypeLit}
use Rattle.swc_ecma_codegen_tree.specs.declared.ts_types.TsTypeParam.{TsTypeParam}
use Rattle.swc_ecma_codegen_tree.specs.declared.ts_types.TsTypeParamDecl.{TsTypeParamDecl}
use Rattle.swc_ecma_codegen_tree.specs.declared.ts_types.TsTypeParamInstantiation.{TsTypeParamInstantiation}
use Rattle.swc_ecma_codegen_tree.specs.declared.ts_types.TsTypePredicate.{TsTypePredicate}
use Rattle.swc_ecma_codegen_tree.specs.declared.ts_types.TsTypeQuery.{TsTypeQuery}
use Rattle.swc_ecma_codegen_tree.specs.declared.ts_types.TsTypeQueryExpr.{TsTypeQueryExpr}
use Rattle.swc_ecma_codegen_tree.specs.declared.ts_types.TsTypeQueryExpr.TheVariants as query_exprs
use Rattle.swc_ecma_codegen_tree.specs.declared.ts_types.TsTypeRef.{TsTypeRef}
use Rattle.swc_ecma_codegen_tree.specs.declared.ts_types.TsUnionOrIntersectionType.{TsUnionOrIntersectionType}
use Rattle.swc_ecma_codegen_tree.specs.declared.ts_types.TsUnionOrIntersectionType.TheVariants as joined_types
use Rattle.swc_ecma_codegen_grammar.specs.Phrases.{Phrase, Nothing, One, ◌>◌, word, mark, ending, in_order, listed, some_listed, where_}
use Rattle.swc_ecma_codegen_grammar.specs.AnnotationPhrases.{annotation, type_args, type_params}
use Rattle.swc_ecma_codegen_grammar.specs.FunctionPhrases.{word_if}
use Rattle.swc_ecma_codegen_grammar.specs.NamePhrases.{ident, binding_ident}
use Rattle.swc_ecma_codegen_grammar.specs.LitPhrases.{str_lit}
use Rattle.swc_ecma_codegen_grammar.specs.PatPhrases.{pat_at, initializer, array_pat, rest_pat, key_value_pat_prop, assign_pat_prop, object_pat_prop, object_pat}
use Rattle.swc_ecma_codegen_grammar.specs.ElementPhrases.{elements_end}
use Rattle.swc_ecma_codegen_grammar.specs.Tokens as tokens
use Rattle.swc_ecma_codegen_grammar.specs.MemberPhrases.{signature_param_at, ts_type_element}
use Rattle.swc_ecma_codegen_grammar.specs.TypePhrases.{type_at, type_behind, ann_at, ts_qualified_name, ts_entity_name, ts_type_ref, ts_type_param_instantiation, ts_type_param, ts_type_param_decl, ts_fn_param, ts_fn_type, ts_constructor_type, ts_fn_or_constructor_type, ts_tpl_lit_type, ts_lit, ts_lit_type, qualifier, ts_import_type, ts_type_query_expr, ts_type_query, ts_type_lit, ts_array_type, label, signed, ts_tuple_element, ts_tuple_type, ts_optional_type, ts_rest_type, mapped_param, ts_mapped_type, ts_union_type, ts_intersection_type, ts_union_or_intersection_type, ts_parenthesized_type, ts_type_operator, ts_indexed_access_type, ts_conditional_type, ts_infer_type, is_behind, ts_type_predicate, ts_type, ts_type_ann}
use Rattle.swc_ecma_codegen_grammar.specs.PartPhrases.{expr_part, ts_part}
use Rattle.swc_ecma_codegen_grammar.specs.declared.roles.Role.{Role}
use Rattle.swc_ecma_codegen_grammar.specs.declared.roles.Role.TheVariants.{AnyType, Annotation, TypeArguments, TypeParameters, EntityName, SignatureParameter, InterfaceBody, NamespaceBody, DottedBody}
use Rattle.swc_ecma_codegen_grammar.specs.TreePhrases.{node_phrase}
use Rattle.swc_ecma_codegen_grammar.proofs.Mapped.{list_mapped, by_two, by_three, by_four}
use Rattle.swc_ecma_codegen_grammar.proofs.MappedKeys.{prop_name_mapped}
use Rattle.swc_ecma_codegen_grammar.proofs.MappedNamespaces.{namespace_body_mapped, dotted_body_mapped}
use Rattle.swc_ecma_codegen_grammar.proofs.MappedTsMembers.{type_element_mapped, interface_body_mapped}
use Rattle.swc_ecma_codegen_grammar.proofs.MappedPats.{by_cases, elements_mapped, props_mapped}
use Rattle.swc_ecma_codegen_grammar.proofs.MappedTemplates.{counted_mapped}

-- a type, as a part that a link holds
abbrev as_type : {X : Type 0} → TsType X → AnyNode-F X
as_type n = nodes.TsPart (ts_parts.TsType n)

-- ---- names, arguments and parameters

entity_name_mapped : {X Y : Type 0} (g : X → Y) (f : Y → Role → Phrase) (n : TsEntityName X) → node_phrase f (map-AnyNode X Y g (nodes.TsPart (ts_parts.TsEntityName n))) EntityName ≡ ts_entity_name (λ x. f (g x)) n
unfolding node_phrase ts_part ts_entity_name ts_qualified_name
entity_name_mapped g f (entity_names.TsQualifiedName n) = refl
entity_name_mapped g f (entity_names.Ident n) = refl

arguments_mapped : {X Y : Type 0} (g : X → Y) (f : Y → Role → Phrase) (n : TsTypeParamInstantiation X) → node_phrase f (map-AnyNode X Y g (nodes.TsPart (ts_parts.TsTypeParamInstantiation n))) TypeArguments ≡ ts_type_param_instantiation (λ x. f (g x)) n
unfolding node_phrase ts_part ts_type_param_instantiation
arguments_mapped {X} g f n = ap (λ ps. mark (codes "<") > some_listed (codes ",") ps > One tokens.tag_close) (list_mapped {A = TsTypeBox X} _ (type_at f) (type_at (λ x. f (g x))) (λ x. refl) n.params.items)

-- what holds of each parameter, by the types that it has
by_types : {X : Type 0} (P : TsTypeParam X → Type 0) (n : TsTypeParam X) (constraint default_ : Option (TsTypeBox X))
    → P (record n { constraint = None; default = None })
    → ((c : TsTypeBox X) → P (record n { constraint = Some c; default = None }))
    → ((d : TsTypeBox X) → P (record n { constraint = None; default = Some d }))
    → ((c d : TsTypeBox X) → P (record n { constraint = Some c; default = Some d }))
    → P (record n { constraint = constraint; default = default_ })
by_types P n None None neither bound given both = neither
by_types P n (Some c) None neither bound given both = bound c
by_types P n None (Some d) neither bound given both = given d
by_types P n (Some c) (Some d) neither bound given both = both c d

pub by_param : {X : Type 0} (P : TsTypeParam X → Type 0)
    → ((n : TsTypeParam X) → P (record n { constraint = None; default = None }))
    → ((n : TsTypeParam X) (c : TsTypeBox X) → P (record n { constraint = Some c; default = None }))
    → ((n : TsTypeParam X) (d : TsTypeBox X) → P (record n { constraint = None; default = Some d }))
    → ((n : TsTypeParam X) (c d : TsTypeBox X) → P (record n { constraint = Some c; default = Some d }))
    → (n : TsTypeParam X) → P n
by_param P neither bound given both n = by_types P n n.constraint n.default (neither n) (bound n) (given n) (both n)

params_mapped : {X Y : Type 0} (g : X → Y) (f : Y → Role → Phrase) (n : TsTypeParamDecl X) → node_phrase f (map-AnyNode X Y g (nodes.TsPart (ts_parts.TsTypeParamDecl n))) TypeParameters ≡ ts_type_param_decl (λ x. f (g x)) n
unfolding node_phrase ts_part ts_type_param_decl ts_type_param type_behind
params_mapped {X} g f n = ap (λ ps. mark (codes "<") > some_listed (codes ",") ps > One tokens.tag_close) (list_mapped {A = TsTypeParam X} _ (ts_type_param f) (ts_type_param (λ x. f (g x))) (by_param {X = X} _ (λ p. refl) (λ p c. refl) (λ p d. refl) (λ p c d. refl)) n.params.items)

-- ---- parameters of a type

param_ident_mapped : {X Y : Type 0} (g : X → Y) (f : Y → Role → Phrase) (id : Ident) (type_ann : Option (TsTypeAnnBox X)) → node_phrase f (map-AnyNode X Y g (nodes.TsPart (ts_parts.TsFnParam (fn_params.Ident (record { id = id; type_ann = type_ann }))))) SignatureParameter ≡ binding_ident (λ x. f (g x)) (record { id = id; type_ann = type_ann })
unfolding node_phrase ts_part ts_fn_param binding_ident annotation
param_ident_mapped g f id None = refl
param_ident_mapped g f id (Some t) = refl

param_array_mapped : {X Y : Type 0} (g : X → Y) (f : Y → Role → Phrase) (n : ArrayPat X) (type_ann : Option (TsTypeAnnBox X)) → node_phrase f (map-AnyNode X Y g (nodes.TsPart (ts_parts.TsFnParam (fn_params.Array (record n { type_ann = type_ann }))))) SignatureParameter ≡ array_pat (λ x. f (g x)) (record n { type_ann = type_ann })
unfolding node_phrase ts_part ts_fn_param array_pat elements_end annotation
param_array_mapped {X} {Y} g f n None = elements_mapped {X = X} {Y = Y} _ _ f (λ x. f (g x)) _ refl (λ x. refl) (λ x. refl) n.elems.items
param_array_mapped {X} {Y} g f n (Some t) = elements_mapped {X = X} {Y = Y} _ _ f (λ x. f (g x)) _ refl (λ x. refl) (λ x. refl) n.elems.items

param_rest_mapped : {X Y : Type 0} (g : X → Y) (f : Y → Role → Phrase) (n : RestPat X) (type_ann : Option (TsTypeAnnBox X)) → node_phrase f (map-AnyNode X Y g (nodes.TsPart (ts_parts.TsFnParam (fn_params.Rest (record n { type_ann = type_ann }))))) SignatureParameter ≡ rest_pat (λ x. f (g x)) (record n { type_ann = type_ann })
unfolding node_phrase ts_part ts_fn_param rest_pat annotation
param_rest_mapped g f n None = refl
param_rest_mapped g f n (Some t) = refl

param_object_mapped : {X Y : Type 0} (g : X → Y) (f : Y → Role → Phrase) (n : ObjectPat X) (type_ann : Option (TsTypeAnnBox X)) → node_phrase f (map-AnyNode X Y g (nodes.TsPart (ts_parts.TsFnParam (fn_params.Object (record n { type_ann = type_ann }))))) SignatureParameter ≡ object_pat (λ x. f (g x)) (record n { type_ann = type_ann })
unfolding node_phrase expr_part ts_part ts_fn_param object_pat object_pat_prop key_value_pat_prop assign_pat_prop rest_pat initializer binding_ident annotation
param_object_mapped {X} {Y} g f n None = props_mapped {X = X} {Y = Y} _ f (λ x. f (g x)) _ (by_cases {X = X} _
    (λ p. ap (λ z. z > mark (codes ":") > pat_at (λ x. f (g x)) p.value) (prop_name_mapped g f p.key)) (λ span id. refl) (λ span id x. refl) (λ span id t. refl) (λ span id t x. refl) (λ span dots arg. refl) (λ span dots arg t. refl)) n.props.items
param_object_mapped {X} {Y} g f n (Some t) = props_mapped {X = X} {Y = Y} _ f (λ x. f (g x)) _ (by_cases {X = X} _
    (λ p. ap (λ z. z > mark (codes ":") > pat_at (λ x. f (g x)) p.value) (prop_name_mapped g f p.key)) (λ span id. refl) (λ span id x. refl) (λ span id t. refl) (λ span id t x. refl) (λ span dots arg. refl) (λ span dots arg t. refl)) n.props.items

fn_param_mapped : {X Y : Type 0} (g : X → Y) (f : Y → Role → Phrase) (n : TsFnParam X) → node_phrase f (map-AnyNode X Y g (nodes.TsPart (ts_parts.TsFnParam n))) SignatureParameter ≡ ts_fn_param (λ x. f (g x)) n
unfolding ts_fn_param
fn_param_mapped g f (fn_params.Ident n) = param_ident_mapped g f n.id n.type_ann
fn_param_mapped g f (fn_params.Array n) = param_array_mapped g f n n.type_ann
fn_param_mapped g f (fn_params.Rest n) = param_rest_mapped g f n n.type_ann
fn_param_mapped g f (fn_params.Object n) = param_object_mapped g f n n.type_ann

-- ---- types

ref_mapped : {X Y : Type 0} (g : X → Y) (f : Y → Role → Phrase) (n : TsTypeRef X) (type_params : Option (TsTypeParamInstantiationBox X)) → node_phrase f (map-AnyNode X Y g (as_type (types.TsTypeRef (record n { type_params = type_params })))) AnyType ≡ ts_type_ref (λ x. f (g x)) (record n { type_params = type_params })
unfolding node_phrase ts_part ts_type ts_type_ref type_args
ref_mapped g f n None = refl
ref_mapped g f n (Some t) = refl

fn_mapped : {X Y : Type 0} (g : X → Y) (f : Y → Role → Phrase) (b : Box (TsFnOrConstructorType X) Global) (n : TsFnType X) (type_params : Option (TsTypeParamDeclBox X)) → node_phrase f (map-AnyNode X Y g (as_type (types.TsFnOrConstructorType (with_value b (function_types.TsFnType (record n { type_params = type_params })))))) AnyType ≡ ts_fn_type (λ x. f (g x)) (record n { type_params = type_params })
unfolding node_phrase ts_part ts_type ts_fn_or_constructor_type ts_fn_type type_params
fn_mapped {X} g f b n None = ap (λ ps. Nothing > mark (codes "(") > listed (codes ",") ps > mark (codes ")") > mark (codes "=>") > ann_at (λ x. f (g x)) n.type_ann) (list_mapped {A = TsFnParamBox X} _ (signature_param_at f) (signature_param_at (λ x. f (g x))) (λ x. refl) n.params.items)
fn_mapped {X} g f b n (Some t) = ap (λ ps. f (g t.node.value) TypeParameters > mark (codes "(") > listed (codes ",") ps > mark (codes ")") > mark (codes "=>") > ann_at (λ x. f (g x)) n.type_ann) (list_mapped {A = TsFnParamBox X} _ (signature_param_at f) (signature_param_at (λ x. f (g x))) (λ x. refl) n.params.items)

constructor_mapped : {X Y : Type 0} (g : X → Y) (f : Y → Role → Phrase) (b : Box (TsFnOrConstructorType X) Global) (n : TsConstructorType X) (type_params : Option (TsTypeParamDeclBox X)) → node_phrase f (map-AnyNode X Y g (as_type (types.TsFnOrConstructorType (with_value b (function_types.TsConstructorType (record n { type_params = type_params })))))) AnyType ≡ ts_constructor_type (λ x. f (g x)) (record n { type_params = type_params })
unfolding node_phrase ts_part ts_type ts_fn_or_constructor_type ts_constructor_type type_params
constructor_mapped {X} g f b n None = ap (λ ps. word_if n.is_abstract (word (codes "abstract")) > word (codes "new") > Nothing > mark (codes "(") > listed (codes ",") ps > mark (codes ")") > mark (codes "=>") > ann_at (λ x. f (g x)) n.type_ann) (list_mapped {A = TsFnParamBox X} _ (signature_param_at f) (signature_param_at (λ x. f (g x))) (λ x. refl) n.params.items)
constructor_mapped {X} g f b n (Some t) = ap (λ ps. word_if n.is_abstract (word (codes "abstract")) > word (codes "new") > f (g t.node.value) TypeParameters > mark (codes "(") > listed (codes ",") ps > mark (codes ")") > mark (codes "=>") > ann_at (λ x. f (g x)) n.type_ann) (list_mapped {A = TsFnParamBox X} _ (signature_param_at f) (signature_param_at (λ x. f (g x))) (λ x. refl) n.params.items)

function_mapped : {X Y : Type 0} (g : X → Y) (f : Y → Role → Phrase) (b : Box (TsFnOrConstructorType X) Global) (n : TsFnOrConstructorType X) → node_phrase f (map-AnyNode X Y g (as_type (types.TsFnOrConstructorType (with_value b n)))) AnyType ≡ ts_fn_or_constructor_type (λ x. f (g x)) n
unfolding node_phrase ts_part ts_type ts_fn_or_constructor_type
function_mapped g f b (function_types.TsFnType n) = fn_mapped g f b n n.type_params
function_mapped g f b (function_types.TsConstructorType n) = constructor_mapped g f b n n.type_params

import_mapped : {X Y : Type 0} (g : X → Y) (f : Y → Role → Phrase) (b : Box (TsImportType X) Global) (n : TsImportType X) (qualified : Option (TsEntityNameBox X)) (type_args : Option (TsTypeParamInstantiationBox X)) → node_phrase f (map-AnyNode X Y g (as_type (types.TsImportType (with_value b (record n { qualifier = qualified; type_args = type_args }))))) AnyType ≡ ts_import_type (λ x. f (g x)) (record n { qualifier = qualified; type_args = type_args })
unfolding node_phrase ts_part ts_type ts_import_type qualifier type_args
import_mapped g f b n = by_two (λ q t. word (codes "import") > mark (codes "(") > str_lit n.arg > mark (codes ")") > q > t) (elim [ None ↦ refl | Some t ↦ refl ]) (elim [ None ↦ refl | Some t ↦ refl ])

name_query_mapped : {X Y : Type 0} (g : X → Y) (f : Y → Role → Phrase) (b : Box (TsTypeQuery X) Global) (n : TsTypeQuery X) (name : TsEntityNameBox X) (type_args : Option (TsTypeParamInstantiationBox X)) → node_phrase f (map-AnyNode X Y g (as_type (types.TsTypeQuery (with_value b (record n { expr_name = query_exprs.TsEntityName name; type_args = type_args }))))) AnyType ≡ ts_type_query (λ x. f (g x)) (record n { expr_name = query_exprs.TsEntityName name; type_args = type_args })
unfolding node_phrase ts_part ts_type ts_type_query ts_type_query_expr type_args
name_query_mapped g f b n name None = refl
name_query_mapped g f b n name (Some t) = refl

import_query_mapped : {X Y : Type 0} (g : X → Y) (f : Y → Role → Phrase) (b : Box (TsTypeQuery X) Global) (n : TsTypeQuery X) (m : TsImportType X) (qualified : Option (TsEntityNameBox X)) (inner type_args : Option (TsTypeParamInstantiationBox X)) → node_phrase f (map-AnyNode X Y g (as_type (types.TsTypeQuery (with_value b (record n { expr_name = query_exprs.Import (record m { qualifier = qualified; type_args = inner }); type_args = type_args }))))) AnyType ≡ ts_type_query (λ x. f (g x)) (record n { expr_name = query_exprs.Import (record m { qualifier = qualified; type_args = inner }); type_args = type_args })
unfolding node_phrase ts_part ts_type ts_type_query ts_type_query_expr ts_import_type qualifier type_args
import_query_mapped g f b n m = by_three (λ q i t. word (codes "typeof") > (word (codes "import") > mark (codes "(") > str_lit m.arg > mark (codes ")") > q > i) > t) (elim [ None ↦ refl | Some t ↦ refl ]) (elim [ None ↦ refl | Some t ↦ refl ]) (elim [ None ↦ refl | Some t ↦ refl ])

query_mapped : {X Y : Type 0} (g : X → Y) (f : Y → Role → Phrase) (b : Box (TsTypeQuery X) Global) (n : TsTypeQuery X) (expr_name : TsTypeQueryExpr X) → node_phrase f (map-AnyNode X Y g (as_type (types.TsTypeQuery (with_value b (record n { expr_name = expr_name }))))) AnyType ≡ ts_type_query (λ x. f (g x)) (record n { expr_name = expr_name })
unfolding node_phrase ts_part ts_type ts_type_query
query_mapped g f b n (query_exprs.TsEntityName m) = name_query_mapped g f b n m n.type_args
query_mapped g f b n (query_exprs.Import m) = import_query_mapped g f b n m m.qualifier m.type_args n.type_args

lit_mapped : {X Y : Type 0} (g : X → Y) (f : Y → Role → Phrase) (b : Box (TsLitType X) Global) (n : TsLitType X) (lit : TsLit X) → node_phrase f (map-AnyNode X Y g (as_type (types.TsLitType (with_value b (record n { lit = lit }))))) AnyType ≡ ts_lit_type (λ x. f (g x)) (record n { lit = lit })
unfolding node_phrase ts_part ts_type ts_lit_type ts_lit ts_tpl_lit_type
lit_mapped {X} {Y} g f b n (type_lits.Tpl m) = counted_mapped {A = TsTypeBox X} {B = TsTypeBox Y} _ (type_at f) (type_at (λ x. f (g x))) (λ x. refl) false m.types.items m.quasis.items
lit_mapped g f b n (type_lits.Number m) = refl
lit_mapped g f b n (type_lits.Str m) = refl
lit_mapped g f b n (type_lits.Bool m) = refl
lit_mapped g f b n (type_lits.BigInt m) = refl

object_mapped : {X Y : Type 0} (g : X → Y) (f : Y → Role → Phrase) (n : TsTypeLit X) → node_phrase f (map-AnyNode X Y g (as_type (types.TsTypeLit n))) AnyType ≡ ts_type_lit (λ x. f (g x)) n
unfolding node_phrase ts_part ts_type ts_type_lit
object_mapped {X} g f n = ap (λ ps. mark (codes "{") > in_order ps > mark (codes "}")) (list_mapped {A = TsTypeElement X} _ (ts_type_element f) (ts_type_element (λ x. f (g x))) (type_element_mapped g f n) n.members.items)

-- what holds of each element, with a label or without
by_label : {X : Type 0} (P : TsTupleElement X → Type 0) (n : TsTupleElement X) (label : Option (PatBox X)) → P (record n { label = None }) → ((l : PatBox X) → P (record n { label = Some l })) → P (record n { label = label })
by_label P n None bare labelled = bare
by_label P n (Some l) bare labelled = labelled l

pub by_element : {X : Type 0} (P : TsTupleElement X → Type 0) → ((n : TsTupleElement X) → P (record n { label = None })) → ((n : TsTupleElement X) (l : PatBox X) → P (record n { label = Some l })) → (n : TsTupleElement X) → P n
by_element P bare labelled n = by_label P n n.label (bare n) (labelled n)

tuple_mapped : {X Y : Type 0} (g : X → Y) (f : Y → Role → Phrase) (n : TsTupleType X) → node_phrase f (map-AnyNode X Y g (as_type (types.TsTupleType n))) AnyType ≡ ts_tuple_type (λ x. f (g x)) n
unfolding node_phrase ts_part ts_type ts_tuple_type ts_tuple_element label
tuple_mapped {X} g f n = ap (λ ps. mark (codes "[") > listed (codes ",") ps > mark (codes "]")) (list_mapped {A = TsTupleElement X} _ (ts_tuple_element f) (ts_tuple_element (λ x. f (g x))) (by_element {X = X} _ (λ x. refl) (λ x l. refl)) n.elem_types.items)

joined_mapped : {X Y : Type 0} (g : X → Y) (f : Y → Role → Phrase) (n : TsUnionOrIntersectionType X) → node_phrase f (map-AnyNode X Y g (as_type (types.TsUnionOrIntersectionType n))) AnyType ≡ ts_union_or_intersection_type (λ x. f (g x)) n
unfolding node_phrase ts_part ts_type ts_union_or_intersection_type ts_union_type ts_intersection_type
joined_mapped {X} g f (joined_types.TsUnionType n) = ap (some_listed (codes "|")) (list_mapped {A = TsTypeBox X} _ (type_at f) (type_at (λ x. f (g x))) (λ x. refl) n.types.items)
joined_mapped {X} g f (joined_types.TsIntersectionType n) = ap (some_listed (codes "&")) (list_mapped {A = TsTypeBox X} _ (type_at f) (type_at (λ x. f (g x))) (λ x. refl) n.types.items)

infer_mapped : {X Y : Type 0} (g : X → Y) (f : Y → Role → Phrase) (b : Box (TsInferType X) Global) (n : TsInferType X) (constraint default_ : Option (TsTypeBox X)) → node_phrase f (map-AnyNode X Y g (as_type (types.TsInferType (with_value b (record n { type_param = record n.type_param { constraint = constraint; default = default_ } }))))) AnyType ≡ ts_infer_type (λ x. f (g x)) (record n { type_param = record n.type_param { constraint = constraint; default = default_ } })
unfolding node_phrase ts_part ts_type ts_infer_type ts_type_param type_behind
infer_mapped g f b n None None = refl
infer_mapped g f b n None (Some d) = refl
infer_mapped g f b n (Some c) None = refl
infer_mapped g f b n (Some c) (Some d) = refl

mapped_mapped : {X Y : Type 0} (g : X → Y) (f : Y → Role → Phrase) (b : Box (TsMappedType X) Global) (n : TsMappedType X) (constraint default_ name_type type_ann : Option (TsTypeBox X)) → node_phrase f (map-AnyNode X Y g (as_type (types.TsMappedType (with_value b (record n { type_param = record n.type_param { constraint = constraint; default = default_ }; name_type = name_type; type_ann = type_ann }))))) AnyType ≡ ts_mapped_type (λ x. f (g x)) (record n { type_param = record n.type_param { constraint = constraint; default = default_ }; name_type = name_type; type_ann = type_ann })
unfolding node_phrase ts_part ts_type ts_mapped_type mapped_param type_behind
mapped_mapped g f b n = by_four (λ c d a t.
    mark (codes "{") > signed n.readonly (word (codes "readonly"))
    > mark (codes "[") > where_ (not (n.type_param.is_in || (n.type_param.is_out || n.type_param.is_const))) (ident n.type_param.name > c > d > a) > mark (codes "]")
    > signed n.optional (mark (codes "?")) > t > ending > mark (codes "}")) (elim [ None ↦ refl | Some t ↦ refl ]) (elim [ None ↦ refl | Some t ↦ refl ]) (elim [ None ↦ refl | Some t ↦ refl ]) (elim [ None ↦ refl | Some t ↦ refl ])

predicate_mapped : {X Y : Type 0} (g : X → Y) (f : Y → Role → Phrase) (b : Box (TsTypePredicate X) Global) (n : TsTypePredicate X) (type_ann : Option (TsTypeAnnBox X)) → node_phrase f (map-AnyNode X Y g (as_type (types.TsTypePredicate (with_value b (record n { type_ann = type_ann }))))) AnyType ≡ ts_type_predicate (λ x. f (g x)) (record n { type_ann = type_ann })
unfolding node_phrase ts_part ts_type ts_type_predicate is_behind
predicate_mapped g f b n None = refl
predicate_mapped g f b n (Some t) = refl

type_mapped : {X Y : Type 0} (g : X → Y) (f : Y → Role → Phrase) (n : TsType X) → node_phrase f (map-AnyNode X Y g (as_type n)) AnyType ≡ ts_type (λ x. f (g x)) n
unfolding node_phrase ts_part ts_type ts_array_type ts_optional_type ts_rest_type ts_parenthesized_type ts_type_operator ts_indexed_access_type ts_conditional_type
type_mapped g f (types.TsFnOrConstructorType n) = function_mapped g f n n.value
type_mapped g f (types.TsTypeRef n) = ref_mapped g f n n.type_params
type_mapped g f (types.TsTypeQuery n) = query_mapped g f n n.value n.value.expr_name
type_mapped g f (types.TsTypeLit n) = object_mapped g f n
type_mapped g f (types.TsTupleType n) = tuple_mapped g f n
type_mapped g f (types.TsUnionOrIntersectionType n) = joined_mapped g f n
type_mapped g f (types.TsInferType n) = infer_mapped g f n n.value n.value.type_param.constraint n.value.type_param.default
type_mapped g f (types.TsMappedType n) = mapped_mapped g f n n.value n.value.type_param.constraint n.value.type_param.default n.value.name_type n.value.type_ann
type_mapped g f (types.TsLitType n) = lit_mapped g f n n.value n.value.lit
type_mapped g f (types.TsTypePredicate n) = predicate_mapped g f n n.value n.value.type_ann
type_mapped g f (types.TsImportType n) = import_mapped g f n n.value n.value.qualifier n.value.type_args
type_mapped g f n = refl

pub ts_part_mapped : {X Y : Type 0} (g : X → Y) (f : Y → Role → Phrase) (n : TsPart X) (role : Role) → node_phrase f (map-AnyNode X Y g (nodes.TsPart n)) role ≡ ts_part (λ x. f (g x)) n role
unfolding node_phrase ts_part ts_type_ann
ts_part_mapped g f (ts_parts.TsType n) AnyType = type_mapped g f n
ts_part_mapped g f (ts_parts.TsTypeAnn n) Annotation = type_mapped g f n.type_ann
ts_part_mapped g f (ts_parts.TsTypeParamDecl n) TypeParameters = params_mapped g f n
ts_part_mapped g f (ts_parts.TsTypeParamInstantiation n) TypeArguments = arguments_mapped g f n
ts_part_mapped g f (ts_parts.TsFnParam n) SignatureParameter = fn_param_mapped g f n
ts_part_mapped g f (ts_parts.TsInterfaceBody n) InterfaceBody = interface_body_mapped g f n
ts_part_mapped g f (ts_parts.TsEntityName n) EntityName = entity_name_mapped g f n
ts_part_mapped g f (ts_parts.TsNamespaceBody n) NamespaceBody = namespace_body_mapped g f n
ts_part_mapped g f (ts_parts.TsNamespaceBody n) DottedBody = dotted_body_mapped g f n
ts_part_mapped g f n role = refl
