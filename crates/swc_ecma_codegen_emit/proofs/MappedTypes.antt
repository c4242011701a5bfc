-- The words of types see what links hold through `asks` and `items` alone.
use Rattle.std.proofs.Common.{◌≡◌, refl, ◌∙◌, ap, ◌+◌, ◌==◌, length, false, cond, List, map, codes, Option, Some, None, Box, Global}
use Rattle.std.specs.Box.{with_value}
use Rattle.swc_ecma_codegen_common.specs.declared.positions.Span.{Span}
use Rattle.swc_ecma_codegen_tree.specs.declared.links.AnyNode.{AnyNode-F, map-AnyNode}
use Rattle.swc_ecma_codegen_tree.specs.declared.links.AnyNode.TheOpen as nodes
use Rattle.swc_ecma_codegen_tree.specs.Links.{PatBox, TsEntityNameBox, TsFnParamBox, TsTypeAnnBox, TsTypeBox, TsTypeParamDeclBox, TsTypeParamInstantiationBox}
use Rattle.swc_ecma_codegen_tree.specs.declared.idents.Ident.{Ident}
use Rattle.swc_ecma_codegen_tree.specs.declared.pats.ArrayPat.{ArrayPat}
use Rattle.swc_ecma_codegen_tree.specs.declared.pats.ObjectPat.{ObjectPat}
use Rattle.swc_ecma_codegen_tree.specs.declared.pats.ObjectPatProp.{ObjectPatProp}
use Rattle.swc_ecma_codegen_tree.specs.declared.pats.RestPat.{RestPat}
use Rattle.swc_ecma_codegen_tree.specs.declared.parts.TsPart.{TsPart}
use Rattle.swc_ecma_codegen_tree.specs.declared.parts.TsPart.TheVariants as ts_parts
use Rattle.swc_ecma_codegen_tree.specs.declared.ts_members.TsTypeElement.{TsTypeElement}
use Rattle.swc_ecma_codegen_tree.specs.declared.ts_types.TsConstructorType.{TsConstructorType}
use Rattle.swc_ecma_codegen_tree.specs.declared.ts_types.TsEntityName.{TsEntityName}
use Rattle.swc_ecma_codegen_tree.specs.declared.ts_types.TsEntityName.TheVariants as entity_names
use Rattle.swc_ecma_codegen_tree.specs.declared.ts_types.TsFnOrConstructorType.{TsFnOrConstructorType}
use Rattle.swc_ecma_codegen_tree.specs.declared.ts_types.TsFnOrConstructorType.TheVariants as function_types
use Rattle.swc_ecma_codegen_tree.specs.declared.ts_types.TsFnParam.{TsFnParam}
use Rattle.swc_ecma_codegen_tree.specs.declared.ts_types.TsFnParam.TheVariants as fn_params
use Rattle.swc_ecma_codegen_tree.specs.declared.ts_types.TsFnType.{TsFnType}
use Rattle.swc_ecma_codegen_tree.specs.declared.ts_types.TsImportType.{TsImportType}
use Rattle.swc_ecma_codegen_tree.specs.declared.ts_types.TsInferType.{TsInferType}
use Rattle.swc_ecma_codegen_tree.specs.declared.ts_types.TsLit.{TsLit}
use Rattle.swc_ecma_codegen_tree.specs.declared.ts_types.TsLit.TheVariants as type_lits
use Rattle.swc_ecma_codegen_tree.specs.declared.ts_types.TsLitType.{TsLitType}
use Rattle.swc_ecma_codegen_tree.specs.declared.ts_types.TsMappedType.{TsMappedType}
use Rattle.swc_ecma_codegen_tree.specs.declared.ts_types.TsTupleElement.{TsTupleElement}
use Rattle.swc_ecma_codegen_tree.specs.declared.ts_types.TsTupleType.{TsTupleType}
use Rattle.swc_ecma_codegen_tree.specs.declared.ts_types.TsType.{TsType}
use Rattle.swc_ecma_codegen_tree.specs.declared.ts_types.TsType.TheVariants as types
use Rattle.swc_ecma_codegen_tree.specs.declared.ts_types.TsTypeLit.{TsTypeLit}
use Rattle.swc_ecma_codegen_tree.specs.declared.ts_types.TsTypeParam.{TsTypeParam}
use Rattle.swc_ecma_codegen_tree.specs.declared.ts_types.TsTypeParamDecl.{TsTypeParamDecl}
use Rattle.swc_ecma_codegen_tree.specs.declared.ts_types.TsTypeParamInstantiation.{TsTypeParamInstantiation}
use Rattle.swc_ecma_codegen_tree.specs.declared.ts_types.TsTypePredicate.{TsTypePredicate}
use Rattle.swc_ecma_codegen_tree.specs.declared.ts_types.TsTypeQuery.{TsTypeQuery}
use Rattle.swc_ecma_codegen_tree.specs.declared.ts_types.TsTypeQueryExpr.{TsTypeQueryExpr}
use Rattle.swc_ecma_codegen_tree.specs.declared.ts_types.TsTypeQueryExpr.TheVariants as query_exprs
use Rattle.swc_ecma_codegen_tree.specs.declared.ts_types.TsTypeRef.{TsTypeRef}
use Rattle.swc_ecma_codegen_tree.specs.declared.ts_types.TsUnionOrIntersectionType.{TsUnionOrIntersectionType}
use Rattle.swc_ecma_codegen_tree.specs.declared.ts_types.TsUnionOrIntersectionType.TheVariants as joined_types
use Rattle.swc_ecma_codegen_tree.specs.declared.exprs.TplElement.{TplElement}
use Rattle.swc_ecma_codegen_spans.specs.Spans.{ts_type_element_span, object_pat_prop_span, key_value_pat_prop_span, expr_part_span, node_span}
use Rattle.swc_ecma_codegen_grammar.specs.TemplatePhrases.{is_counted}
use Rattle.swc_ecma_codegen_grammar.proofs.MappedPats.{by_cases}
use Rattle.swc_ecma_codegen_grammar.proofs.MappedTemplates.{length_mapped}
use Rattle.swc_ecma_codegen_grammar.proofs.MappedTypes.{by_param, by_element}
use Rattle.swc_ecma_codegen_tokens.specs.Run.{Plan, Part}
use Rattle.swc_ecma_codegen_tokens.specs.Lists.{deeper, shallower}
use Rattle.swc_ecma_codegen_tokens.specs.Lits.{str_lit}
use Rattle.swc_ecma_codegen_tokens.specs.Tags.{close}
use Rattle.swc_ecma_codegen_tokens.specs.Words.{keyword, leading_comments, line_end, punct, semi, space}
use Rattle.swc_ecma_codegen_emit.specs.declared.nodes.Context.TheVariants.{Plain, Reference}
use Rattle.swc_ecma_codegen_emit.specs.Places.{Place, Whole, context_of}
use Rattle.swc_ecma_codegen_emit.specs.Annotations.{annotation, spaced_annotation, type_args, type_params, types_format, word_before}
use Rattle.swc_ecma_codegen_emit.specs.Answers.{Answers}
use Rattle.swc_ecma_codegen_emit.specs.Exprs.{ident, opened, spaced_punct}
use Rattle.swc_ecma_codegen_emit.specs.Lists.{child_of}
use Rattle.swc_ecma_codegen_emit.specs.Names.{binding_ident}
use Rattle.swc_ecma_codegen_emit.specs.Pats.{pat_place, pat_items, initializer, array_pat, rest_pat, key_value_pat_prop, assign_pat_prop, object_pat_prop, object_pat_format, object_pat}
use Rattle.swc_ecma_codegen_emit.specs.Templates.{bad_shape, tpl_parts}
use Rattle.swc_ecma_codegen_emit.specs.Tree.{node_items}
use Rattle.swc_ecma_codegen_emit.specs.TsMembers.{fn_param_place, fn_param_items, member_items}
use Rattle.swc_ecma_codegen_emit.specs.Types.{type_place, type_items, type_at, type_behind, default_type, ts_qualified_name, ts_entity_name, ts_type_ref, type_arguments, ts_type_param_instantiation, ts_type_param, param_place, ts_type_param_decl, ts_keyword_type, ts_this_type, ts_fn_param, signature_type, ts_fn_type, spaced_params, ts_constructor_type, ts_fn_or_constructor_type, ts_tpl_parts, ts_tpl_lit_type, ts_lit, ts_lit_type, qualifier, ts_import_type, ts_type_query_expr, ts_type_query, members_format, ts_type_lit, ts_array_type, label, ts_tuple_element, element_place, ts_tuple_type, ts_optional_type, ts_rest_type, mapped_param, mapped_type_ann, signed_readonly, signed_question, mapped_parts, ts_mapped_type, union_format, intersection_format, ts_union_type, ts_intersection_type, ts_union_or_intersection_type, ts_parenthesized_type, ts_type_operator, ts_indexed_access_type, ts_conditional_type, ts_infer_type, is_behind, ts_type_predicate, ts_type, ts_type_ann}
use Rattle.swc_ecma_codegen_emit.specs.Parts.{expr_part, ts_part}
use Rattle.swc_ecma_codegen_emit.proofs.MappedOptions.{by_two, by_three, by_four}
use Rattle.swc_ecma_codegen_emit.proofs.MappedNamespaces.{namespace_body_mapped}
use Rattle.swc_ecma_codegen_emit.proofs.MappedTsMembers.{type_element_same, interface_body_mapped}
use Rattle.swc_ecma_codegen_emit.proofs.MappedPats.{children_mapped, elements_mapped, key_value_same, prop_name_mapped, prop_name_placed}
use Rattle.swc_ecma_codegen_emit.proofs.MappedTemplates.{parts_mapped}

-- a type, as a part that a link holds
abbrev as_type : {X : Type 0} → TsType X → AnyNode-F X
as_type n = nodes.TsPart (ts_parts.TsType n)

-- ---- names, arguments and parameters

entity_mapped : {X Y : Type 0} (g : X → Y) (asks : Y → Answers) (items : Y → Place → Part) (n : TsEntityName X) (place : Place) (rest : Plan) → node_items asks items (map-AnyNode X Y g (nodes.TsPart (ts_parts.TsEntityName n))) place rest ≡ ts_entity_name (λ x. items (g x)) n rest
unfolding node_items ts_part ts_entity_name ts_qualified_name
entity_mapped g asks items (entity_names.TsQualifiedName n) place rest = refl
entity_mapped g asks items (entity_names.Ident n) place rest = refl

listed_mapped : {X Y : Type 0} (g : X → Y) (asks : Y → Answers) (items : Y → Place → Part) (n : TsTypeParamInstantiation X) (rest : Plan) → node_items asks items (map-AnyNode X Y g (nodes.TsPart (ts_parts.TsTypeParamInstantiation n))) (Whole Reference) rest ≡ type_arguments (λ x. asks (g x)) (λ x. items (g x)) n rest
unfolding node_items ts_part ts_type_param_instantiation type_arguments
listed_mapped {X} g asks items n rest = ap (punct (codes "<")) (children_mapped {A = TsTypeBox X} _ (child_of (type_place asks) (type_items items)) (child_of (type_place (λ x. asks (g x))) (type_items (λ x. items (g x)))) (λ x. refl) types_format n.span n.params.items (close rest))

arguments_mapped : {X Y : Type 0} (g : X → Y) (asks : Y → Answers) (items : Y → Place → Part) (n : TsTypeParamInstantiation X) (place : Place) (rest : Plan) → node_items asks items (map-AnyNode X Y g (nodes.TsPart (ts_parts.TsTypeParamInstantiation n))) place rest ≡ ts_type_param_instantiation (λ x. asks (g x)) (λ x. items (g x)) n (context_of place) rest
unfolding node_items ts_part ts_type_param_instantiation type_arguments
arguments_mapped g asks items n (Whole Reference) rest = listed_mapped g asks items n rest
arguments_mapped g asks items n place rest = ap (leading_comments n.span.lo) (listed_mapped g asks items n rest)

params_mapped : {X Y : Type 0} (g : X → Y) (asks : Y → Answers) (items : Y → Place → Part) (n : TsTypeParamDecl X) (place : Place) (rest : Plan) → node_items asks items (map-AnyNode X Y g (nodes.TsPart (ts_parts.TsTypeParamDecl n))) place rest ≡ ts_type_param_decl (λ x. items (g x)) n rest
unfolding node_items ts_part ts_type_param_decl ts_type_param type_behind default_type
params_mapped {X} g asks items n place rest = ap (λ z. leading_comments n.span.lo (punct (codes "<") z)) (children_mapped {A = TsTypeParam X} _ (child_of param_place (λ p place. ts_type_param items p)) (child_of param_place (λ p place. ts_type_param (λ x. items (g x)) p)) (by_param {X = X} _ (λ p. refl) (λ p c. refl) (λ p d. refl) (λ p c d. refl)) types_format n.span n.params.items (close rest))

-- ---- parameters of a type

param_ident_mapped : {X Y : Type 0} (g : X → Y) (asks : Y → Answers) (items : Y → Place → Part) (id : Ident) (type_ann : Option (TsTypeAnnBox X)) (place : Place) (rest : Plan) → node_items asks items (map-AnyNode X Y g (nodes.TsPart (ts_parts.TsFnParam (fn_params.Ident (record { id = id; type_ann = type_ann }))))) place rest ≡ binding_ident (λ x. items (g x)) (record { id = id; type_ann = type_ann }) rest
unfolding node_items ts_part ts_fn_param binding_ident annotation
param_ident_mapped g asks items id None place rest = refl
param_ident_mapped g asks items id (Some t) place rest = refl

param_array_mapped : {X Y : Type 0} (g : X → Y) (asks : Y → Answers) (items : Y → Place → Part) (n : ArrayPat X) (type_ann : Option (TsTypeAnnBox X)) (place : Place) (rest : Plan) → node_items asks items (map-AnyNode X Y g (nodes.TsPart (ts_parts.TsFnParam (fn_params.Array (record n { type_ann = type_ann }))))) place rest ≡ array_pat (λ x. asks (g x)) (λ x. items (g x)) (record n { type_ann = type_ann }) rest
unfolding node_items ts_part ts_fn_param array_pat spaced_annotation
param_array_mapped {X} {Y} g asks items n None place rest = ap (λ z. opened n.span (punct (codes "[") z)) (elements_mapped {A = PatBox X} {B = PatBox Y} _ _ (pat_place asks) (pat_place (λ x. asks (g x))) (pat_items items) (pat_items (λ x. items (g x))) refl (λ x. refl) (λ x. refl) n.span n.elems.items _)
param_array_mapped {X} {Y} g asks items n (Some t) place rest = ap (λ z. opened n.span (punct (codes "[") z)) (elements_mapped {A = PatBox X} {B = PatBox Y} _ _ (pat_place asks) (pat_place (λ x. asks (g x))) (pat_items items) (pat_items (λ x. items (g x))) refl (λ x. refl) (λ x. refl) n.span n.elems.items _)

param_rest_mapped : {X Y : Type 0} (g : X → Y) (asks : Y → Answers) (items : Y → Place → Part) (n : RestPat X) (type_ann : Option (TsTypeAnnBox X)) (place : Place) (rest : Plan) → node_items asks items (map-AnyNode X Y g (nodes.TsPart (ts_parts.TsFnParam (fn_params.Rest (record n { type_ann = type_ann }))))) place rest ≡ rest_pat (λ x. items (g x)) (record n { type_ann = type_ann }) rest
unfolding node_items ts_part ts_fn_param rest_pat annotation
param_rest_mapped g asks items n None place rest = refl
param_rest_mapped g asks items n (Some t) place rest = refl

param_object_mapped : {X Y : Type 0} (g : X → Y) (asks : Y → Answers) (items : Y → Place → Part) (n : ObjectPat X) (type_ann : Option (TsTypeAnnBox X)) (place : Place) (rest : Plan) → node_items asks items (map-AnyNode X Y g (nodes.TsPart (ts_parts.TsFnParam (fn_params.Object (record n { type_ann = type_ann }))))) place rest ≡ object_pat (λ x. asks (g x)) (λ x. items (g x)) (record n { type_ann = type_ann }) rest
unfolding node_items node_span expr_part expr_part_span ts_part ts_fn_param object_pat object_pat_prop object_pat_prop_span key_value_pat_prop_span key_value_pat_prop assign_pat_prop rest_pat initializer binding_ident annotation spaced_annotation
param_object_mapped {X} {Y} g asks items n None place rest = ap (λ z. opened n.span (punct (codes "{") z)) (children_mapped {A = ObjectPatProp X} _ _ _ (by_cases {X = X} _ (λ p. key_value_same _ _ (asks (g p.value.node.value)).place _ _ (items (g p.value.node.value) (Whole Plain)) (prop_name_placed g asks p.key) (prop_name_mapped g asks items p.key (Whole Plain))) (λ span id. refl) (λ span id x. refl) (λ span id t. refl) (λ span id t x. refl) (λ span dots arg. refl) (λ span dots arg t. refl)) object_pat_format n.span n.props.items _)
param_object_mapped {X} {Y} g asks items n (Some t) place rest = ap (λ z. opened n.span (punct (codes "{") z)) (children_mapped {A = ObjectPatProp X} _ _ _ (by_cases {X = X} _ (λ p. key_value_same _ _ (asks (g p.value.node.value)).place _ _ (items (g p.value.node.value) (Whole Plain)) (prop_name_placed g asks p.key) (prop_name_mapped g asks items p.key (Whole Plain))) (λ span id. refl) (λ span id x. refl) (λ span id t. refl) (λ span id t x. refl) (λ span dots arg. refl) (λ span dots arg t. refl)) object_pat_format n.span n.props.items _)

fn_param_mapped : {X Y : Type 0} (g : X → Y) (asks : Y → Answers) (items : Y → Place → Part) (n : TsFnParam X) (place : Place) (rest : Plan) → node_items asks items (map-AnyNode X Y g (nodes.TsPart (ts_parts.TsFnParam n))) place rest ≡ ts_fn_param (λ x. asks (g x)) (λ x. items (g x)) n rest
unfolding node_items ts_part ts_fn_param
fn_param_mapped g asks items (fn_params.Ident n) place rest = param_ident_mapped g asks items n.id n.type_ann place rest
fn_param_mapped g asks items (fn_params.Array n) place rest = param_array_mapped g asks items n n.type_ann place rest
fn_param_mapped g asks items (fn_params.Rest n) place rest = param_rest_mapped g asks items n n.type_ann place rest
fn_param_mapped g asks items (fn_params.Object n) place rest = param_object_mapped g asks items n n.type_ann place rest

-- ---- types

ref_mapped : {X Y : Type 0} (g : X → Y) (asks : Y → Answers) (items : Y → Place → Part) (n : TsTypeRef X) (type_params : Option (TsTypeParamInstantiationBox X)) (place : Place) (rest : Plan) → node_items asks items (map-AnyNode X Y g (as_type (types.TsTypeRef (record n { type_params = type_params })))) place rest ≡ ts_type_ref (λ x. items (g x)) (record n { type_params = type_params }) rest
unfolding node_items ts_part ts_type ts_type_ref type_args
ref_mapped g asks items n None place rest = refl
ref_mapped g asks items n (Some t) place rest = refl

fn_mapped : {X Y : Type 0} (g : X → Y) (asks : Y → Answers) (items : Y → Place → Part) (b : Box (TsFnOrConstructorType X) Global) (n : TsFnType X) (type_params : Option (TsTypeParamDeclBox X)) (place : Place) (rest : Plan) → node_items asks items (map-AnyNode X Y g (as_type (types.TsFnOrConstructorType (with_value b (function_types.TsFnType (record n { type_params = type_params })))))) place rest ≡ ts_fn_type (λ x. asks (g x)) (λ x. items (g x)) (record n { type_params = type_params }) rest
unfolding node_items ts_part ts_type ts_fn_or_constructor_type ts_fn_type type_params signature_type
fn_mapped {X} g asks items b n None place rest = ap (λ z. leading_comments n.span.lo (punct (codes "(") z)) (children_mapped {A = TsFnParamBox X} _ (child_of (fn_param_place asks) (fn_param_items items)) (child_of (fn_param_place (λ x. asks (g x))) (fn_param_items (λ x. items (g x)))) (λ x. refl) types_format n.span n.params.items (punct (codes ")") (spaced_punct (codes "=>") (items (g n.type_ann.node.value) (Whole Plain) rest))))
fn_mapped {X} g asks items b n (Some t) place rest = ap (λ z. leading_comments n.span.lo (items (g t.node.value) (Whole Plain) (punct (codes "(") z))) (children_mapped {A = TsFnParamBox X} _ (child_of (fn_param_place asks) (fn_param_items items)) (child_of (fn_param_place (λ x. asks (g x))) (fn_param_items (λ x. items (g x)))) (λ x. refl) types_format n.span n.params.items (punct (codes ")") (spaced_punct (codes "=>") (items (g n.type_ann.node.value) (Whole Plain) rest))))

constructor_mapped : {X Y : Type 0} (g : X → Y) (asks : Y → Answers) (items : Y → Place → Part) (b : Box (TsFnOrConstructorType X) Global) (n : TsConstructorType X) (type_params : Option (TsTypeParamDeclBox X)) (place : Place) (rest : Plan) → node_items asks items (map-AnyNode X Y g (as_type (types.TsFnOrConstructorType (with_value b (function_types.TsConstructorType (record n { type_params = type_params })))))) place rest ≡ ts_constructor_type (λ x. asks (g x)) (λ x. items (g x)) (record n { type_params = type_params }) rest
unfolding node_items ts_part ts_type ts_fn_or_constructor_type ts_constructor_type spaced_params type_params signature_type
constructor_mapped {X} g asks items b n None place rest = ap (λ z. leading_comments n.span.lo (word_before n.is_abstract (codes "abstract") (keyword None (codes "new") (punct (codes "(") z)))) (children_mapped {A = TsFnParamBox X} _ (child_of (fn_param_place asks) (fn_param_items items)) (child_of (fn_param_place (λ x. asks (g x))) (fn_param_items (λ x. items (g x)))) (λ x. refl) types_format n.span n.params.items (punct (codes ")") (spaced_punct (codes "=>") (items (g n.type_ann.node.value) (Whole Plain) rest))))
constructor_mapped {X} g asks items b n (Some t) place rest = ap (λ z. leading_comments n.span.lo (word_before n.is_abstract (codes "abstract") (keyword None (codes "new") (space (items (g t.node.value) (Whole Plain) (punct (codes "(") z)))))) (children_mapped {A = TsFnParamBox X} _ (child_of (fn_param_place asks) (fn_param_items items)) (child_of (fn_param_place (λ x. asks (g x))) (fn_param_items (λ x. items (g x)))) (λ x. refl) types_format n.span n.params.items (punct (codes ")") (spaced_punct (codes "=>") (items (g n.type_ann.node.value) (Whole Plain) rest))))

function_mapped : {X Y : Type 0} (g : X → Y) (asks : Y → Answers) (items : Y → Place → Part) (b : Box (TsFnOrConstructorType X) Global) (n : TsFnOrConstructorType X) (place : Place) (rest : Plan) → node_items asks items (map-AnyNode X Y g (as_type (types.TsFnOrConstructorType (with_value b n)))) place rest ≡ ts_fn_or_constructor_type (λ x. asks (g x)) (λ x. items (g x)) n rest
unfolding node_items ts_part ts_type ts_fn_or_constructor_type
function_mapped g asks items b (function_types.TsFnType n) place rest = fn_mapped g asks items b n n.type_params place rest
function_mapped g asks items b (function_types.TsConstructorType n) place rest = constructor_mapped g asks items b n n.type_params place rest

-- `import("a").B`, and what stands behind it
abbrev import_of : {X : Type 0} → TsImportType X → Part → Part
import_of n q after = leading_comments n.span.lo (keyword None (codes "import") (punct (codes "(") (str_lit n.arg (punct (codes ")") (q after)))))

import_mapped : {X Y : Type 0} (g : X → Y) (asks : Y → Answers) (items : Y → Place → Part) (b : Box (TsImportType X) Global) (n : TsImportType X) (place : Place) (qualified : Option (TsEntityNameBox X)) (type_args : Option (TsTypeParamInstantiationBox X)) (rest : Plan) → node_items asks items (map-AnyNode X Y g (as_type (types.TsImportType (with_value b (record n { qualifier = qualified; type_args = type_args }))))) place rest ≡ ts_import_type (λ x. items (g x)) (record n { qualifier = qualified; type_args = type_args }) rest
unfolding node_items ts_part ts_type ts_import_type qualifier type_args
import_mapped g asks items b n place = by_two _ (qualifier items) (qualifier (λ x. items (g x))) _ (type_args items Plain) (type_args (λ x. items (g x)) Plain)
    (λ q t rest. import_of n q (t rest)) (elim [ None ↦ λ z. refl | Some t ↦ λ z. refl ]) (elim [ None ↦ λ z. refl | Some t ↦ λ z. refl ])

name_query_mapped : {X Y : Type 0} (g : X → Y) (asks : Y → Answers) (items : Y → Place → Part) (b : Box (TsTypeQuery X) Global) (n : TsTypeQuery X) (name : TsEntityNameBox X) (type_args : Option (TsTypeParamInstantiationBox X)) (place : Place) (rest : Plan) → node_items asks items (map-AnyNode X Y g (as_type (types.TsTypeQuery (with_value b (record n { expr_name = query_exprs.TsEntityName name; type_args = type_args }))))) place rest ≡ ts_type_query (λ x. items (g x)) (record n { expr_name = query_exprs.TsEntityName name; type_args = type_args }) rest
unfolding node_items ts_part ts_type ts_type_query ts_type_query_expr type_args
name_query_mapped g asks items b n name None place rest = refl
name_query_mapped g asks items b n name (Some t) place rest = refl

import_query_mapped : {X Y : Type 0} (g : X → Y) (asks : Y → Answers) (items : Y → Place → Part) (b : Box (TsTypeQuery X) Global) (n : TsTypeQuery X) (m : TsImportType X) (place : Place) (qualified : Option (TsEntityNameBox X)) (inner type_args : Option (TsTypeParamInstantiationBox X)) (rest : Plan) → node_items asks items (map-AnyNode X Y g (as_type (types.TsTypeQuery (with_value b (record n { expr_name = query_exprs.Import (record m { qualifier = qualified; type_args = inner }); type_args = type_args }))))) place rest ≡ ts_type_query (λ x. items (g x)) (record n { expr_name = query_exprs.Import (record m { qualifier = qualified; type_args = inner }); type_args = type_args }) rest
unfolding node_items ts_part ts_type ts_type_query ts_type_query_expr ts_import_type qualifier type_args
import_query_mapped g asks items b n m place =
    by_three _ (qualifier items) (qualifier (λ x. items (g x))) _ (type_args items Plain) (type_args (λ x. items (g x)) Plain) _ (type_args items Plain) (type_args (λ x. items (g x)) Plain)
    (λ q i t rest. leading_comments n.span.lo (keyword None (codes "typeof") (space (import_of m q (i (t rest)))))) (elim [ None ↦ λ z. refl | Some t ↦ λ z. refl ]) (elim [ None ↦ λ z. refl | Some t ↦ λ z. refl ]) (elim [ None ↦ λ z. refl | Some t ↦ λ z. refl ])

query_mapped : {X Y : Type 0} (g : X → Y) (asks : Y → Answers) (items : Y → Place → Part) (b : Box (TsTypeQuery X) Global) (n : TsTypeQuery X) (expr_name : TsTypeQueryExpr X) (place : Place) (rest : Plan) → node_items asks items (map-AnyNode X Y g (as_type (types.TsTypeQuery (with_value b (record n { expr_name = expr_name }))))) place rest ≡ ts_type_query (λ x. items (g x)) (record n { expr_name = expr_name }) rest
unfolding node_items ts_part ts_type ts_type_query
query_mapped g asks items b n (query_exprs.TsEntityName m) place rest = name_query_mapped g asks items b n m n.type_args place rest
query_mapped g asks items b n (query_exprs.Import m) place rest = import_query_mapped g asks items b n m place m.qualifier m.type_args n.type_args rest

-- a template that has one part more than types
counted_mapped : {A B : Type 0} (g : A → B) (items : B → Part) (put : A → Part) → ((n : A) → items (g n) ≡ put n) → (span : Span) (es : List A) (qs : List TplElement) (rest : Plan) → cond (is_counted (map g es) qs) (leading_comments span.lo (tpl_parts items false (map g es) qs rest)) (bad_shape rest) ≡ cond (is_counted es qs) (leading_comments span.lo (tpl_parts put false es qs rest)) (bad_shape rest)
counted_mapped g items put same span es qs rest =
    ap (λ k. cond (length qs == k + 1) (leading_comments span.lo (tpl_parts items false (map g es) qs rest)) (bad_shape rest)) (length_mapped g es)
    ∙ ap (λ z. cond (is_counted es qs) (leading_comments span.lo z) (bad_shape rest)) (parts_mapped g items put same false es qs rest)

lit_mapped : {X Y : Type 0} (g : X → Y) (asks : Y → Answers) (items : Y → Place → Part) (b : Box (TsLitType X) Global) (n : TsLitType X) (lit : TsLit X) (place : Place) (rest : Plan) → node_items asks items (map-AnyNode X Y g (as_type (types.TsLitType (with_value b (record n { lit = lit }))))) place rest ≡ ts_lit_type (λ x. items (g x)) (record n { lit = lit }) rest
unfolding node_items ts_part ts_type ts_lit_type ts_lit ts_tpl_lit_type ts_tpl_parts
lit_mapped {X} {Y} g asks items b n (type_lits.Tpl m) place rest = ap (leading_comments n.span.lo) (counted_mapped {A = TsTypeBox X} {B = TsTypeBox Y} _ (type_at items) (type_at (λ x. items (g x))) (λ x. refl) m.span m.types.items m.quasis.items rest)
lit_mapped g asks items b n (type_lits.Number m) place rest = refl
lit_mapped g asks items b n (type_lits.Str m) place rest = refl
lit_mapped g asks items b n (type_lits.Bool m) place rest = refl
lit_mapped g asks items b n (type_lits.BigInt m) place rest = refl

object_mapped : {X Y : Type 0} (g : X → Y) (asks : Y → Answers) (items : Y → Place → Part) (n : TsTypeLit X) (place : Place) (rest : Plan) → node_items asks items (map-AnyNode X Y g (as_type (types.TsTypeLit n))) place rest ≡ ts_type_lit (λ x. asks (g x)) (λ x. items (g x)) n rest
unfolding node_items ts_part ts_type ts_type_lit
object_mapped {X} g asks items n place rest = ap (λ z. leading_comments n.span.lo (punct (codes "{") z)) (children_mapped {A = TsTypeElement X} _ (child_of ts_type_element_span (member_items asks items)) (child_of ts_type_element_span (member_items (λ x. asks (g x)) (λ x. items (g x)))) (type_element_same g asks items n) members_format n.span n.members.items (punct (codes "}") rest))

tuple_mapped : {X Y : Type 0} (g : X → Y) (asks : Y → Answers) (items : Y → Place → Part) (n : TsTupleType X) (place : Place) (rest : Plan) → node_items asks items (map-AnyNode X Y g (as_type (types.TsTupleType n))) place rest ≡ ts_tuple_type (λ x. items (g x)) n rest
unfolding node_items ts_part ts_type ts_tuple_type ts_tuple_element label
tuple_mapped {X} g asks items n place rest = ap (λ z. leading_comments n.span.lo (punct (codes "[") z)) (children_mapped {A = TsTupleElement X} _ (child_of element_place (λ x place. ts_tuple_element items x)) (child_of element_place (λ x place. ts_tuple_element (λ y. items (g y)) x)) (by_element {X = X} _ (λ x. refl) (λ x l. refl)) types_format n.span n.elem_types.items (punct (codes "]") rest))

joined_mapped : {X Y : Type 0} (g : X → Y) (asks : Y → Answers) (items : Y → Place → Part) (n : TsUnionOrIntersectionType X) (place : Place) (rest : Plan) → node_items asks items (map-AnyNode X Y g (as_type (types.TsUnionOrIntersectionType n))) place rest ≡ ts_union_or_intersection_type (λ x. asks (g x)) (λ x. items (g x)) n rest
unfolding node_items ts_part ts_type ts_union_or_intersection_type ts_union_type ts_intersection_type
joined_mapped {X} g asks items (joined_types.TsUnionType n) place rest = ap (leading_comments n.span.lo) (children_mapped {A = TsTypeBox X} _ (child_of (type_place asks) (type_items items)) (child_of (type_place (λ x. asks (g x))) (type_items (λ x. items (g x)))) (λ x. refl) union_format n.span n.types.items rest)
joined_mapped {X} g asks items (joined_types.TsIntersectionType n) place rest = ap (leading_comments n.span.lo) (children_mapped {A = TsTypeBox X} _ (child_of (type_place asks) (type_items items)) (child_of (type_place (λ x. asks (g x))) (type_items (λ x. items (g x)))) (λ x. refl) intersection_format n.span n.types.items rest)

-- `const in out A extends B = C`
abbrev param_of : {X : Type 0} → TsTypeParam X → Part → Part
param_of n behind rest = leading_comments n.span.lo (word_before n.is_const (codes "const") (word_before n.is_in (codes "in") (word_before n.is_out (codes "out") (ident n.name (behind rest)))))

infer_mapped : {X Y : Type 0} (g : X → Y) (asks : Y → Answers) (items : Y → Place → Part) (b : Box (TsInferType X) Global) (n : TsInferType X) (place : Place) (constraint default_ : Option (TsTypeBox X)) (rest : Plan) → node_items asks items (map-AnyNode X Y g (as_type (types.TsInferType (with_value b (record n { type_param = record n.type_param { constraint = constraint; default = default_ } }))))) place rest ≡ ts_infer_type (λ x. items (g x)) (record n { type_param = record n.type_param { constraint = constraint; default = default_ } }) rest
unfolding node_items ts_part ts_type ts_infer_type ts_type_param type_behind default_type
infer_mapped g asks items b n place = by_two _ (type_behind items (codes "extends")) (type_behind (λ x. items (g x)) (codes "extends")) _ (default_type items) (default_type (λ x. items (g x)))
    (λ c d rest. leading_comments n.span.lo (keyword None (codes "infer") (space (param_of n.type_param (λ z. c (d z)) rest)))) (elim [ None ↦ λ z. refl | Some t ↦ λ z. refl ]) (elim [ None ↦ λ z. refl | Some t ↦ λ z. refl ])

-- `{ readonly [A in B as C]?: D; }`
abbrev mapped_of : {X : Type 0} → TsMappedType X → Part → Part → Part
mapped_of n behind type_ann rest =
    leading_comments n.span.lo (punct (codes "{") (line_end (deeper (signed_readonly n.readonly (punct (codes "[") (ident n.type_param.name (behind (punct (codes "]") (signed_question n.optional (type_ann (semi (line_end (shallower (punct (codes "}") rest))))))))))))))

mapped_mapped : {X Y : Type 0} (g : X → Y) (asks : Y → Answers) (items : Y → Place → Part) (b : Box (TsMappedType X) Global) (n : TsMappedType X) (place : Place) (constraint default_ name_type type_ann : Option (TsTypeBox X)) (rest : Plan) → node_items asks items (map-AnyNode X Y g (as_type (types.TsMappedType (with_value b (record n { type_param = record n.type_param { constraint = constraint; default = default_ }; name_type = name_type; type_ann = type_ann }))))) place rest ≡ ts_mapped_type (λ x. items (g x)) (record n { type_param = record n.type_param { constraint = constraint; default = default_ }; name_type = name_type; type_ann = type_ann }) rest
unfolding node_items ts_part ts_type ts_mapped_type mapped_parts mapped_param mapped_type_ann type_behind default_type
mapped_mapped g asks items b n place =
    by_four _ (type_behind items (codes "in")) (type_behind (λ x. items (g x)) (codes "in")) _ (default_type items) (default_type (λ x. items (g x)))
    _ (type_behind items (codes "as")) (type_behind (λ x. items (g x)) (codes "as")) _ (mapped_type_ann items) (mapped_type_ann (λ x. items (g x)))
    (λ c d a t. mapped_of n (λ z. c (d (a z))) t) (elim [ None ↦ λ z. refl | Some t ↦ λ z. refl ]) (elim [ None ↦ λ z. refl | Some t ↦ λ z. refl ]) (elim [ None ↦ λ z. refl | Some t ↦ λ z. refl ]) (elim [ None ↦ λ z. refl | Some t ↦ λ z. refl ])

predicate_mapped : {X Y : Type 0} (g : X → Y) (asks : Y → Answers) (items : Y → Place → Part) (b : Box (TsTypePredicate X) Global) (n : TsTypePredicate X) (type_ann : Option (TsTypeAnnBox X)) (place : Place) (rest : Plan) → node_items asks items (map-AnyNode X Y g (as_type (types.TsTypePredicate (with_value b (record n { type_ann = type_ann }))))) place rest ≡ ts_type_predicate (λ x. items (g x)) (record n { type_ann = type_ann }) rest
unfolding node_items ts_part ts_type ts_type_predicate is_behind
predicate_mapped g asks items b n None place rest = refl
predicate_mapped g asks items b n (Some t) place rest = refl

type_mapped : {X Y : Type 0} (g : X → Y) (asks : Y → Answers) (items : Y → Place → Part) (n : TsType X) (place : Place) (rest : Plan) → node_items asks items (map-AnyNode X Y g (as_type n)) place rest ≡ ts_type (λ x. asks (g x)) (λ x. items (g x)) n rest
unfolding node_items ts_part ts_type ts_keyword_type ts_this_type ts_array_type ts_optional_type ts_rest_type ts_parenthesized_type ts_type_operator ts_indexed_access_type ts_conditional_type
type_mapped g asks items (types.TsFnOrConstructorType n) place rest = function_mapped g asks items n n.value place rest
type_mapped g asks items (types.TsTypeRef n) place rest = ref_mapped g asks items n n.type_params place rest
type_mapped g asks items (types.TsTypeQuery n) place rest = query_mapped g asks items n n.value n.value.expr_name place rest
type_mapped g asks items (types.TsTypeLit n) place rest = object_mapped g asks items n place rest
type_mapped g asks items (types.TsTupleType n) place rest = tuple_mapped g asks items n place rest
type_mapped g asks items (types.TsUnionOrIntersectionType n) place rest = joined_mapped g asks items n place rest
type_mapped g asks items (types.TsInferType n) place rest = infer_mapped g asks items n n.value place n.value.type_param.constraint n.value.type_param.default rest
type_mapped g asks items (types.TsMappedType n) place rest = mapped_mapped g asks items n n.value place n.value.type_param.constraint n.value.type_param.default n.value.name_type n.value.type_ann rest
type_mapped g asks items (types.TsLitType n) place rest = lit_mapped g asks items n n.value n.value.lit place rest
type_mapped g asks items (types.TsTypePredicate n) place rest = predicate_mapped g asks items n n.value n.value.type_ann place rest
type_mapped g asks items (types.TsImportType n) place rest = import_mapped g asks items n n.value place n.value.qualifier n.value.type_args rest
type_mapped g asks items n place rest = refl

pub ts_part_mapped : {X Y : Type 0} (g : X → Y) (asks : Y → Answers) (items : Y → Place → Part) (n : TsPart X) (place : Place) (rest : Plan) → node_items asks items (map-AnyNode X Y g (nodes.TsPart n)) place rest ≡ ts_part (λ x. asks (g x)) (λ x. items (g x)) n place rest
unfolding node_items ts_part ts_type_ann
ts_part_mapped g asks items (ts_parts.TsType n) place rest = type_mapped g asks items n place rest
ts_part_mapped g asks items (ts_parts.TsTypeParamDecl n) place rest = params_mapped g asks items n place rest
ts_part_mapped g asks items (ts_parts.TsTypeParamInstantiation n) place rest = arguments_mapped g asks items n place rest
ts_part_mapped g asks items (ts_parts.TsFnParam n) place rest = fn_param_mapped g asks items n place rest
ts_part_mapped g asks items (ts_parts.TsInterfaceBody n) place rest = interface_body_mapped g asks items n place rest
ts_part_mapped g asks items (ts_parts.TsEntityName n) place rest = entity_mapped g asks items n place rest
ts_part_mapped g asks items (ts_parts.TsTypeAnn n) (Whole Reference) rest = type_mapped g asks items n.type_ann (Whole Plain) rest
ts_part_mapped g asks items (ts_parts.TsTypeAnn n) place rest = ap (leading_comments n.span.lo) (type_mapped g asks items n.type_ann (Whole Plain) rest)
ts_part_mapped g asks items (ts_parts.TsNamespaceBody n) place rest = namespace_body_mapped g asks items n place rest
