-- What is written of patterns sees what links hold through `asks` and `items` alone.
use Rattle.std.proofs.Common.{◌≡◌, refl, ◌∙◌, ap, ℕ, List, map, codes, Option, Some, None}
use Rattle.swc_ecma_codegen_common.specs.declared.positions.Span.{Span}
use Rattle.swc_ecma_codegen_tree.specs.declared.links.AnyNode.{map-AnyNode}
use Rattle.swc_ecma_codegen_tree.specs.declared.links.AnyNode.TheOpen as nodes
use Rattle.swc_ecma_codegen_tree.specs.Links.{PatBox, TsTypeAnnBox}
use Rattle.swc_ecma_codegen_tree.specs.declared.exprs.PropName.{PropName}
use Rattle.swc_ecma_codegen_tree.specs.declared.exprs.PropName.TheVariants as prop_names
use Rattle.swc_ecma_codegen_tree.specs.declared.idents.Ident.{Ident}
use Rattle.swc_ecma_codegen_tree.specs.declared.parts.ExprPart.TheVariants as expr_parts
use Rattle.swc_ecma_codegen_tree.specs.declared.pats.Pat.{Pat}
use Rattle.swc_ecma_codegen_tree.specs.declared.pats.Pat.TheVariants as pats
use Rattle.swc_ecma_codegen_tree.specs.declared.pats.ArrayPat.{ArrayPat}
use Rattle.swc_ecma_codegen_tree.specs.declared.pats.ObjectPat.{ObjectPat}
use Rattle.swc_ecma_codegen_tree.specs.declared.pats.RestPat.{RestPat}
use Rattle.swc_ecma_codegen_tree.specs.declared.pats.ObjectPatProp.{ObjectPatProp}
use Rattle.swc_ecma_codegen_tree.specs.declared.pats.AssignTarget.TheVariants as targets
use Rattle.swc_ecma_codegen_tree.specs.declared.pats.AssignTargetPat.{AssignTargetPat}
use Rattle.swc_ecma_codegen_tree.specs.declared.pats.AssignTargetPat.TheVariants as target_pats
use Rattle.swc_ecma_codegen_spans.specs.Spans.{between, option_span, pat_span, prop_name_span, binding_ident_span, object_pat_prop_span, key_value_pat_prop_span, expr_part_span, node_span}
use Rattle.swc_ecma_codegen_grammar.specs.ElementPhrases.{last_is_hole}
use Rattle.swc_ecma_codegen_grammar.proofs.Mapped.{list_mapped, hole_mapped}
use Rattle.swc_ecma_codegen_grammar.proofs.MappedPats.{by_cases}
use Rattle.swc_ecma_codegen_tokens.specs.Run.{Plan, Part, refuse}
use Rattle.swc_ecma_codegen_tokens.specs.Lists.{ListChild, list}
use Rattle.swc_ecma_codegen_tokens.specs.Words.{punct, formatting_space, end_of}
use Rattle.swc_ecma_codegen_emit.specs.declared.nodes.Context.TheVariants.{Plain}
use Rattle.swc_ecma_codegen_emit.specs.Places.{Place, Whole}
use Rattle.swc_ecma_codegen_emit.specs.Annotations.{annotation, spaced_annotation}
use Rattle.swc_ecma_codegen_emit.specs.Answers.{Answers, place_of}
use Rattle.swc_ecma_codegen_emit.specs.Exprs.{opened, computed_prop_name}
use Rattle.swc_ecma_codegen_emit.specs.Lists.{child_at, child_of, if_some_at, unsupported}
use Rattle.swc_ecma_codegen_emit.specs.Names.{binding_ident, prop_name}
use Rattle.swc_ecma_codegen_emit.specs.Pats.{pat_place, pat_items, initializer, array_pat_format, array_pat, rest_pat, assign_pat, key_value_pat_prop, assign_pat_prop, object_pat_prop, object_pat_format, object_pat, pat_parts, pat, assign_target_pat}
use Rattle.swc_ecma_codegen_emit.specs.Parts.{expr_part}
use Rattle.swc_ecma_codegen_emit.specs.Patterns.{name_kind, pat_kind, part_pattern, node_pattern}
use Rattle.swc_ecma_codegen_emit.specs.Targets.{assign_target}
use Rattle.swc_ecma_codegen_emit.specs.Tree.{node_items}

-- ---- lists

option_child : {A B : Type 0} (g : Option A → Option B) (h : A → B) (p : B → Span) (q : A → Span) (i : B → Place → Part) (j : A → Place → Part) → g None ≡ None → ((x : A) → g (Some x) ≡ Some (h x)) → ((x : A) → child_of p i (h x) ≡ child_of q j x) → (o : Option A) → child_of (option_span p) (if_some_at i) (g o) ≡ child_of (option_span q) (if_some_at j) o
unfolding option_span if_some_at
option_child g h p q i j none some same None = ap (child_of (option_span p) (if_some_at i)) none
option_child g h p q i j none some same (Some x) = ap (child_of (option_span p) (if_some_at i)) (some x) ∙ same x

pub elements_mapped : {A B : Type 0} (g : Option A → Option B) (h : A → B) (p : B → Span) (q : A → Span) (i : B → Place → Part) (j : A → Place → Part) → g None ≡ None → ((x : A) → g (Some x) ≡ Some (h x)) → ((x : A) → child_of p i (h x) ≡ child_of q j x) → (parent : Span) (xs : List (Option A)) (after : Plan) → list (array_pat_format (last_is_hole (map g xs))) parent (map (child_of (option_span p) (if_some_at i)) (map g xs)) after ≡ list (array_pat_format (last_is_hole xs)) parent (map (child_of (option_span q) (if_some_at j)) xs) after
elements_mapped g h p q i j none some same parent xs after =
    ap (λ cs. list (array_pat_format (last_is_hole (map g xs))) parent cs after) (list_mapped g (child_of (option_span p) (if_some_at i)) (child_of (option_span q) (if_some_at j)) (option_child g h p q i j none some same) xs)
    ∙ ap (λ b. list (array_pat_format b) parent (map (child_of (option_span q) (if_some_at j)) xs) after) (hole_mapped g h none some xs)

-- a child, by where it stands and what is written of it
pub child_same : (p q : Span) (a b : Part) → p ≡ q → ((rest : Plan) → a rest ≡ b rest) → child_at p a ≡ child_at q b
child_same p q a b e h = λ i. child_at (e i) (λ rest. h rest i)

pub children_mapped : {A B : Type 0} (g : A → B) (e : B → ListChild) (d : A → ListChild) → ((x : A) → e (g x) ≡ d x) → (format : ℕ) (parent : Span) (xs : List A) (after : Plan) → list format parent (map e (map g xs)) after ≡ list format parent (map d xs) after
children_mapped g e d same format parent xs after = ap (λ cs. list format parent cs after) (list_mapped g e d same xs)

-- ---- names of properties

pub prop_name_mapped : {X Y : Type 0} (g : X → Y) (asks : Y → Answers) (items : Y → Place → Part) (n : PropName X) (place : Place) (rest : Plan) → node_items asks items (map-AnyNode X Y g (nodes.ExprPart (expr_parts.PropName n))) place rest ≡ prop_name (λ x. items (g x)) n rest
unfolding node_items expr_part prop_name computed_prop_name
prop_name_mapped g asks items (prop_names.Ident n) place rest = refl
prop_name_mapped g asks items (prop_names.Str n) place rest = refl
prop_name_mapped g asks items (prop_names.Num n) place rest = refl
prop_name_mapped g asks items (prop_names.BigInt n) place rest = refl
prop_name_mapped g asks items (prop_names.Computed n) place rest = refl

-- where it stands
pub prop_name_placed : {X Y : Type 0} (g : X → Y) (asks : Y → Answers) (n : PropName X) → node_span (place_of asks) (map-AnyNode X Y g (nodes.ExprPart (expr_parts.PropName n))) ≡ prop_name_span n
unfolding node_span expr_part_span prop_name_span
prop_name_placed g asks (prop_names.Ident n) = refl
prop_name_placed g asks (prop_names.Str n) = refl
prop_name_placed g asks (prop_names.Num n) = refl
prop_name_placed g asks (prop_names.BigInt n) = refl
prop_name_placed g asks (prop_names.Computed n) = refl

-- `a: b`, by its parts
abbrev key_value_child : (name value : Span) → Part → Part → ListChild
key_value_child name value p v = child_at (between name value) (λ rest. opened name (p (punct (codes ":") (formatting_space (v (end_of value rest))))))

pub key_value_same : (name other value : Span) (p q v : Part) → name ≡ other → ((rest : Plan) → p rest ≡ q rest) → key_value_child name value p v ≡ key_value_child other value q v
key_value_same name other value p q v e h = ap (λ z. key_value_child z value p v) e ∙ ap (λ z. key_value_child other value z v) (λ i. λ rest. h rest i)

-- ---- patterns

ident_mapped : {X Y : Type 0} (g : X → Y) (asks : Y → Answers) (items : Y → Place → Part) (id : Ident) (type_ann : Option (TsTypeAnnBox X)) (place : Place) (rest : Plan) → node_items asks items (map-AnyNode X Y g (nodes.ExprPart (expr_parts.Pat (pats.Ident (record { id = id; type_ann = type_ann }))))) place rest ≡ pat {X = X} (λ x. asks (g x)) (λ x. items (g x)) (pats.Ident (record { id = id; type_ann = type_ann })) rest
unfolding node_items expr_part pat pat_parts pat_span binding_ident_span binding_ident annotation
ident_mapped g asks items id None place rest = refl
ident_mapped g asks items id (Some t) place rest = refl

array_mapped : {X Y : Type 0} (g : X → Y) (asks : Y → Answers) (items : Y → Place → Part) (n : ArrayPat X) (type_ann : Option (TsTypeAnnBox X)) (place : Place) (rest : Plan) → node_items asks items (map-AnyNode X Y g (nodes.ExprPart (expr_parts.Pat (pats.Array (record n { type_ann = type_ann }))))) place rest ≡ pat (λ x. asks (g x)) (λ x. items (g x)) (pats.Array (record n { type_ann = type_ann })) rest
unfolding node_items expr_part pat pat_parts pat_span array_pat spaced_annotation
array_mapped {X} {Y} g asks items n None place rest = ap (λ z. opened n.span (punct (codes "[") z)) (elements_mapped {A = PatBox X} {B = PatBox Y} _ _ (pat_place asks) (pat_place (λ x. asks (g x))) (pat_items items) (pat_items (λ x. items (g x))) refl (λ x. refl) (λ x. refl) n.span n.elems.items _)
array_mapped {X} {Y} g asks items n (Some t) place rest = ap (λ z. opened n.span (punct (codes "[") z)) (elements_mapped {A = PatBox X} {B = PatBox Y} _ _ (pat_place asks) (pat_place (λ x. asks (g x))) (pat_items items) (pat_items (λ x. items (g x))) refl (λ x. refl) (λ x. refl) n.span n.elems.items _)

rest_mapped : {X Y : Type 0} (g : X → Y) (asks : Y → Answers) (items : Y → Place → Part) (n : RestPat X) (type_ann : Option (TsTypeAnnBox X)) (place : Place) (rest : Plan) → node_items asks items (map-AnyNode X Y g (nodes.ExprPart (expr_parts.Pat (pats.Rest (record n { type_ann = type_ann }))))) place rest ≡ pat (λ x. asks (g x)) (λ x. items (g x)) (pats.Rest (record n { type_ann = type_ann })) rest
unfolding node_items expr_part pat pat_parts pat_span rest_pat annotation
rest_mapped g asks items n None place rest = refl
rest_mapped g asks items n (Some t) place rest = refl

object_mapped : {X Y : Type 0} (g : X → Y) (asks : Y → Answers) (items : Y → Place → Part) (n : ObjectPat X) (type_ann : Option (TsTypeAnnBox X)) (place : Place) (rest : Plan) → node_items asks items (map-AnyNode X Y g (nodes.ExprPart (expr_parts.Pat (pats.Object (record n { type_ann = type_ann }))))) place rest ≡ pat (λ x. asks (g x)) (λ x. items (g x)) (pats.Object (record n { type_ann = type_ann })) rest
unfolding node_items node_span expr_part expr_part_span pat pat_parts pat_span object_pat object_pat_prop object_pat_prop_span key_value_pat_prop_span key_value_pat_prop assign_pat_prop rest_pat initializer binding_ident spaced_annotation annotation
object_mapped {X} {Y} g asks items n None place rest =
    ap (λ z. opened n.span (punct (codes "{") z)) (children_mapped {A = ObjectPatProp X} _ _ _ (by_cases {X = X} _
    (λ p. key_value_same _ _ (asks (g p.value.node.value)).place _ _ (items (g p.value.node.value) (Whole Plain)) (prop_name_placed g asks p.key) (prop_name_mapped g asks items p.key (Whole Plain))) (λ span id. refl) (λ span id x. refl) (λ span id t. refl) (λ span id t x. refl) (λ span dots arg. refl) (λ span dots arg t. refl)) object_pat_format n.span n.props.items _)
object_mapped {X} {Y} g asks items n (Some t) place rest =
    ap (λ z. opened n.span (punct (codes "{") z)) (children_mapped {A = ObjectPatProp X} _ _ _ (by_cases {X = X} _
    (λ p. key_value_same _ _ (asks (g p.value.node.value)).place _ _ (items (g p.value.node.value) (Whole Plain)) (prop_name_placed g asks p.key) (prop_name_mapped g asks items p.key (Whole Plain))) (λ span id. refl) (λ span id x. refl) (λ span id t. refl) (λ span id t x. refl) (λ span dots arg. refl) (λ span dots arg t. refl)) object_pat_format n.span n.props.items _)

pub pat_mapped : {X Y : Type 0} (g : X → Y) (asks : Y → Answers) (items : Y → Place → Part) (n : Pat X) (place : Place) (rest : Plan) → node_items asks items (map-AnyNode X Y g (nodes.ExprPart (expr_parts.Pat n))) place rest ≡ pat (λ x. asks (g x)) (λ x. items (g x)) n rest
unfolding node_items expr_part pat pat_parts pat_span assign_pat unsupported refuse
pat_mapped g asks items (pats.Ident n) place rest = ident_mapped g asks items n.id n.type_ann place rest
pat_mapped g asks items (pats.Array n) place rest = array_mapped g asks items n n.type_ann place rest
pat_mapped g asks items (pats.Rest n) place rest = rest_mapped g asks items n n.type_ann place rest
pat_mapped g asks items (pats.Object n) place rest = object_mapped g asks items n n.type_ann place rest
pat_mapped g asks items (pats.Assign n) place rest = refl
pat_mapped g asks items (pats.Invalid n) place rest = refl
pat_mapped g asks items (pats.Expr n) place rest = refl

name_kind_mapped : {X Y : Type 0} (g : X → Y) (id : Ident) (type_ann : Option (TsTypeAnnBox X)) → node_pattern (map-AnyNode X Y g (nodes.ExprPart (expr_parts.Pat (pats.Ident (record { id = id; type_ann = type_ann }))))) ≡ pat_kind {X = X} (pats.Ident (record { id = id; type_ann = type_ann }))
unfolding node_pattern part_pattern pat_kind name_kind
name_kind_mapped g id None = refl
name_kind_mapped g id (Some t) = refl

-- what it begins with
pub pat_kind_mapped : {X Y : Type 0} (g : X → Y) (n : Pat X) → node_pattern (map-AnyNode X Y g (nodes.ExprPart (expr_parts.Pat n))) ≡ pat_kind n
unfolding node_pattern part_pattern pat_kind
pat_kind_mapped g (pats.Ident n) = name_kind_mapped g n.id n.type_ann
pat_kind_mapped g n = refl

-- ---- what is assigned to

target_array_mapped : {X Y : Type 0} (g : X → Y) (asks : Y → Answers) (items : Y → Place → Part) (n : ArrayPat X) (type_ann : Option (TsTypeAnnBox X)) (place : Place) (rest : Plan) → node_items asks items (map-AnyNode X Y g (nodes.ExprPart (expr_parts.AssignTarget (targets.Pat (target_pats.Array (record n { type_ann = type_ann })))))) place rest ≡ array_pat (λ x. asks (g x)) (λ x. items (g x)) (record n { type_ann = type_ann }) rest
unfolding node_items expr_part assign_target assign_target_pat array_pat spaced_annotation
target_array_mapped {X} {Y} g asks items n None place rest = ap (λ z. opened n.span (punct (codes "[") z)) (elements_mapped {A = PatBox X} {B = PatBox Y} _ _ (pat_place asks) (pat_place (λ x. asks (g x))) (pat_items items) (pat_items (λ x. items (g x))) refl (λ x. refl) (λ x. refl) n.span n.elems.items _)
target_array_mapped {X} {Y} g asks items n (Some t) place rest = ap (λ z. opened n.span (punct (codes "[") z)) (elements_mapped {A = PatBox X} {B = PatBox Y} _ _ (pat_place asks) (pat_place (λ x. asks (g x))) (pat_items items) (pat_items (λ x. items (g x))) refl (λ x. refl) (λ x. refl) n.span n.elems.items _)

target_object_mapped : {X Y : Type 0} (g : X → Y) (asks : Y → Answers) (items : Y → Place → Part) (n : ObjectPat X) (type_ann : Option (TsTypeAnnBox X)) (place : Place) (rest : Plan) → node_items asks items (map-AnyNode X Y g (nodes.ExprPart (expr_parts.AssignTarget (targets.Pat (target_pats.Object (record n { type_ann = type_ann })))))) place rest ≡ object_pat (λ x. asks (g x)) (λ x. items (g x)) (record n { type_ann = type_ann }) rest
unfolding node_items node_span expr_part expr_part_span assign_target assign_target_pat object_pat object_pat_prop object_pat_prop_span key_value_pat_prop_span key_value_pat_prop assign_pat_prop rest_pat initializer binding_ident spaced_annotation annotation
target_object_mapped {X} {Y} g asks items n None place rest =
    ap (λ z. opened n.span (punct (codes "{") z)) (children_mapped {A = ObjectPatProp X} _ _ _ (by_cases {X = X} _
    (λ p. key_value_same _ _ (asks (g p.value.node.value)).place _ _ (items (g p.value.node.value) (Whole Plain)) (prop_name_placed g asks p.key) (prop_name_mapped g asks items p.key (Whole Plain))) (λ span id. refl) (λ span id x. refl) (λ span id t. refl) (λ span id t x. refl) (λ span dots arg. refl) (λ span dots arg t. refl)) object_pat_format n.span n.props.items _)
target_object_mapped {X} {Y} g asks items n (Some t) place rest =
    ap (λ z. opened n.span (punct (codes "{") z)) (children_mapped {A = ObjectPatProp X} _ _ _ (by_cases {X = X} _
    (λ p. key_value_same _ _ (asks (g p.value.node.value)).place _ _ (items (g p.value.node.value) (Whole Plain)) (prop_name_placed g asks p.key) (prop_name_mapped g asks items p.key (Whole Plain))) (λ span id. refl) (λ span id x. refl) (λ span id t. refl) (λ span id t x. refl) (λ span dots arg. refl) (λ span dots arg t. refl)) object_pat_format n.span n.props.items _)

pub target_pat_mapped : {X Y : Type 0} (g : X → Y) (asks : Y → Answers) (items : Y → Place → Part) (n : AssignTargetPat X) (place : Place) (rest : Plan) → node_items asks items (map-AnyNode X Y g (nodes.ExprPart (expr_parts.AssignTarget (targets.Pat n)))) place rest ≡ assign_target_pat (λ x. asks (g x)) (λ x. items (g x)) n rest
unfolding node_items expr_part assign_target assign_target_pat unsupported refuse
target_pat_mapped g asks items (target_pats.Array n) place rest = target_array_mapped g asks items n n.type_ann place rest
target_pat_mapped g asks items (target_pats.Object n) place rest = target_object_mapped g asks items n n.type_ann place rest
target_pat_mapped g asks items (target_pats.Invalid n) place rest = refl
