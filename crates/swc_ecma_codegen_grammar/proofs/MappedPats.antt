-- The productions of patterns see what links hold through f alone.
use Rattle.std.proofs.Common.{◌≡◌, refl, ◌∙◌, ap, List, map, codes, Bool, cond, Option, Some, None}
use Rattle.swc_ecma_codegen_common.specs.declared.positions.Span.{Span}
use Rattle.swc_ecma_codegen_tree.specs.declared.links.AnyNode.{map-AnyNode}
use Rattle.swc_ecma_codegen_tree.specs.declared.links.AnyNode.TheOpen as nodes
use Rattle.swc_ecma_codegen_tree.specs.Links.{ExprBox, PatBox, TsTypeAnnBox}
use Rattle.swc_ecma_codegen_tree.specs.declared.idents.Ident.{Ident}
use Rattle.swc_ecma_codegen_tree.specs.declared.parts.ExprPart.TheVariants as expr_parts
use Rattle.swc_ecma_codegen_tree.specs.declared.pats.Pat.{Pat}
use Rattle.swc_ecma_codegen_tree.specs.declared.pats.Pat.TheVariants as pats
use Rattle.swc_ecma_codegen_tree.specs.declared.pats.ArrayPat.{ArrayPat}
use Rattle.swc_ecma_codegen_tree.specs.declared.pats.ObjectPat.{ObjectPat}
use Rattle.swc_ecma_codegen_tree.specs.declared.pats.RestPat.{RestPat}
use Rattle.swc_ecma_codegen_tree.specs.declared.pats.ObjectPatProp.{ObjectPatProp}
use Rattle.swc_ecma_codegen_tree.specs.declared.pats.ObjectPatProp.TheVariants as pat_props
use Rattle.swc_ecma_codegen_tree.specs.declared.pats.KeyValuePatProp.{KeyValuePatProp}
use Rattle.swc_ecma_codegen_tree.specs.declared.pats.AssignTarget.TheVariants as targets
use Rattle.swc_ecma_codegen_tree.specs.declared.pats.AssignTargetPat.{AssignTargetPat}
use Rattle.swc_ecma_codegen_tree.specs.declared.pats.AssignTargetPat.TheVariants as target_pats
use Rattle.swc_ecma_codegen_grammar.specs.Phrases.{Phrase, RightBracket, RightBrace, ◌>◌, mark, listed}
use Rattle.swc_ecma_codegen_grammar.specs.declared.roles.Role.{Role}
use Rattle.swc_ecma_codegen_grammar.specs.declared.roles.Role.TheVariants.{Pattern, PlainParameter, AssignmentTarget}
use Rattle.swc_ecma_codegen_grammar.specs.ElementPhrases.{element, last_is_hole, elements_end, closing_of}
use Rattle.swc_ecma_codegen_grammar.specs.AnnotationPhrases.{annotation}
use Rattle.swc_ecma_codegen_grammar.specs.NamePhrases.{binding_ident}
use Rattle.swc_ecma_codegen_grammar.specs.PatPhrases.{pat_at, initializer, array_pat, rest_pat, assign_pat, key_value_pat_prop, assign_pat_prop, object_pat_prop, object_pat, pat, plain_name, plain_parameter, assign_target_pat}
use Rattle.swc_ecma_codegen_grammar.specs.AssignPhrases.{assign_target}
use Rattle.swc_ecma_codegen_grammar.specs.PartPhrases.{expr_part}
use Rattle.swc_ecma_codegen_grammar.specs.TreePhrases.{node_phrase}
use Rattle.swc_ecma_codegen_grammar.proofs.Mapped.{list_mapped, element_mapped, hole_mapped, closing_mapped}
use Rattle.swc_ecma_codegen_grammar.proofs.MappedKeys.{prop_name_mapped}

-- ---- elements and properties

abbrev pub bracketed : List Phrase → Bool → Phrase → Phrase → Phrase
bracketed ps hole tail typed = mark (codes "[") > listed (codes ",") ps > cond hole (mark (codes ",") > mark (codes "]")) tail > typed

pub elements_mapped : {X Y : Type 0} (g : Option (PatBox X) → Option (PatBox Y)) (h : PatBox X → PatBox Y) (f : Y → Role → Phrase) (d : X → Role → Phrase) (typed : Phrase) → g None ≡ None → ((x : PatBox X) → g (Some x) ≡ Some (h x)) → ((x : PatBox X) → pat_at f (h x) ≡ pat_at d x) → (xs : List (Option (PatBox X))) → bracketed (map (element (pat_at f)) (map g xs)) (last_is_hole (map g xs)) (closing_of RightBracket (map g xs)) typed ≡ bracketed (map (element (pat_at d)) xs) (last_is_hole xs) (closing_of RightBracket xs) typed
elements_mapped g h f d typed none some same xs =
    ap (λ ps. bracketed ps (last_is_hole (map g xs)) (closing_of RightBracket (map g xs)) typed) (list_mapped g (element (pat_at f)) (element (pat_at d)) (element_mapped g h (pat_at f) (pat_at d) none some same) xs)
    ∙ ap (λ b. bracketed (map (element (pat_at d)) xs) b (closing_of RightBracket (map g xs)) typed) (hole_mapped g h none some xs)
    ∙ ap (λ c. bracketed (map (element (pat_at d)) xs) (last_is_hole xs) c typed) (closing_mapped RightBracket g xs)

-- what holds of each property, by what is there, holds of all
assign_by : {X : Type 0} (P : ObjectPatProp X → Type 0)
    → ((span : Span) (id : Ident) → P (pat_props.Assign (record { span = span; key = record { id = id; type_ann = None }; value = None })))
    → ((span : Span) (id : Ident) (value : ExprBox X) → P (pat_props.Assign (record { span = span; key = record { id = id; type_ann = None }; value = Some value })))
    → ((span : Span) (id : Ident) (t : TsTypeAnnBox X) → P (pat_props.Assign (record { span = span; key = record { id = id; type_ann = Some t }; value = None })))
    → ((span : Span) (id : Ident) (t : TsTypeAnnBox X) (value : ExprBox X) → P (pat_props.Assign (record { span = span; key = record { id = id; type_ann = Some t }; value = Some value })))
    → (span : Span) (id : Ident) (type_ann : Option (TsTypeAnnBox X)) (value : Option (ExprBox X)) → P (pat_props.Assign (record { span = span; key = record { id = id; type_ann = type_ann }; value = value }))
assign_by P plain valued typed both span id None None = plain span id
assign_by P plain valued typed both span id None (Some x) = valued span id x
assign_by P plain valued typed both span id (Some t) None = typed span id t
assign_by P plain valued typed both span id (Some t) (Some x) = both span id t x

rest_by : {X : Type 0} (P : RestPat X → Type 0)
    → ((span : Span) (dots : Span) (arg : PatBox X) → P (record { span = span; dot3_token = dots; arg = arg; type_ann = None }))
    → ((span : Span) (dots : Span) (arg : PatBox X) (t : TsTypeAnnBox X) → P (record { span = span; dot3_token = dots; arg = arg; type_ann = Some t }))
    → (span : Span) (dots : Span) (arg : PatBox X) (type_ann : Option (TsTypeAnnBox X)) → P (record { span = span; dot3_token = dots; arg = arg; type_ann = type_ann })
rest_by P plain typed span dots arg None = plain span dots arg
rest_by P plain typed span dots arg (Some t) = typed span dots arg t

each_prop : {X : Type 0} (P : ObjectPatProp X → Type 0)
    → ((n : KeyValuePatProp X) → P (pat_props.KeyValue n))
    → ((span : Span) (id : Ident) (type_ann : Option (TsTypeAnnBox X)) (value : Option (ExprBox X)) → P (pat_props.Assign (record { span = span; key = record { id = id; type_ann = type_ann }; value = value })))
    → ((span : Span) (dots : Span) (arg : PatBox X) (type_ann : Option (TsTypeAnnBox X)) → P (pat_props.Rest (record { span = span; dot3_token = dots; arg = arg; type_ann = type_ann })))
    → (n : ObjectPatProp X) → P n
each_prop P key_value assign rest (pat_props.KeyValue n) = key_value n
each_prop P key_value assign rest (pat_props.Assign n) = assign n.span n.key.id n.key.type_ann n.value
each_prop P key_value assign rest (pat_props.Rest n) = rest n.span n.dot3_token n.arg n.type_ann

pub by_cases : {X : Type 0} (P : ObjectPatProp X → Type 0)
    → ((n : KeyValuePatProp X) → P (pat_props.KeyValue n))
    → ((span : Span) (id : Ident) → P (pat_props.Assign (record { span = span; key = record { id = id; type_ann = None }; value = None })))
    → ((span : Span) (id : Ident) (value : ExprBox X) → P (pat_props.Assign (record { span = span; key = record { id = id; type_ann = None }; value = Some value })))
    → ((span : Span) (id : Ident) (t : TsTypeAnnBox X) → P (pat_props.Assign (record { span = span; key = record { id = id; type_ann = Some t }; value = None })))
    → ((span : Span) (id : Ident) (t : TsTypeAnnBox X) (value : ExprBox X) → P (pat_props.Assign (record { span = span; key = record { id = id; type_ann = Some t }; value = Some value })))
    → ((span : Span) (dots : Span) (arg : PatBox X) → P (pat_props.Rest (record { span = span; dot3_token = dots; arg = arg; type_ann = None })))
    → ((span : Span) (dots : Span) (arg : PatBox X) (t : TsTypeAnnBox X) → P (pat_props.Rest (record { span = span; dot3_token = dots; arg = arg; type_ann = Some t })))
    → (n : ObjectPatProp X) → P n
by_cases P key_value plain valued typed both rest typed_rest =
    each_prop P key_value (assign_by P plain valued typed both) (rest_by (λ n. P (pat_props.Rest n)) rest typed_rest)

pub props_mapped : {X Y : Type 0} (g : ObjectPatProp X → ObjectPatProp Y) (f : Y → Role → Phrase) (d : X → Role → Phrase) (typed : Phrase) → ((n : ObjectPatProp X) → object_pat_prop f (g n) ≡ object_pat_prop d n) → (xs : List (ObjectPatProp X)) → (mark (codes "{") > listed (codes ",") (map (object_pat_prop f) (map g xs)) > closing_of RightBrace (map g xs) > typed) ≡ (mark (codes "{") > listed (codes ",") (map (object_pat_prop d) xs) > closing_of RightBrace xs > typed)
props_mapped g f d typed same xs =
    ap (λ ps. mark (codes "{") > listed (codes ",") ps > closing_of RightBrace (map g xs) > typed) (list_mapped g (object_pat_prop f) (object_pat_prop d) same xs)
    ∙ ap (λ c. mark (codes "{") > listed (codes ",") (map (object_pat_prop d) xs) > c > typed) (closing_mapped RightBrace g xs)

-- ---- patterns

ident_mapped : {X Y : Type 0} (g : X → Y) (f : Y → Role → Phrase) (id : Ident) (type_ann : Option (TsTypeAnnBox X)) → node_phrase f (map-AnyNode X Y g (nodes.ExprPart (expr_parts.Pat (pats.Ident (record { id = id; type_ann = type_ann }))))) Pattern ≡ binding_ident (λ x. f (g x)) (record { id = id; type_ann = type_ann })
unfolding node_phrase expr_part pat binding_ident annotation
ident_mapped g f id None = refl
ident_mapped g f id (Some t) = refl

array_mapped : {X Y : Type 0} (g : X → Y) (f : Y → Role → Phrase) (n : ArrayPat X) (type_ann : Option (TsTypeAnnBox X)) → node_phrase f (map-AnyNode X Y g (nodes.ExprPart (expr_parts.Pat (pats.Array (record n { type_ann = type_ann }))))) Pattern ≡ array_pat (λ x. f (g x)) (record n { type_ann = type_ann })
unfolding node_phrase expr_part pat array_pat elements_end annotation
array_mapped {X} {Y} g f n None = elements_mapped {X = X} {Y = Y} _ _ f (λ x. f (g x)) _ refl (λ x. refl) (λ x. refl) n.elems.items
array_mapped {X} {Y} g f n (Some t) = elements_mapped {X = X} {Y = Y} _ _ f (λ x. f (g x)) _ refl (λ x. refl) (λ x. refl) n.elems.items

rest_mapped : {X Y : Type 0} (g : X → Y) (f : Y → Role → Phrase) (n : RestPat X) (type_ann : Option (TsTypeAnnBox X)) → node_phrase f (map-AnyNode X Y g (nodes.ExprPart (expr_parts.Pat (pats.Rest (record n { type_ann = type_ann }))))) Pattern ≡ rest_pat (λ x. f (g x)) (record n { type_ann = type_ann })
unfolding node_phrase expr_part pat rest_pat annotation
rest_mapped g f n None = refl
rest_mapped g f n (Some t) = refl

object_mapped : {X Y : Type 0} (g : X → Y) (f : Y → Role → Phrase) (n : ObjectPat X) (type_ann : Option (TsTypeAnnBox X)) → node_phrase f (map-AnyNode X Y g (nodes.ExprPart (expr_parts.Pat (pats.Object (record n { type_ann = type_ann }))))) Pattern ≡ object_pat (λ x. f (g x)) (record n { type_ann = type_ann })
unfolding node_phrase expr_part pat object_pat object_pat_prop key_value_pat_prop assign_pat_prop rest_pat initializer binding_ident annotation
object_mapped {X} {Y} g f n None = props_mapped {X = X} {Y = Y} _ f (λ x. f (g x)) _ (by_cases {X = X} _
    (λ p. ap (λ z. z > mark (codes ":") > pat_at (λ x. f (g x)) p.value) (prop_name_mapped g f p.key)) (λ span id. refl) (λ span id x. refl) (λ span id t. refl) (λ span id t x. refl) (λ span dots arg. refl) (λ span dots arg t. refl)) n.props.items
object_mapped {X} {Y} g f n (Some t) = props_mapped {X = X} {Y = Y} _ f (λ x. f (g x)) _ (by_cases {X = X} _
    (λ p. ap (λ z. z > mark (codes ":") > pat_at (λ x. f (g x)) p.value) (prop_name_mapped g f p.key)) (λ span id. refl) (λ span id x. refl) (λ span id t. refl) (λ span id t x. refl) (λ span dots arg. refl) (λ span dots arg t. refl)) n.props.items

pub pat_mapped : {X Y : Type 0} (g : X → Y) (f : Y → Role → Phrase) (n : Pat X) → node_phrase f (map-AnyNode X Y g (nodes.ExprPart (expr_parts.Pat n))) Pattern ≡ pat (λ x. f (g x)) n
unfolding node_phrase expr_part pat assign_pat
pat_mapped g f (pats.Ident n) = ident_mapped g f n.id n.type_ann
pat_mapped g f (pats.Array n) = array_mapped g f n n.type_ann
pat_mapped g f (pats.Rest n) = rest_mapped g f n n.type_ann
pat_mapped g f (pats.Object n) = object_mapped g f n n.type_ann
pat_mapped g f (pats.Assign n) = refl
pat_mapped g f (pats.Invalid n) = refl
pat_mapped g f (pats.Expr n) = refl

plain_name_mapped : {X Y : Type 0} (g : X → Y) (f : Y → Role → Phrase) (id : Ident) (type_ann : Option (TsTypeAnnBox X)) → node_phrase f (map-AnyNode X Y g (nodes.ExprPart (expr_parts.Pat (pats.Ident (record { id = id; type_ann = type_ann }))))) PlainParameter ≡ plain_name (λ x. f (g x)) (record { id = id; type_ann = type_ann })
unfolding node_phrase expr_part plain_parameter plain_name binding_ident annotation
plain_name_mapped g f id None = refl
plain_name_mapped g f id (Some t) = refl

pub plain_mapped : {X Y : Type 0} (g : X → Y) (f : Y → Role → Phrase) (n : Pat X) → node_phrase f (map-AnyNode X Y g (nodes.ExprPart (expr_parts.Pat n))) PlainParameter ≡ plain_parameter (λ x. f (g x)) n
unfolding node_phrase expr_part plain_parameter
plain_mapped g f (pats.Ident n) = plain_name_mapped g f n.id n.type_ann
plain_mapped g f n = refl

-- ---- what is assigned to

target_array_mapped : {X Y : Type 0} (g : X → Y) (f : Y → Role → Phrase) (n : ArrayPat X) (type_ann : Option (TsTypeAnnBox X)) → node_phrase f (map-AnyNode X Y g (nodes.ExprPart (expr_parts.AssignTarget (targets.Pat (target_pats.Array (record n { type_ann = type_ann })))))) AssignmentTarget ≡ array_pat (λ x. f (g x)) (record n { type_ann = type_ann })
unfolding node_phrase expr_part assign_target assign_target_pat array_pat elements_end annotation
target_array_mapped {X} {Y} g f n None = elements_mapped {X = X} {Y = Y} _ _ f (λ x. f (g x)) _ refl (λ x. refl) (λ x. refl) n.elems.items
target_array_mapped {X} {Y} g f n (Some t) = elements_mapped {X = X} {Y = Y} _ _ f (λ x. f (g x)) _ refl (λ x. refl) (λ x. refl) n.elems.items

target_object_mapped : {X Y : Type 0} (g : X → Y) (f : Y → Role → Phrase) (n : ObjectPat X) (type_ann : Option (TsTypeAnnBox X)) → node_phrase f (map-AnyNode X Y g (nodes.ExprPart (expr_parts.AssignTarget (targets.Pat (target_pats.Object (record n { type_ann = type_ann })))))) AssignmentTarget ≡ object_pat (λ x. f (g x)) (record n { type_ann = type_ann })
unfolding node_phrase expr_part assign_target assign_target_pat object_pat object_pat_prop key_value_pat_prop assign_pat_prop rest_pat initializer binding_ident annotation
target_object_mapped {X} {Y} g f n None = props_mapped {X = X} {Y = Y} _ f (λ x. f (g x)) _ (by_cases {X = X} _
    (λ p. ap (λ z. z > mark (codes ":") > pat_at (λ x. f (g x)) p.value) (prop_name_mapped g f p.key)) (λ span id. refl) (λ span id x. refl) (λ span id t. refl) (λ span id t x. refl) (λ span dots arg. refl) (λ span dots arg t. refl)) n.props.items
target_object_mapped {X} {Y} g f n (Some t) = props_mapped {X = X} {Y = Y} _ f (λ x. f (g x)) _ (by_cases {X = X} _
    (λ p. ap (λ z. z > mark (codes ":") > pat_at (λ x. f (g x)) p.value) (prop_name_mapped g f p.key)) (λ span id. refl) (λ span id x. refl) (λ span id t. refl) (λ span id t x. refl) (λ span dots arg. refl) (λ span dots arg t. refl)) n.props.items

pub target_pat_mapped : {X Y : Type 0} (g : X → Y) (f : Y → Role → Phrase) (n : AssignTargetPat X) → node_phrase f (map-AnyNode X Y g (nodes.ExprPart (expr_parts.AssignTarget (targets.Pat n)))) AssignmentTarget ≡ assign_target_pat (λ x. f (g x)) n
unfolding node_phrase expr_part assign_target assign_target_pat
target_pat_mapped g f (target_pats.Array n) = target_array_mapped g f n n.type_ann
target_pat_mapped g f (target_pats.Object n) = target_object_mapped g f n n.type_ann
target_pat_mapped g f (target_pats.Invalid n) = refl
