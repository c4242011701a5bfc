-- What is written of objects and their properties sees what links hold through `asks` and `items` alone.
use Rattle.std.proofs.Common.{◌≡◌, refl, ◌∙◌, ap, List, codes, Bool}
use Rattle.swc_ecma_codegen_common.specs.declared.positions.Span.{Span}
use Rattle.swc_ecma_codegen_tree.specs.declared.links.AnyNode.{map-AnyNode}
use Rattle.swc_ecma_codegen_tree.specs.declared.links.AnyNode.TheOpen as nodes
use Rattle.swc_ecma_codegen_tree.specs.declared.parts.ExprPart.TheVariants as expr_parts
use Rattle.swc_ecma_codegen_tree.specs.declared.exprs.ObjectLit.{ObjectLit}
use Rattle.swc_ecma_codegen_tree.specs.declared.exprs.PropOrSpread.{PropOrSpread}
use Rattle.swc_ecma_codegen_spans.specs.Spans.{between, key_value_prop_span, assign_prop_span, method_prop_span, prop_span, prop_or_spread_span, spread_element_span, expr_part_span, node_span}
use Rattle.swc_ecma_codegen_grammar.proofs.Mapped.{list_mapped}
use Rattle.swc_ecma_codegen_grammar.proofs.MappedFunctions.{some_mapped}
use Rattle.swc_ecma_codegen_grammar.proofs.MappedProps.{by_prop, each_prop}
use Rattle.swc_ecma_codegen_tokens.specs.Run.{Plan, Part}
use Rattle.swc_ecma_codegen_tokens.specs.Lists.{ListChild}
use Rattle.swc_ecma_codegen_tokens.specs.Words.{punct, formatting_space}
use Rattle.swc_ecma_codegen_emit.specs.declared.nodes.Context.TheVariants.{Plain}
use Rattle.swc_ecma_codegen_emit.specs.declared.nodes.Piece.TheVariants.{MethodHead, DeclarationTail}
use Rattle.swc_ecma_codegen_emit.specs.Places.{Place, Whole, Only}
use Rattle.swc_ecma_codegen_emit.specs.Answers.{Answers, place_of}
use Rattle.swc_ecma_codegen_emit.specs.Exprs.{opened, spread_element}
use Rattle.swc_ecma_codegen_emit.specs.Lists.{child_at, child_of}
use Rattle.swc_ecma_codegen_emit.specs.Parts.{expr_part}
use Rattle.swc_ecma_codegen_emit.specs.Props.{key_end, value_start, key_value_prop, assign_prop, accessor, optional_body, tight_annotation, getter_prop, this_param, setter_prop, method_prop, prop, prop_or_spread, object_children, object_by_maps, object_lit}
use Rattle.swc_ecma_codegen_emit.specs.Tree.{node_items}
use Rattle.swc_ecma_codegen_emit.proofs.MappedPats.{prop_name_mapped, prop_name_placed}

-- `a: b`, by its parts
abbrev key_value_child : (name value : Span) → Part → Part → ListChild
key_value_child name value p v = child_at (between name value) (λ rest. opened name (p (key_end name value (punct (codes ":") (formatting_space (value_start name value (v rest)))))))

key_value_same : (name other value : Span) (p q v : Part) → name ≡ other → ((rest : Plan) → p rest ≡ q rest) → key_value_child name value p v ≡ key_value_child other value q v
key_value_same name other value p q v e h = ap (λ z. key_value_child z value p v) e ∙ ap (λ z. key_value_child other value z v) (λ i. λ rest. h rest i)

-- `a() { b; }`, by its parts
abbrev method_child : (name function : Span) → Part → Part → Part → ListChild
method_child name function head p tail = child_at (between name function) (λ rest. opened name (head (p (formatting_space (tail rest)))))

method_same : (name other function : Span) (head p q tail : Part) → name ≡ other → ((rest : Plan) → p rest ≡ q rest) → method_child name function head p tail ≡ method_child other function head q tail
method_same name other function head p q tail e h = ap (λ z. method_child z function head p tail) e ∙ ap (λ z. method_child other function head z tail) (λ i. λ rest. h rest i)

object_same : {X : Type 0} (n : ObjectLit X) (some other : Bool) (cs ds : List ListChild) (after : Plan) → some ≡ other → cs ≡ ds → opened n.span (punct (codes "{") (object_by_maps some n.span cs after)) ≡ opened n.span (punct (codes "{") (object_by_maps other n.span ds after))
object_same n some other cs ds after e h =
    ap (λ z. opened n.span (punct (codes "{") (object_by_maps z n.span cs after))) e ∙ ap (λ z. opened n.span (punct (codes "{") (object_by_maps other n.span z after))) h

pub object_lit_mapped : {X Y : Type 0} (g : X → Y) (asks : Y → Answers) (items : Y → Place → Part) (n : ObjectLit X) (place : Place) (rest : Plan) → node_items asks items (map-AnyNode X Y g (nodes.ExprPart (expr_parts.ObjectLit n))) place rest ≡ object_lit (λ x. asks (g x)) (λ x. items (g x)) n rest
unfolding node_items node_span expr_part expr_part_span object_lit object_children prop_or_spread prop_or_spread_span spread_element spread_element_span prop prop_span key_value_prop key_value_prop_span assign_prop assign_prop_span getter_prop tight_annotation setter_prop this_param method_prop method_prop_span accessor optional_body
object_lit_mapped {X} g asks items n place rest = object_same n _ _ _ _ _ (some_mapped _ n.props.items) (list_mapped {A = PropOrSpread X} _ _ (child_of (prop_or_spread_span (place_of (λ x. asks (g x)))) (λ p place. prop_or_spread (λ x. asks (g x)) (λ x. items (g x)) p)) (each_prop {X = X} _ (λ m. refl) (by_prop {X = X} _
    (λ m. refl) (λ m. key_value_same _ _ (asks (g m.value.node.value)).place _ _ (items (g m.value.node.value) (Whole Plain)) (prop_name_placed g asks m.key) (prop_name_mapped g asks items m.key (Whole Plain)))
    (λ m. refl) (λ m. refl) (λ m body. refl) (λ m t. refl) (λ m t body. refl) (λ m. refl) (λ m body. refl) (λ m this. refl) (λ m this body. refl)
    (λ m. method_same _ _ (asks (g m.function.node.value)).place (items (g m.function.node.value) (Only MethodHead)) _ _ (items (g m.function.node.value) (Only DeclarationTail)) (prop_name_placed g asks m.key) (prop_name_mapped g asks items m.key (Whole Plain))))) n.props.items)
