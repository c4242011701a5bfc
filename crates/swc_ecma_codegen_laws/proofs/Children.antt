-- What holds of what is written of each child of a list.
use Rattle.std.proofs.Common.{Bool, false, List, [], ◌∷◌, map}
use Rattle.std.specs.Prelude.{⊤}
use Rattle.swc_ecma_codegen_common.specs.declared.positions.Span.{Span}
use Rattle.swc_ecma_codegen_tokens.specs.Lists.{ListChild}
use Rattle.swc_ecma_codegen_tree.specs.declared.links.AnyNode.{AnyNode}
use Rattle.swc_ecma_codegen_tokens.specs.Run.{Part}
use Rattle.swc_ecma_codegen_emit.specs.declared.nodes.Context.TheVariants.{Plain}
use Rattle.swc_ecma_codegen_emit.specs.Places.{Place, Whole}
use Rattle.swc_ecma_codegen_emit.specs.Lists.{child_of}
use Rattle.swc_ecma_codegen_laws.specs.Breaks.{whole_node}

-- Something is said of parts, where lines may be ended, and inside of what none may be ended in. So it is of what is written of each child.
unfoldable pub ChildrenHold : (Bool → Part → Type 0) → Bool → List ListChild → Type 0
ChildrenHold holds bounded [] = ⊤
ChildrenHold holds bounded (x ∷ xs) = holds bounded x.part × ChildrenHold holds bounded xs

-- and of each of some whole nodes, in which no line may be ended
unfoldable pub NodesHold : (Bool → Part → Type 0) → List AnyNode → Type 0
NodesHold holds [] = ⊤
NodesHold holds (x ∷ xs) = holds false (whole_node x) × NodesHold holds xs

pub children_hold : (holds : Bool → Part → Type 0) (bounded : Bool) {A : Type 0} (place : A → Span) (items : A → Place → Part) → ((x : A) → holds bounded (items x (Whole Plain))) → (xs : List A) → ChildrenHold holds bounded (map (child_of place items) xs)
unfolding ChildrenHold
children_hold holds bounded place items h [] = tt
children_hold holds bounded place items h (x ∷ xs) = (h x, children_hold holds bounded place items h xs)

pub nodes_hold : (holds : Bool → Part → Type 0) {A : Type 0} (node : A → AnyNode) → ((x : A) → holds false (whole_node (node x))) → (xs : List A) → NodesHold holds (map node xs)
unfolding NodesHold
nodes_hold holds node h [] = tt
nodes_hold holds node h (x ∷ xs) = (h x, nodes_hold holds node h xs)
