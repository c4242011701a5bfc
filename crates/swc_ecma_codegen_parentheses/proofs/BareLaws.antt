-- Where what links hold was changed, and names stay, what a node is.
use Rattle.std.proofs.Common.{◌≡◌, refl, sym, ap, ◌∙◌}
use Rattle.swc_ecma_codegen_tree.specs.declared.links.AnyNode.{AnyNode, out-AnyNode, roll-AnyNode}
use Rattle.swc_ecma_codegen_visit.specs.Mapped.{map_node}
use Rattle.swc_ecma_codegen_visit.proofs.MapLaws.{step_left}
use Rattle.swc_ecma_codegen_parentheses.specs.Bare.{bare_below, bare_layer}

pub bare_left : (n m : AnyNode) → map_node (λ x. x) bare_below n ≡ map_node (λ x. x) (λ x. x) m → bare_below n ≡ roll-AnyNode (bare_layer (out-AnyNode m))
bare_left n m same = step_left (λ l. roll-AnyNode (bare_layer l)) n m same
