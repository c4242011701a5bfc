-- Which nodes lines may not be ended in, or behind.
use Rattle.std.specs.Prelude.{Bool, true, false}
use Rattle.swc_ecma_codegen_tree.specs.declared.links.AnyNode.{AnyNode, AnyNode-F, out-AnyNode}
use Rattle.swc_ecma_codegen_tree.specs.declared.links.AnyNode.TheOpen as nodes
use Rattle.swc_ecma_codegen_tree.specs.declared.parts.JSXPart.TheVariants as jsx_parts
use Rattle.swc_ecma_codegen_tree.specs.declared.parts.StmtPart.TheVariants as stmt_parts

unfoldable pub element_node : {X : Type 0} → AnyNode-F X → Bool
element_node (nodes.JSXPart (jsx_parts.JSXElement n)) = true
element_node (nodes.JSXPart (jsx_parts.JSXFragment n)) = true
element_node n = false

-- an element or a fragment
unfoldable pub is_element : AnyNode → Bool
is_element n = element_node (out-AnyNode n)

unfoldable pub function_node : {X : Type 0} → AnyNode-F X → Bool
function_node (nodes.StmtPart (stmt_parts.Function n)) = true
function_node n = false

-- a function
unfoldable pub is_function : AnyNode → Bool
is_function n = function_node (out-AnyNode n)
