-- Whole trees with each name, or each node, as something else.
use Rattle.swc_ecma_codegen_tree.specs.declared.idents.Ident.{Ident}
use Rattle.swc_ecma_codegen_tree.specs.declared.links.AnyNode.{AnyNode, AnyNode-F, fold-AnyNode, roll-AnyNode}
use Rattle.swc_ecma_codegen_tree.specs.declared.programs.Program.{Program}
use Rattle.swc_ecma_codegen_visit.specs.Mapped.{map_layer}
use Rattle.swc_ecma_codegen_visit.specs.MappedModules.{map_program}

-- a node and all below it, with `g` of each name
unfoldable pub each_ident : (Ident → Ident) → AnyNode → AnyNode
each_ident g = fold-AnyNode AnyNode (λ n. roll-AnyNode (map_layer g (λ x. x) n))

-- a node and all below it, where each became what `step` makes of it once its links hold what those below became
unfoldable pub each_node : (AnyNode-F AnyNode → AnyNode) → AnyNode → AnyNode
each_node step = fold-AnyNode AnyNode step

-- a program with `g` of each name
abbrev pub with_idents : (Ident → Ident) → Program AnyNode → Program AnyNode
with_idents g program = map_program g (each_ident g) program

-- a program where each node that a link holds became what `step` makes of it
abbrev pub with_nodes : (AnyNode-F AnyNode → AnyNode) → Program AnyNode → Program AnyNode
with_nodes step program = map_program (λ x. x) (each_node step) program
