-- What an arrow function asks of its parameters.
use Rattle.std.specs.Prelude.{◌||◌, is_some, if◌then◌else◌}
use Rattle.swc_ecma_codegen_tree.specs.declared.links.AnyNode.{AnyNode, AnyNode-F, out-AnyNode}
use Rattle.swc_ecma_codegen_tree.specs.declared.links.AnyNode.TheOpen as nodes
use Rattle.swc_ecma_codegen_tree.specs.declared.idents.BindingIdent.{BindingIdent}
use Rattle.swc_ecma_codegen_tree.specs.declared.parts.ExprPart.{ExprPart}
use Rattle.swc_ecma_codegen_tree.specs.declared.parts.ExprPart.TheVariants as expr_parts
use Rattle.swc_ecma_codegen_tree.specs.declared.pats.Pat.{Pat}
use Rattle.swc_ecma_codegen_tree.specs.declared.pats.Pat.TheVariants as pats
use Rattle.swc_ecma_codegen_emit.specs.declared.patterns.PatternKind.{PatternKind}
use Rattle.swc_ecma_codegen_emit.specs.declared.patterns.PatternKind.TheVariants.{PlainName, Name, Marked, Other}

-- `a`, `a?`
unfoldable pub name_kind : {X : Type 0} → BindingIdent X → PatternKind
name_kind n = if n.id.optional || is_some n.type_ann then Name else PlainName

-- `[a]`, `...a` and `{ a }` begin with a mark
unfoldable pub pat_kind : {X : Type 0} → Pat X → PatternKind
pat_kind (pats.Ident n) = name_kind n
pat_kind (pats.Array n) = Marked
pat_kind (pats.Rest n) = Marked
pat_kind (pats.Object n) = Marked
pat_kind n = Other

unfoldable pub part_pattern : {X : Type 0} → ExprPart X → PatternKind
part_pattern (expr_parts.Pat n) = pat_kind n
part_pattern n = Other

unfoldable pub node_pattern : {X : Type 0} → AnyNode-F X → PatternKind
node_pattern (nodes.ExprPart n) = part_pattern n
node_pattern n = Other

unfoldable pub any_pattern : AnyNode → PatternKind
any_pattern n = node_pattern (out-AnyNode n)
