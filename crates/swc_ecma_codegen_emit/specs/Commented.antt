-- Whether a line ends in or after a comment before one of the leftmost parts of an expression: `return (// a` LF `b)`. Words for
-- a node take what they ask of what its links hold: where it stands, and what it answers to this.
use Rattle.std.specs.Prelude.{◌==◌, ◌-◌, if◌then◌else◌, Bool, false, not, ◌||◌, List, [], ◌∷◌, is_some}
use Rattle.swc_ecma_codegen_grammar.specs.CommentMaps.{Maps}
use Rattle.swc_ecma_codegen_grammar.specs.Comments.{Leading, comments_at, remarks_of, all_tame}
use Rattle.swc_ecma_codegen_common.specs.declared.positions.Span.{Span}
use Rattle.swc_ecma_codegen_spans.specs.Spans.{any_span, expr_span}
use Rattle.swc_ecma_codegen_tree.specs.declared.links.AnyNode.{AnyNode, AnyNode-F}
use Rattle.swc_ecma_codegen_tree.specs.declared.links.AnyNode.TheOpen as nodes
use Rattle.swc_ecma_codegen_tree.specs.declared.links.AnyNode.TheFolds.{para-AnyNode}
use Rattle.swc_ecma_codegen_tree.specs.declared.parts.ExprPart.{ExprPart}
use Rattle.swc_ecma_codegen_tree.specs.declared.parts.ExprPart.TheVariants as expr_parts
use Rattle.swc_ecma_codegen_tree.specs.Links.{ExprBox}
use Rattle.swc_ecma_codegen_tree.specs.declared.exprs.Callee.{Callee}
use Rattle.swc_ecma_codegen_tree.specs.declared.exprs.Callee.TheVariants as callees
use Rattle.swc_ecma_codegen_tree.specs.declared.exprs.Expr.{Expr}
use Rattle.swc_ecma_codegen_tree.specs.declared.exprs.Expr.TheVariants as exprs
use Rattle.swc_ecma_codegen_tree.specs.declared.exprs.OptChainBase.{OptChainBase}
use Rattle.swc_ecma_codegen_tree.specs.declared.exprs.OptChainBase.TheVariants as chain_bases
use Rattle.swc_ecma_codegen_tree.specs.declared.pats.AssignTarget.{AssignTarget}
use Rattle.swc_ecma_codegen_tree.specs.declared.pats.AssignTarget.TheVariants as targets
use Rattle.swc_ecma_codegen_tree.specs.declared.pats.AssignTargetPat.{AssignTargetPat}
use Rattle.swc_ecma_codegen_tree.specs.declared.pats.AssignTargetPat.TheVariants as target_pats
use Rattle.swc_ecma_codegen_tree.specs.declared.pats.SimpleAssignTarget.{SimpleAssignTarget}
use Rattle.swc_ecma_codegen_tree.specs.declared.pats.SimpleAssignTarget.TheVariants as simple_targets

-- a comment before the start of a span is one of a line, or holds a line terminator
unfoldable pub breaks_at : Span → Maps → Bool
breaks_at span maps = not (all_tame (remarks_of (comments_at Leading span.lo.0 maps)))

-- there is any comment before it
unfoldable pub has_comment_at : Span → Maps → Bool
has_comment_at span maps = is_some (maps.leading span.lo.0)

-- there is any before the last character of a span: before the `}` of a block
unfoldable pub has_comment_inside : Span → Maps → Bool
has_comment_inside span maps = if span.lo.0 == 0 then false else if span.hi.0 == 0 then false else is_some (maps.leading (span.hi.0 - 1))

-- there is any after its end
unfoldable pub has_comment_after : Span → Maps → Bool
has_comment_after span maps = is_some (maps.trailing span.hi.0)

unfoldable pub callee_breaks : {X : Type 0} → (X → Maps → Bool) → Callee X → Maps → Bool
callee_breaks f (callees.Super n) maps = breaks_at n.span maps
callee_breaks f (callees.Import n) maps = breaks_at n.span maps
callee_breaks f (callees.Expr n) maps = f n.node.value maps

unfoldable pub chain_breaks : {X : Type 0} → (X → Maps → Bool) → OptChainBase X → Maps → Bool
chain_breaks f (chain_bases.Member n) maps = f n.node.value maps
chain_breaks f (chain_bases.Call n) maps = f n.node.value maps

unfoldable pub first_breaks : {X : Type 0} → (X → Maps → Bool) → List (ExprBox X) → Maps → Bool
first_breaks f [] maps = false
first_breaks f (x ∷ xs) maps = f x.node.value maps

unfoldable pub simple_target_breaks : {X : Type 0} → (X → Maps → Bool) → SimpleAssignTarget X → Maps → Bool
simple_target_breaks f (simple_targets.Ident n) maps = breaks_at n.id.span maps
simple_target_breaks f (simple_targets.Member n) maps = f n.obj.node.value maps
simple_target_breaks f (simple_targets.SuperProp n) maps = breaks_at n.span maps
simple_target_breaks f n maps = false

unfoldable pub target_pat_breaks : {X : Type 0} → AssignTargetPat X → Maps → Bool
target_pat_breaks (target_pats.Array n) maps = breaks_at n.span maps
target_pat_breaks (target_pats.Object n) maps = breaks_at n.span maps
target_pat_breaks (target_pats.Invalid n) maps = false

unfoldable pub target_breaks : {X : Type 0} → (X → Maps → Bool) → AssignTarget X → Maps → Bool
target_breaks f (targets.Simple n) maps = simple_target_breaks f n maps
target_breaks f (targets.Pat n) maps = target_pat_breaks n maps

-- of an expression, before what it begins with
unfoldable pub leftmost_breaks : {X : Type 0} → (X → Maps → Bool) → Expr X → Maps → Bool
leftmost_breaks f (exprs.Call n) maps = callee_breaks f n.callee maps
leftmost_breaks f (exprs.Member n) maps = f n.obj.node.value maps
leftmost_breaks f (exprs.SuperProp n) maps = breaks_at n.span maps
leftmost_breaks f (exprs.Bin n) maps = f n.left.node.value maps
leftmost_breaks f (exprs.Cond n) maps = f n.test.node.value maps
leftmost_breaks f (exprs.Seq n) maps = first_breaks f n.exprs.items maps
leftmost_breaks f (exprs.Assign n) maps = has_comment_at n.span maps || f n.left.node.value maps
leftmost_breaks f (exprs.OptChain n) maps = chain_breaks f n.base maps
leftmost_breaks f n maps = false

unfoldable pub expr_breaks : {X : Type 0} → (X → Span) → (X → Maps → Bool) → Expr X → Maps → Bool
expr_breaks place f n maps = breaks_at (expr_span place n) maps || leftmost_breaks f n maps

-- what a link of an expression holds that isn't one
unfoldable pub part_breaks : {X : Type 0} → (X → Maps → Bool) → ExprPart X → Maps → Bool
part_breaks f (expr_parts.OptCall n) maps = f n.callee.node.value maps
part_breaks f (expr_parts.AssignTarget n) maps = target_breaks f n maps
part_breaks f n maps = false

unfoldable pub node_breaks : {X : Type 0} → (X → Span) → (X → Maps → Bool) → AnyNode-F X → Maps → Bool
node_breaks place f (nodes.Expr n) maps = expr_breaks place f n maps
node_breaks place f (nodes.MemberExpr n) maps = f n.obj.node.value maps
node_breaks place f (nodes.ExprPart n) maps = part_breaks f n maps
node_breaks place f n maps = false

unfoldable pub any_breaks : AnyNode → Maps → Bool
any_breaks = para-AnyNode (Maps → Bool) (node_breaks (λ p. any_span p.0) (λ p. p.1))
