-- Where there are no comments, no line ends before a node.
use Rattle.std.proofs.Common.{◌≡◌, Bool, true, false, List, [], ◌∷◌, Option, Some, None, refl, sym, ◌∙◌, map, subst}
use Rattle.std.specs.Prelude.{is_some}
use Rattle.swc_ecma_codegen_grammar.specs.CommentMaps.{Maps, listed}
use Rattle.swc_ecma_codegen_grammar.specs.Comments.{maps_in, no_maps, comments_at, remarks_of, all_tame}
use Rattle.swc_ecma_codegen_spans.specs.Spans.{any_span, expr_span}
use Rattle.swc_ecma_codegen_tree.specs.declared.links.AnyNode.{AnyNode, AnyNode-F, ind-AnyNode, map-AnyNode, roll-AnyNode}
use Rattle.swc_ecma_codegen_tree.specs.declared.links.AnyNode.TheOpen as nodes
use Rattle.swc_ecma_codegen_tree.specs.Links.{ExprBox}
use Rattle.swc_ecma_codegen_tree.specs.declared.parts.ExprPart.{ExprPart}
use Rattle.swc_ecma_codegen_tree.specs.declared.parts.ExprPart.TheVariants as expr_parts
use Rattle.swc_ecma_codegen_tree.specs.declared.exprs.CallExpr.{CallExpr}
use Rattle.swc_ecma_codegen_tree.specs.declared.exprs.Callee.{Callee}
use Rattle.swc_ecma_codegen_tree.specs.declared.exprs.Callee.TheVariants as callees
use Rattle.swc_ecma_codegen_tree.specs.declared.exprs.Expr.{Expr}
use Rattle.swc_ecma_codegen_tree.specs.declared.exprs.Expr.TheVariants as exprs
use Rattle.swc_ecma_codegen_tree.specs.declared.exprs.OptChainBase.{OptChainBase}
use Rattle.swc_ecma_codegen_tree.specs.declared.exprs.OptChainBase.TheVariants as chain_bases
use Rattle.swc_ecma_codegen_tree.specs.declared.exprs.OptChainExpr.{OptChainExpr}
use Rattle.swc_ecma_codegen_tree.specs.declared.pats.AssignTarget.{AssignTarget}
use Rattle.swc_ecma_codegen_tree.specs.declared.pats.AssignTarget.TheVariants as targets
use Rattle.swc_ecma_codegen_tree.specs.declared.pats.AssignTargetPat.TheVariants as target_pats
use Rattle.swc_ecma_codegen_tree.specs.declared.pats.SimpleAssignTarget.TheVariants as simple_targets
use Rattle.swc_ecma_codegen_emit.specs.Commented.{breaks_at, has_comment_at, callee_breaks, chain_breaks, first_breaks, simple_target_breaks, target_pat_breaks, target_breaks, leftmost_breaks, expr_breaks, part_breaks, node_breaks, any_breaks}
use Rattle.swc_ecma_codegen_emit.proofs.BreakLaws.{breaks_of_layer}

abbrev IsQuiet : AnyNode → Type 0
IsQuiet n = any_breaks n no_maps ≡ false

-- whether a line ends before a node of such links
breaks_in : {X : Type 0} → (X → AnyNode) → AnyNode-F X → Bool
breaks_in {X = X} g n = node_breaks any_span any_breaks (map-AnyNode X AnyNode g n) no_maps

first_quiet : {X : Type 0} (g : ExprBox X → ExprBox AnyNode) → ((x : ExprBox X) → IsQuiet (g x).node.value) → (xs : List (ExprBox X)) → first_breaks any_breaks (map g xs) no_maps ≡ false
unfolding first_breaks
first_quiet g quiet [] = refl
first_quiet g quiet (x ∷ xs) = quiet x

call_quiet : {X : Type 0} (g : X → AnyNode) → ((x : X) → IsQuiet (g x)) → (n : CallExpr X) (callee : Callee X) → breaks_in g (nodes.Expr (exprs.Call (record n { callee = callee }))) ≡ false
unfolding breaks_in node_breaks expr_breaks expr_span leftmost_breaks callee_breaks breaks_at comments_at listed remarks_of all_tame
call_quiet g quiet n (callees.Super c) = refl
call_quiet g quiet n (callees.Import c) = refl
call_quiet g quiet n (callees.Expr c) = quiet c.node.value

chain_quiet : {X : Type 0} (g : X → AnyNode) → ((x : X) → IsQuiet (g x)) → (n : OptChainExpr X) (base : OptChainBase X) → breaks_in g (nodes.Expr (exprs.OptChain (record n { base = base }))) ≡ false
unfolding breaks_in node_breaks expr_breaks expr_span leftmost_breaks chain_breaks breaks_at comments_at listed remarks_of all_tame
chain_quiet g quiet n (chain_bases.Member b) = quiet b.node.value
chain_quiet g quiet n (chain_bases.Call b) = quiet b.node.value

expr_quiet : {X : Type 0} (g : X → AnyNode) → ((x : X) → IsQuiet (g x)) → (n : Expr X) → breaks_in g (nodes.Expr n) ≡ false
unfolding breaks_in node_breaks expr_breaks expr_span leftmost_breaks breaks_at has_comment_at comments_at listed remarks_of all_tame
expr_quiet g quiet (exprs.Call n) = call_quiet g quiet n n.callee
expr_quiet g quiet (exprs.OptChain n) = chain_quiet g quiet n n.base
expr_quiet g quiet (exprs.Seq n) = first_quiet _ (λ x. quiet x.node.value) n.exprs.items
expr_quiet g quiet (exprs.Member n) = quiet n.obj.node.value
expr_quiet g quiet (exprs.Bin n) = quiet n.left.node.value
expr_quiet g quiet (exprs.Cond n) = quiet n.test.node.value
expr_quiet g quiet (exprs.Assign n) = quiet n.left.node.value
expr_quiet g quiet n = refl

target_quiet : {X : Type 0} (g : X → AnyNode) → ((x : X) → IsQuiet (g x)) → (n : AssignTarget X) → breaks_in g (nodes.ExprPart (expr_parts.AssignTarget n)) ≡ false
unfolding breaks_in node_breaks part_breaks target_breaks simple_target_breaks target_pat_breaks breaks_at comments_at listed remarks_of all_tame
target_quiet g quiet (targets.Simple (simple_targets.Member n)) = quiet n.obj.node.value
target_quiet g quiet (targets.Simple n) = refl
target_quiet g quiet (targets.Pat (target_pats.Array n)) = refl
target_quiet g quiet (targets.Pat n) = refl

part_quiet : {X : Type 0} (g : X → AnyNode) → ((x : X) → IsQuiet (g x)) → (n : ExprPart X) → breaks_in g (nodes.ExprPart n) ≡ false
unfolding breaks_in node_breaks part_breaks
part_quiet g quiet (expr_parts.OptCall n) = quiet n.callee.node.value
part_quiet g quiet (expr_parts.AssignTarget n) = target_quiet g quiet n
part_quiet g quiet n = refl

layer_quiet : {X : Type 0} (g : X → AnyNode) → ((x : X) → IsQuiet (g x)) → (n : AnyNode-F X) → breaks_in g n ≡ false
unfolding breaks_in node_breaks
layer_quiet g quiet (nodes.Expr n) = expr_quiet g quiet n
layer_quiet g quiet (nodes.MemberExpr n) = quiet n.obj.node.value
layer_quiet g quiet (nodes.ExprPart n) = part_quiet g quiet n
layer_quiet g quiet n = refl

-- of a whole node
all_quiet : (n : AnyNode) → IsQuiet n
unfolding breaks_in
all_quiet = ind-AnyNode IsQuiet (λ x y q. subst (λ z. IsQuiet (roll-AnyNode z)) q (breaks_of_layer (map-AnyNode _ _ (λ z. z.0) y) no_maps ∙ layer_quiet (λ z. z.0) (λ z. z.1) y))

pub unbroken : {C : Type 0} (maps : C → Maps) (comments : Option C) (n : AnyNode) → is_some comments ≡ false → false ≡ any_breaks n (maps_in maps comments)
unfolding maps_in
unbroken maps None n h = sym (all_quiet n)
unbroken maps (Some c) n h = absurd (let z : true ≡ false = h in cc)
