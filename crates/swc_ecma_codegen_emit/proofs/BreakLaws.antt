-- Whether a line ends before a whole node, by its sort.
use Rattle.std.proofs.Common.{◌≡◌, Bool, ◌||◌, List, [], ◌∷◌, refl, sym, ◌∙◌, ap, map}
use Rattle.swc_ecma_codegen_grammar.specs.CommentMaps.{Maps}
use Rattle.swc_ecma_codegen_spans.specs.Spans.{any_span, expr_span, fn_expr_span, class_expr_span, jsx_member_expr_span, lit_span, jsx_namespaced_name_span}
use Rattle.swc_ecma_codegen_spans.proofs.Places.{any_span_expr}
use Rattle.swc_ecma_codegen_tree.specs.declared.links.AnyNode.{AnyNode, AnyNode-F, map-AnyNode, roll-AnyNode, out-AnyNode}
use Rattle.swc_ecma_codegen_tree.specs.declared.links.AnyNode.TheOpen as nodes
use Rattle.swc_ecma_codegen_tree.specs.declared.links.AnyNode.TheVariants as whole
use Rattle.swc_ecma_codegen_tree.specs.declared.links.AnyNode.TheViews.{roll-out-AnyNode}
use Rattle.swc_ecma_codegen_tree.specs.declared.links.AnyNode.TheFolds.{para-roll-AnyNode}
use Rattle.swc_ecma_codegen_tree.specs.Links.{ExprBox}
use Rattle.swc_ecma_codegen_tree.specs.declared.parts.ExprPart.{ExprPart}
use Rattle.swc_ecma_codegen_tree.specs.declared.parts.ExprPart.TheVariants as expr_parts
use Rattle.swc_ecma_codegen_tree.specs.declared.exprs.CallExpr.{CallExpr}
use Rattle.swc_ecma_codegen_tree.specs.declared.exprs.Callee.{Callee}
use Rattle.swc_ecma_codegen_tree.specs.declared.exprs.Callee.TheVariants as callees
use Rattle.swc_ecma_codegen_tree.specs.declared.exprs.Expr.{Expr}
use Rattle.swc_ecma_codegen_tree.specs.declared.exprs.Expr.TheVariants as exprs
use Rattle.swc_ecma_codegen_tree.specs.declared.exprs.MemberExpr.{MemberExpr}
use Rattle.swc_ecma_codegen_tree.specs.declared.exprs.OptChainBase.{OptChainBase}
use Rattle.swc_ecma_codegen_tree.specs.declared.exprs.OptChainBase.TheVariants as chain_bases
use Rattle.swc_ecma_codegen_tree.specs.declared.exprs.OptChainExpr.{OptChainExpr}
use Rattle.swc_ecma_codegen_tree.specs.declared.pats.AssignTarget.{AssignTarget}
use Rattle.swc_ecma_codegen_tree.specs.declared.pats.AssignTarget.TheVariants as targets
use Rattle.swc_ecma_codegen_tree.specs.declared.pats.AssignTargetPat.TheVariants as target_pats
use Rattle.swc_ecma_codegen_tree.specs.declared.pats.SimpleAssignTarget.TheVariants as simple_targets
use Rattle.swc_ecma_codegen_emit.specs.Commented.{breaks_at, callee_breaks, chain_breaks, first_breaks, simple_target_breaks, target_pat_breaks, target_breaks, leftmost_breaks, expr_breaks, part_breaks, node_breaks, any_breaks}

-- one layer of a node, with what its links hold and what is known of that
known_of : AnyNode-F AnyNode → AnyNode-F (AnyNode × (Maps → Bool))
known_of = map-AnyNode AnyNode (AnyNode × (Maps → Bool)) (λ y. (y, any_breaks y))

-- what is said of a layer with what is known
said : AnyNode-F (AnyNode × (Maps → Bool)) → Maps → Bool
said n maps = node_breaks (λ p. any_span p.0) (λ p. p.1) n maps

first_mapped : {A B : Type 0} (g : ExprBox A → ExprBox B) (e : B → Maps → Bool) (d : A → Maps → Bool) (maps : Maps) → ((x : ExprBox A) → e (g x).node.value maps ≡ d x.node.value maps) → (xs : List (ExprBox A)) → first_breaks e (map g xs) maps ≡ first_breaks d xs maps
unfolding first_breaks
first_mapped g e d maps same [] = refl
first_mapped g e d maps same (x ∷ xs) = same x

callee_known : (n : CallExpr AnyNode) (callee : Callee AnyNode) (maps : Maps) → said (known_of (nodes.Expr (exprs.Call (record n { callee = callee })))) maps ≡ (breaks_at n.span maps || callee_breaks any_breaks callee maps)
unfolding said node_breaks known_of expr_breaks expr_span leftmost_breaks callee_breaks
callee_known n (callees.Super c) maps = refl
callee_known n (callees.Import c) maps = refl
callee_known n (callees.Expr c) maps = refl

chain_known : (n : OptChainExpr AnyNode) (base : OptChainBase AnyNode) (maps : Maps) → said (known_of (nodes.Expr (exprs.OptChain (record n { base = base })))) maps ≡ (breaks_at n.span maps || chain_breaks any_breaks base maps)
unfolding said node_breaks known_of expr_breaks expr_span leftmost_breaks chain_breaks
chain_known n (chain_bases.Member b) maps = refl
chain_known n (chain_bases.Call b) maps = refl

expr_known : (n : Expr AnyNode) (maps : Maps) → said (known_of (nodes.Expr n)) maps ≡ expr_breaks any_span any_breaks n maps
unfolding said node_breaks known_of expr_breaks expr_span leftmost_breaks fn_expr_span class_expr_span jsx_member_expr_span lit_span jsx_namespaced_name_span
expr_known (exprs.Seq n) maps = ap (λ b. breaks_at n.span maps || b) (first_mapped _ (λ p. p.1) any_breaks maps (λ x. refl) n.exprs.items)
expr_known (exprs.Call n) maps = callee_known n n.callee maps
expr_known (exprs.OptChain n) maps = chain_known n n.base maps
expr_known n maps = refl

target_known : (n : AssignTarget AnyNode) (maps : Maps) → said (known_of (nodes.ExprPart (expr_parts.AssignTarget n))) maps ≡ target_breaks any_breaks n maps
unfolding said node_breaks known_of part_breaks target_breaks simple_target_breaks target_pat_breaks
target_known (targets.Simple (simple_targets.Ident n)) maps = refl
target_known (targets.Simple n) maps = refl
target_known (targets.Pat (target_pats.Array n)) maps = refl
target_known (targets.Pat n) maps = refl

part_known : (n : ExprPart AnyNode) (maps : Maps) → said (known_of (nodes.ExprPart n)) maps ≡ part_breaks any_breaks n maps
unfolding said node_breaks known_of part_breaks
part_known (expr_parts.AssignTarget n) maps = target_known n maps
part_known n maps = refl

layer_known : (n : AnyNode-F AnyNode) (maps : Maps) → said (known_of n) maps ≡ node_breaks any_span any_breaks n maps
unfolding said node_breaks known_of
layer_known (nodes.Expr n) maps = expr_known n maps
layer_known (nodes.ExprPart n) maps = part_known n maps
layer_known n maps = refl

at_maps : {f g : Maps → Bool} → f ≡ g → (maps : Maps) → f maps ≡ g maps
at_maps e maps = ap (λ h. h maps) e

pub breaks_of_layer : (n : AnyNode-F AnyNode) (maps : Maps) → any_breaks (roll-AnyNode n) maps ≡ node_breaks any_span any_breaks n maps
unfolding any_breaks known_of said
breaks_of_layer n maps = at_maps (para-roll-AnyNode (Maps → Bool) (node_breaks (λ p. any_span p.0) (λ p. p.1)) n) maps ∙ layer_known n maps

pub any_breaks_of : (n : AnyNode) (maps : Maps) → any_breaks n maps ≡ node_breaks any_span any_breaks (out-AnyNode n) maps
any_breaks_of n maps = at_maps (ap any_breaks (sym (roll-out-AnyNode n))) maps ∙ breaks_of_layer (out-AnyNode n) maps

any_breaks_expr : (n : Expr AnyNode) (maps : Maps) → any_breaks (whole.Expr n) maps ≡ expr_breaks any_span any_breaks n maps
unfolding node_breaks
any_breaks_expr n maps = at_maps (ap any_breaks (sym (whole.rolls-Expr n))) maps ∙ breaks_of_layer (nodes.Expr n) maps

-- by where the whole stands
pub any_breaks_placed : (n : Expr AnyNode) (maps : Maps) → any_breaks (whole.Expr n) maps ≡ (breaks_at (any_span (whole.Expr n)) maps || leftmost_breaks any_breaks n maps)
unfolding expr_breaks
any_breaks_placed n maps = any_breaks_expr n maps ∙ sym (ap (λ s. breaks_at s maps || leftmost_breaks any_breaks n maps) (any_span_expr n))

pub any_breaks_member_expr : (n : MemberExpr AnyNode) (maps : Maps) → any_breaks (whole.MemberExpr n) maps ≡ any_breaks n.obj.node.value maps
unfolding node_breaks
any_breaks_member_expr n maps = at_maps (ap any_breaks (sym (whole.rolls-MemberExpr n))) maps ∙ breaks_of_layer (nodes.MemberExpr n) maps

pub any_breaks_expr_part : (n : ExprPart AnyNode) (maps : Maps) → any_breaks (whole.ExprPart n) maps ≡ part_breaks any_breaks n maps
unfolding node_breaks
any_breaks_expr_part n maps = at_maps (ap any_breaks (sym (whole.rolls-ExprPart n))) maps ∙ breaks_of_layer (nodes.ExprPart n) maps
