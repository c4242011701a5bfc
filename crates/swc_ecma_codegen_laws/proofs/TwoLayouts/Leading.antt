-- Whether parentheses stand round what is returned, thrown or yielded hangs on the comments before nodes alone.
use Rattle.std.proofs.Common.{◌≡◌, Bool, ◌||◌, List, [], ◌∷◌, None, refl, sym, ap, ◌∙◌, map, subst}
use Rattle.swc_ecma_codegen_grammar.specs.CommentMaps.{Maps}
use Rattle.swc_ecma_codegen_grammar.specs.Comments.{comments_at}
use Rattle.swc_ecma_codegen_spans.specs.Spans.{any_span, expr_span}
use Rattle.swc_ecma_codegen_tree.specs.declared.links.AnyNode.{AnyNode, AnyNode-F, ind-AnyNode, map-AnyNode, roll-AnyNode}
use Rattle.swc_ecma_codegen_tree.specs.declared.links.AnyNode.TheOpen as nodes
use Rattle.swc_ecma_codegen_tree.specs.Links.{ExprBox}
use Rattle.swc_ecma_codegen_tree.specs.declared.parts.ExprPart.{ExprPart}
use Rattle.swc_ecma_codegen_tree.specs.declared.parts.ExprPart.TheVariants as expr_parts
use Rattle.swc_ecma_codegen_tree.specs.declared.exprs.CallExpr.{CallExpr}
use Rattle.swc_ecma_codegen_tree.specs.declared.exprs.Callee.{Callee}
use Rattle.swc_ecma_codegen_tree.specs.declared.exprs.Callee.TheVariants as callees
use Rattle.swc_ecma_codegen_tree.specs.declared.exprs.Expr.{Expr}
use Rattle.swc_ecma_codegen_tree.specs.declared.exprs.Expr.TheVariants as exprs
use Rattle.swc_ecma_codegen_tree.specs.declared.exprs.OptChainBase.{OptChainBase}
use Rattle.swc_ecma_codegen_tree.specs.declared.exprs.OptChainBase.TheVariants as chain_bases
use Rattle.swc_ecma_codegen_tree.specs.declared.exprs.OptChainExpr.{OptChainExpr}
use Rattle.swc_ecma_codegen_tree.specs.declared.pats.AssignTarget.{AssignTarget}
use Rattle.swc_ecma_codegen_tree.specs.declared.pats.AssignTarget.TheVariants as targets
use Rattle.swc_ecma_codegen_tree.specs.declared.pats.AssignTargetPat.TheVariants as target_pats
use Rattle.swc_ecma_codegen_tree.specs.declared.pats.SimpleAssignTarget.TheVariants as simple_targets
use Rattle.swc_ecma_codegen_emit.proofs.BreakLaws.{breaks_of_layer}
use Rattle.swc_ecma_codegen_emit.specs.Answers.{any_answers}
use Rattle.swc_ecma_codegen_emit.specs.Commented.{any_breaks, breaks_at, callee_breaks, chain_breaks, expr_breaks, first_breaks, has_comment_at, leftmost_breaks, node_breaks, part_breaks, simple_target_breaks, target_breaks, target_pat_breaks}

-- the comments before nodes
abbrev leading_of : Maps → Maps
leading_of maps = record { leading = maps.leading; trailing = λ pos. None }

abbrev GoesByLeading : AnyNode → Type 0
GoesByLeading n = (maps : Maps) → any_breaks n maps ≡ any_breaks n (leading_of maps)

-- whether a line ends before a node of such links
breaks_in : {X : Type 0} → (X → AnyNode) → AnyNode-F X → Maps → Bool
breaks_in {X = X} g n maps = node_breaks any_span any_breaks (map-AnyNode X AnyNode g n) maps

or_same : (a : Bool) {b c : Bool} → b ≡ c → (a || b) ≡ (a || c)
or_same a e = ap (λ z. a || z) e

first_leads : {X : Type 0} (g : ExprBox X → ExprBox AnyNode) → ((x : ExprBox X) → GoesByLeading (g x).node.value) → (xs : List (ExprBox X)) (maps : Maps) → first_breaks any_breaks (map g xs) maps ≡ first_breaks any_breaks (map g xs) (leading_of maps)
unfolding first_breaks
first_leads g leads [] maps = refl
first_leads g leads (x ∷ xs) maps = leads x maps

call_leads : {X : Type 0} (g : X → AnyNode) → ((x : X) → GoesByLeading (g x)) → (n : CallExpr X) (callee : Callee X) (maps : Maps) → breaks_in g (nodes.Expr (exprs.Call (record n { callee = callee }))) maps ≡ breaks_in g (nodes.Expr (exprs.Call (record n { callee = callee }))) (leading_of maps)
unfolding breaks_in node_breaks expr_breaks expr_span leftmost_breaks callee_breaks breaks_at comments_at
call_leads g leads n (callees.Super c) maps = refl
call_leads g leads n (callees.Import c) maps = refl
call_leads g leads n (callees.Expr c) maps = or_same _ (leads c.node.value maps)

chain_leads : {X : Type 0} (g : X → AnyNode) → ((x : X) → GoesByLeading (g x)) → (n : OptChainExpr X) (base : OptChainBase X) (maps : Maps) → breaks_in g (nodes.Expr (exprs.OptChain (record n { base = base }))) maps ≡ breaks_in g (nodes.Expr (exprs.OptChain (record n { base = base }))) (leading_of maps)
unfolding breaks_in node_breaks expr_breaks expr_span leftmost_breaks chain_breaks breaks_at comments_at
chain_leads g leads n (chain_bases.Member b) maps = or_same _ (leads b.node.value maps)
chain_leads g leads n (chain_bases.Call b) maps = or_same _ (leads b.node.value maps)

expr_leads : {X : Type 0} (g : X → AnyNode) → ((x : X) → GoesByLeading (g x)) → (n : Expr X) (maps : Maps) → breaks_in g (nodes.Expr n) maps ≡ breaks_in g (nodes.Expr n) (leading_of maps)
unfolding breaks_in node_breaks expr_breaks expr_span leftmost_breaks breaks_at has_comment_at comments_at
expr_leads g leads (exprs.Call n) maps = call_leads g leads n n.callee maps
expr_leads g leads (exprs.OptChain n) maps = chain_leads g leads n n.base maps
expr_leads g leads (exprs.Seq n) maps = or_same _ (first_leads _ (λ x. leads x.node.value) n.exprs.items maps)
expr_leads g leads (exprs.Member n) maps = or_same _ (leads n.obj.node.value maps)
expr_leads g leads (exprs.Bin n) maps = or_same _ (leads n.left.node.value maps)
expr_leads g leads (exprs.Cond n) maps = or_same _ (leads n.test.node.value maps)
expr_leads g leads (exprs.Assign n) maps = or_same _ (or_same _ (leads n.left.node.value maps))
expr_leads g leads n maps = refl

target_leads : {X : Type 0} (g : X → AnyNode) → ((x : X) → GoesByLeading (g x)) → (n : AssignTarget X) (maps : Maps) → breaks_in g (nodes.ExprPart (expr_parts.AssignTarget n)) maps ≡ breaks_in g (nodes.ExprPart (expr_parts.AssignTarget n)) (leading_of maps)
unfolding breaks_in node_breaks part_breaks target_breaks simple_target_breaks target_pat_breaks breaks_at comments_at
target_leads g leads (targets.Simple (simple_targets.Member n)) maps = leads n.obj.node.value maps
target_leads g leads (targets.Simple n) maps = refl
target_leads g leads (targets.Pat (target_pats.Array n)) maps = refl
target_leads g leads (targets.Pat n) maps = refl

part_leads : {X : Type 0} (g : X → AnyNode) → ((x : X) → GoesByLeading (g x)) → (n : ExprPart X) (maps : Maps) → breaks_in g (nodes.ExprPart n) maps ≡ breaks_in g (nodes.ExprPart n) (leading_of maps)
unfolding breaks_in node_breaks part_breaks
part_leads g leads (expr_parts.OptCall n) maps = leads n.callee.node.value maps
part_leads g leads (expr_parts.AssignTarget n) maps = target_leads g leads n maps
part_leads g leads n maps = refl

layer_leads : {X : Type 0} (g : X → AnyNode) → ((x : X) → GoesByLeading (g x)) → (n : AnyNode-F X) (maps : Maps) → breaks_in g n maps ≡ breaks_in g n (leading_of maps)
unfolding breaks_in node_breaks
layer_leads g leads (nodes.Expr n) maps = expr_leads g leads n maps
layer_leads g leads (nodes.MemberExpr n) maps = leads n.obj.node.value maps
layer_leads g leads (nodes.ExprPart n) maps = part_leads g leads n maps
layer_leads g leads n maps = refl

-- of a whole node
all_lead : (n : AnyNode) → GoesByLeading n
unfolding breaks_in
all_lead = ind-AnyNode GoesByLeading (λ x y q. subst (λ z. GoesByLeading (roll-AnyNode z)) q (λ maps.
    breaks_of_layer (map-AnyNode _ _ (λ z. z.0) y) maps ∙ layer_leads (λ z. z.0) (λ z. z.1) y maps ∙ sym (breaks_of_layer (map-AnyNode _ _ (λ z. z.0) y) (leading_of maps))))

pub leading_decide : (node : AnyNode) (maps other : Maps) → maps.leading ≡ other.leading → (any_answers node).breaks maps ≡ (any_answers node).breaks other
unfolding any_answers
leading_decide node maps other e = all_lead node maps ∙ ap (λ entries. any_breaks node (record { leading = entries; trailing = λ pos. None })) e ∙ sym (all_lead node other)
