-- In a tree without its parentheses no other pair stands.
use Rattle.std.proofs.Common.{◌≡◌, Bool, false, true, refl, sym, subst, ap, ◌∙◌, true≢false}
use denote.Hole.Holds.{Such}
use Rattle.swc_ecma_codegen_tree.specs.declared.exprs.Expr.TheVariants as exprs
use Rattle.swc_ecma_codegen_tree.specs.declared.exprs.ParenExpr.{ParenExpr}
use Rattle.swc_ecma_codegen_tree.specs.declared.links.AnyNode.{AnyNode, AnyNode-F, ind-AnyNode, map-AnyNode, out-AnyNode, roll-AnyNode}
use Rattle.swc_ecma_codegen_tree.specs.declared.links.AnyNode.TheOpen as nodes
use Rattle.swc_ecma_codegen_tree.specs.declared.links.AnyNode.TheBlock.{the_family, member-AnyNode}
use Rattle.swc_ecma_codegen_tree.specs.declared.links.AnyNode.TheFolds.{claims}
use Rattle.swc_ecma_codegen_tree.specs.declared.links.AnyNode.TheViews.{out-roll-AnyNode}
use Rattle.swc_ecma_codegen_visit.specs.Changed.{each_node}
use Rattle.swc_ecma_codegen_visit.specs.Mapped.{map_layer}
use Rattle.swc_ecma_codegen_visit.proofs.MapLaws.{fold_layer}
use Rattle.swc_ecma_codegen_parentheses.specs.declared.opens.Standing.{Standing}
use Rattle.swc_ecma_codegen_parentheses.specs.declared.opens.Standing.TheVariants.{Value}
use Rattle.swc_ecma_codegen_parentheses.specs.Bare.{bare_below, bare_layer, expr_in, opened, opened_node, stands, stays}

abbrev is_pair : {X : Type 0} → AnyNode-F X → Bool
is_pair (nodes.Expr (exprs.Paren pair)) = true
is_pair n = false

-- what is no pair stands anywhere
plain_stands : (standing : Standing) (n : AnyNode-F AnyNode) → is_pair n ≡ false → stands standing (out-AnyNode (opened standing n)) ≡ true
unfolding opened
plain_stands standing (nodes.Expr (exprs.Paren pair)) plain = absurd (true≢false plain)
plain_stands standing (nodes.Expr n) plain = ap (stands standing) (out-roll-AnyNode (nodes.Expr n))
plain_stands standing n plain = ap (stands standing) (out-roll-AnyNode n)

-- what stands as a value does so anywhere
value_stands : (standing : Standing) (n : AnyNode-F AnyNode) → stands Value n ≡ true → stands standing n ≡ true
value_stands standing (nodes.Expr (exprs.Paren pair)) is = absurd (true≢false (sym is))
value_stands standing (nodes.Expr n) is = refl
value_stands standing n is = refl

-- a pair stays or is taken away
pair_stands : (standing : Standing) (pair : ParenExpr AnyNode) → stands Value (out-AnyNode pair.expr.node.value) ≡ true
    → (kept : Bool) → stays standing (expr_in pair.expr.node.value) ≡ kept → stands standing (out-AnyNode (opened standing (nodes.Expr (exprs.Paren pair)))) ≡ true
unfolding opened
pair_stands standing pair inside true is = rw is (ap (stands standing) (out-roll-AnyNode (nodes.Expr (exprs.Paren pair))) ∙ is)
pair_stands standing pair inside false is = rw is (value_stands standing (out-AnyNode pair.expr.node.value) inside)

abbrev Law : AnyNode → Type 0
Law n = (standing : Standing) → stands standing (out-AnyNode (opened_node standing (bare_below n))) ≡ true

abbrev Lawful : Type 0
Lawful = Such the_family (claims Law) member-AnyNode

layer_stands : (n : AnyNode-F Lawful) (standing : Standing)
    → stands standing (out-AnyNode (opened standing (bare_layer (map_layer (λ x. x) bare_below (map-AnyNode Lawful AnyNode (λ z. z.0) n))))) ≡ true
unfolding bare_layer
layer_stands (nodes.Expr (exprs.Paren pair)) standing = pair_stands standing _ (pair.expr.node.value.1 Value) _ refl
layer_stands (nodes.Expr n) standing = plain_stands standing (bare_layer (map_layer (λ x. x) bare_below (map-AnyNode Lawful AnyNode (λ z. z.0) (nodes.Expr n)))) refl
layer_stands n standing = plain_stands standing (bare_layer (map_layer (λ x. x) bare_below (map-AnyNode Lawful AnyNode (λ z. z.0) n))) refl

-- a node without its parentheses, by what its links hold
bare_at : (n : AnyNode-F AnyNode) → out-AnyNode (bare_below (roll-AnyNode n)) ≡ bare_layer (map_layer (λ x. x) bare_below n)
unfolding each_node
bare_at n = ap out-AnyNode (fold_layer (λ l. roll-AnyNode (bare_layer l)) (roll-AnyNode n))
    ∙ out-roll-AnyNode _ ∙ ap (λ l. bare_layer (map_layer (λ x. x) bare_below l)) (out-roll-AnyNode n)

pub no_other_pair : (standing : Standing) (n : AnyNode) → stands standing (out-AnyNode (opened_node standing (bare_below n))) ≡ true
no_other_pair standing n = ind-AnyNode Law (λ x y q. subst (λ z. Law (roll-AnyNode z)) q (λ at.
    ap (λ l. stands at (out-AnyNode (opened at l))) (bare_at (map-AnyNode Lawful AnyNode (λ z. z.0) y)) ∙ layer_stands y at)) n standing
