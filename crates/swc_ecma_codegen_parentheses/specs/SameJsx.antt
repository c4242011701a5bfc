-- JSX that is the same but for what its links hold: that stands in the relation `m`.
use Rattle.std.specs.Prelude.{◌≡◌}
use Rattle.swc_ecma_codegen_tree.specs.declared.jsx.JSXAttr.{JSXAttr}
use Rattle.swc_ecma_codegen_tree.specs.declared.jsx.JSXAttrOrSpread.{JSXAttrOrSpread}
use Rattle.swc_ecma_codegen_tree.specs.declared.jsx.JSXAttrOrSpread.TheVariants as jsx_attr_or_spreads
use Rattle.swc_ecma_codegen_tree.specs.declared.jsx.JSXAttrValue.{JSXAttrValue}
use Rattle.swc_ecma_codegen_tree.specs.declared.jsx.JSXAttrValue.TheVariants as jsx_attr_values
use Rattle.swc_ecma_codegen_tree.specs.declared.jsx.JSXElement.{JSXElement}
use Rattle.swc_ecma_codegen_tree.specs.declared.jsx.JSXElementChild.{JSXElementChild}
use Rattle.swc_ecma_codegen_tree.specs.declared.jsx.JSXElementChild.TheVariants as jsx_element_childs
use Rattle.swc_ecma_codegen_tree.specs.declared.jsx.JSXExpr.{JSXExpr}
use Rattle.swc_ecma_codegen_tree.specs.declared.jsx.JSXExpr.TheVariants as jsx_exprs
use Rattle.swc_ecma_codegen_tree.specs.declared.jsx.JSXExprContainer.{JSXExprContainer}
use Rattle.swc_ecma_codegen_tree.specs.declared.jsx.JSXFragment.{JSXFragment}
use Rattle.swc_ecma_codegen_tree.specs.declared.jsx.JSXOpeningElement.{JSXOpeningElement}
use Rattle.swc_ecma_codegen_tree.specs.declared.jsx.JSXSpreadChild.{JSXSpreadChild}
use Rattle.swc_ecma_codegen_parentheses.specs.declared.mends.Usage.{Usage}
use Rattle.swc_ecma_codegen_syntax.specs.declared.nonterminals.Nonterminal.TheVariants as nt
use Rattle.swc_ecma_codegen_parentheses.specs.Lists.{Pairwise, bracketed, linked, optionally}
use Rattle.swc_ecma_codegen_parentheses.specs.SameObjects.{same_spread_element}

unfoldable pub same_jsx_expr : {X : Type 0} → (Usage → X → X → Type 0) → JSXExpr X → JSXExpr X → Type 0
same_jsx_expr m (jsx_exprs.Expr n) (jsx_exprs.Expr r) = bracketed nt.Expression m n r
same_jsx_expr m n r = n ≡ r

unfoldable pub same_jsx_expr_container : {X : Type 0} → (Usage → X → X → Type 0) → JSXExprContainer X → JSXExprContainer X → Type 0
same_jsx_expr_container m n r = (r ≡ record n { expr = r.expr }) × same_jsx_expr m n.expr r.expr

unfoldable pub same_jsx_attr_value : {X : Type 0} → (Usage → X → X → Type 0) → JSXAttrValue X → JSXAttrValue X → Type 0
same_jsx_attr_value m (jsx_attr_values.JSXExprContainer n) (jsx_attr_values.JSXExprContainer r) = same_jsx_expr_container m n r
same_jsx_attr_value m (jsx_attr_values.JSXElement n) (jsx_attr_values.JSXElement r) = linked m n r
same_jsx_attr_value m (jsx_attr_values.JSXFragment n) (jsx_attr_values.JSXFragment r) = linked m n r
same_jsx_attr_value m n r = n ≡ r

unfoldable pub same_jsx_attr : {X : Type 0} → (Usage → X → X → Type 0) → JSXAttr X → JSXAttr X → Type 0
same_jsx_attr m n r = (r ≡ record n { value = r.value }) × optionally (same_jsx_attr_value m) n.value r.value

unfoldable pub same_jsx_attr_or_spread : {X : Type 0} → (Usage → X → X → Type 0) → JSXAttrOrSpread X → JSXAttrOrSpread X → Type 0
same_jsx_attr_or_spread m (jsx_attr_or_spreads.JSXAttr n) (jsx_attr_or_spreads.JSXAttr r) = same_jsx_attr m n r
same_jsx_attr_or_spread m (jsx_attr_or_spreads.SpreadElement n) (jsx_attr_or_spreads.SpreadElement r) = same_spread_element m n r
same_jsx_attr_or_spread m n r = ⊥

unfoldable pub same_jsx_opening_element : {X : Type 0} → (Usage → X → X → Type 0) → JSXOpeningElement X → JSXOpeningElement X → Type 0
same_jsx_opening_element m n r = (r ≡ record n { attrs = r.attrs }) × Pairwise (same_jsx_attr_or_spread m) n.attrs.items r.attrs.items

unfoldable pub same_jsx_spread_child : {X : Type 0} → (Usage → X → X → Type 0) → JSXSpreadChild X → JSXSpreadChild X → Type 0
same_jsx_spread_child m n r = (r ≡ record n { expr = r.expr }) × bracketed nt.Expression m n.expr r.expr

unfoldable pub same_jsx_element_child : {X : Type 0} → (Usage → X → X → Type 0) → JSXElementChild X → JSXElementChild X → Type 0
same_jsx_element_child m (jsx_element_childs.JSXExprContainer n) (jsx_element_childs.JSXExprContainer r) = same_jsx_expr_container m n r
same_jsx_element_child m (jsx_element_childs.JSXSpreadChild n) (jsx_element_childs.JSXSpreadChild r) = same_jsx_spread_child m n r
same_jsx_element_child m (jsx_element_childs.JSXElement n) (jsx_element_childs.JSXElement r) = linked m n r
same_jsx_element_child m (jsx_element_childs.JSXFragment n) (jsx_element_childs.JSXFragment r) = linked m n r
same_jsx_element_child m n r = n ≡ r

unfoldable pub same_jsx_element : {X : Type 0} → (Usage → X → X → Type 0) → JSXElement X → JSXElement X → Type 0
same_jsx_element m n r =
    (r ≡ record n { opening = r.opening; children = r.children }) × (same_jsx_opening_element m n.opening r.opening × Pairwise (same_jsx_element_child m) n.children.items r.children.items)

unfoldable pub same_jsx_fragment : {X : Type 0} → (Usage → X → X → Type 0) → JSXFragment X → JSXFragment X → Type 0
same_jsx_fragment m n r = (r ≡ record n { children = r.children }) × Pairwise (same_jsx_element_child m) n.children.items r.children.items
