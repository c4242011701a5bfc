-- Maps of JSX: of each type, over names and what links hold as something else. Made by scripts/dev/make-visit-files.
use Rattle.std.specs.formers.vec.Vec.{mapped as vec_mapped}
use Rattle.swc_ecma_codegen_tree.specs.declared.idents.Ident.{Ident}
use Rattle.swc_ecma_codegen_tree.specs.declared.jsx.JSXAttr.{JSXAttr}
use Rattle.swc_ecma_codegen_tree.specs.declared.jsx.JSXAttrOrSpread.{JSXAttrOrSpread}
use Rattle.swc_ecma_codegen_tree.specs.declared.jsx.JSXAttrValue.{JSXAttrValue}
use Rattle.swc_ecma_codegen_tree.specs.declared.jsx.JSXClosingElement.{JSXClosingElement}
use Rattle.swc_ecma_codegen_tree.specs.declared.jsx.JSXElement.{JSXElement}
use Rattle.swc_ecma_codegen_tree.specs.declared.jsx.JSXElementChild.{JSXElementChild}
use Rattle.swc_ecma_codegen_tree.specs.declared.jsx.JSXElementName.{JSXElementName}
use Rattle.swc_ecma_codegen_tree.specs.declared.jsx.JSXExpr.{JSXExpr}
use Rattle.swc_ecma_codegen_tree.specs.declared.jsx.JSXExprContainer.{JSXExprContainer}
use Rattle.swc_ecma_codegen_tree.specs.declared.jsx.JSXFragment.{JSXFragment}
use Rattle.swc_ecma_codegen_tree.specs.declared.jsx.JSXObject.{JSXObject}
use Rattle.swc_ecma_codegen_tree.specs.declared.jsx.JSXOpeningElement.{JSXOpeningElement}
use Rattle.swc_ecma_codegen_tree.specs.declared.jsx.JSXSpreadChild.{JSXSpreadChild}
use Rattle.swc_ecma_codegen_tree.specs.declared.jsx.JSXAttrOrSpread.TheVariants as jsx_attr_or_spreads
use Rattle.swc_ecma_codegen_tree.specs.declared.jsx.JSXAttrValue.TheVariants as jsx_attr_values
use Rattle.swc_ecma_codegen_tree.specs.declared.jsx.JSXElementChild.TheVariants as jsx_element_childs
use Rattle.swc_ecma_codegen_tree.specs.declared.jsx.JSXElementName.TheVariants as jsx_element_names
use Rattle.swc_ecma_codegen_tree.specs.declared.jsx.JSXExpr.TheVariants as jsx_exprs
use Rattle.swc_ecma_codegen_tree.specs.declared.jsx.JSXObject.TheVariants as jsx_objects
use Rattle.swc_ecma_codegen_visit.specs.Mapping.{map_link, map_option}
use Rattle.swc_ecma_codegen_visit.specs.MappedExprs.{map_jsx_member_expr, map_spread_element}

abbrev pub map_jsx_element_name : {X : Type 0} → (Ident → Ident) → (X → X) → JSXElementName X → JSXElementName X
map_jsx_element_name g f (jsx_element_names.Ident n) = jsx_element_names.Ident (g n)
map_jsx_element_name g f (jsx_element_names.JSXMemberExpr n) = jsx_element_names.JSXMemberExpr (map_jsx_member_expr g f n)
map_jsx_element_name g f (jsx_element_names.JSXNamespacedName n) = jsx_element_names.JSXNamespacedName n

abbrev pub map_jsx_expr : {X : Type 0} → (Ident → Ident) → (X → X) → JSXExpr X → JSXExpr X
map_jsx_expr g f (jsx_exprs.JSXEmptyExpr n) = jsx_exprs.JSXEmptyExpr n
map_jsx_expr g f (jsx_exprs.Expr n) = jsx_exprs.Expr (map_link f n)

abbrev pub map_jsx_expr_container : {X : Type 0} → (Ident → Ident) → (X → X) → JSXExprContainer X → JSXExprContainer X
map_jsx_expr_container g f n = record n { expr = map_jsx_expr g f n.expr }

abbrev pub map_jsx_attr_value : {X : Type 0} → (Ident → Ident) → (X → X) → JSXAttrValue X → JSXAttrValue X
map_jsx_attr_value g f (jsx_attr_values.Lit n) = jsx_attr_values.Lit n
map_jsx_attr_value g f (jsx_attr_values.JSXExprContainer n) = jsx_attr_values.JSXExprContainer (map_jsx_expr_container g f n)
map_jsx_attr_value g f (jsx_attr_values.JSXElement n) = jsx_attr_values.JSXElement (map_link f n)
map_jsx_attr_value g f (jsx_attr_values.JSXFragment n) = jsx_attr_values.JSXFragment (map_link f n)

abbrev pub map_jsx_attr : {X : Type 0} → (Ident → Ident) → (X → X) → JSXAttr X → JSXAttr X
map_jsx_attr g f n = record n { value = map_option (map_jsx_attr_value g f) n.value }

abbrev pub map_jsx_attr_or_spread : {X : Type 0} → (Ident → Ident) → (X → X) → JSXAttrOrSpread X → JSXAttrOrSpread X
map_jsx_attr_or_spread g f (jsx_attr_or_spreads.JSXAttr n) = jsx_attr_or_spreads.JSXAttr (map_jsx_attr g f n)
map_jsx_attr_or_spread g f (jsx_attr_or_spreads.SpreadElement n) = jsx_attr_or_spreads.SpreadElement (map_spread_element g f n)

abbrev pub map_jsx_opening_element : {X : Type 0} → (Ident → Ident) → (X → X) → JSXOpeningElement X → JSXOpeningElement X
map_jsx_opening_element g f n = record n {
  name = map_jsx_element_name g f n.name;
  attrs = vec_mapped (map_jsx_attr_or_spread g f) n.attrs;
  type_args = map_option (map_link f) n.type_args;
}

abbrev pub map_jsx_spread_child : {X : Type 0} → (Ident → Ident) → (X → X) → JSXSpreadChild X → JSXSpreadChild X
map_jsx_spread_child g f n = record n { expr = map_link f n.expr }

abbrev pub map_jsx_element_child : {X : Type 0} → (Ident → Ident) → (X → X) → JSXElementChild X → JSXElementChild X
map_jsx_element_child g f (jsx_element_childs.JSXText n) = jsx_element_childs.JSXText n
map_jsx_element_child g f (jsx_element_childs.JSXExprContainer n) = jsx_element_childs.JSXExprContainer (map_jsx_expr_container g f n)
map_jsx_element_child g f (jsx_element_childs.JSXSpreadChild n) = jsx_element_childs.JSXSpreadChild (map_jsx_spread_child g f n)
map_jsx_element_child g f (jsx_element_childs.JSXElement n) = jsx_element_childs.JSXElement (map_link f n)
map_jsx_element_child g f (jsx_element_childs.JSXFragment n) = jsx_element_childs.JSXFragment (map_link f n)

abbrev pub map_jsx_closing_element : {X : Type 0} → (Ident → Ident) → (X → X) → JSXClosingElement X → JSXClosingElement X
map_jsx_closing_element g f n = record n { name = map_jsx_element_name g f n.name }

abbrev pub map_jsx_element : {X : Type 0} → (Ident → Ident) → (X → X) → JSXElement X → JSXElement X
map_jsx_element g f n = record n {
  opening = map_jsx_opening_element g f n.opening;
  children = vec_mapped (map_jsx_element_child g f) n.children;
  closing = map_option (map_jsx_closing_element g f) n.closing;
}

abbrev pub map_jsx_fragment : {X : Type 0} → (Ident → Ident) → (X → X) → JSXFragment X → JSXFragment X
map_jsx_fragment g f n = record n { children = vec_mapped (map_jsx_element_child g f) n.children }

abbrev pub map_jsx_object : {X : Type 0} → (Ident → Ident) → (X → X) → JSXObject X → JSXObject X
map_jsx_object g f (jsx_objects.JSXMemberExpr n) = jsx_objects.JSXMemberExpr (map_jsx_member_expr g f n)
map_jsx_object g f (jsx_objects.Ident n) = jsx_objects.Ident (g n)
