-- The rules of JSX.
use Rattle.std.specs.Prelude.{false, ◌||◌, not, codes}
use Rattle.std.specs.Option.{is_some}
use Rattle.swc_ecma_codegen_tree.specs.declared.idents.Ident.{Ident}
use Rattle.swc_ecma_codegen_tree.specs.declared.jsx.JSXAttr.{JSXAttr}
use Rattle.swc_ecma_codegen_tree.specs.declared.jsx.JSXAttrName.{JSXAttrName}
use Rattle.swc_ecma_codegen_tree.specs.declared.jsx.JSXAttrOrSpread.{JSXAttrOrSpread}
use Rattle.swc_ecma_codegen_tree.specs.declared.jsx.JSXAttrValue.{JSXAttrValue}
use Rattle.swc_ecma_codegen_tree.specs.declared.jsx.JSXClosingElement.{JSXClosingElement}
use Rattle.swc_ecma_codegen_tree.specs.declared.jsx.JSXElement.{JSXElement}
use Rattle.swc_ecma_codegen_tree.specs.declared.jsx.JSXElementChild.{JSXElementChild}
use Rattle.swc_ecma_codegen_tree.specs.declared.jsx.JSXElementName.{JSXElementName}
use Rattle.swc_ecma_codegen_tree.specs.declared.jsx.JSXExpr.{JSXExpr}
use Rattle.swc_ecma_codegen_tree.specs.declared.jsx.JSXExprContainer.{JSXExprContainer}
use Rattle.swc_ecma_codegen_tree.specs.declared.jsx.JSXFragment.{JSXFragment}
use Rattle.swc_ecma_codegen_tree.specs.declared.jsx.JSXMemberExpr.{JSXMemberExpr}
use Rattle.swc_ecma_codegen_tree.specs.declared.jsx.JSXNamespacedName.{JSXNamespacedName}
use Rattle.swc_ecma_codegen_tree.specs.declared.jsx.JSXObject.{JSXObject}
use Rattle.swc_ecma_codegen_tree.specs.declared.jsx.JSXOpeningElement.{JSXOpeningElement}
use Rattle.swc_ecma_codegen_tree.specs.declared.jsx.JSXSpreadChild.{JSXSpreadChild}
use Rattle.swc_ecma_codegen_tree.specs.declared.lits.JSXText.{JSXText}
use Rattle.swc_ecma_codegen_tree.specs.declared.jsx.JSXElementName.TheVariants as jsx_element_names
use Rattle.swc_ecma_codegen_tree.specs.declared.jsx.JSXObject.TheVariants as jsx_objects
use Rattle.swc_ecma_codegen_tree.specs.declared.jsx.JSXAttrOrSpread.TheVariants as jsx_attr_or_spreads
use Rattle.swc_ecma_codegen_tree.specs.declared.jsx.JSXAttrName.TheVariants as jsx_attr_names
use Rattle.swc_ecma_codegen_tree.specs.declared.jsx.JSXAttrValue.TheVariants as jsx_attr_values
use Rattle.swc_ecma_codegen_tree.specs.declared.jsx.JSXElementChild.TheVariants as jsx_element_childs
use Rattle.swc_ecma_codegen_tree.specs.declared.jsx.JSXExpr.TheVariants as jsx_exprs
use Rattle.swc_ecma_codegen_grammar.specs.declared.roles.Role.TheVariants.{Child, Element, Expression, TagObject, TypeArguments}
use Rattle.swc_ecma_codegen_grammar.specs.JsxPhrases.{is_parted, ends_in_text, jsx_attr_lit, tag_ident, tag_ident_name}
use Rattle.swc_ecma_codegen_grammar.specs.JsxPhrases as jsx_phrases
use Rattle.swc_ecma_codegen_grammar.specs.Phrases.{is_possible}
use Rattle.swc_ecma_codegen_validate.specs.Rules.{Rules, Free, Each, Optional, ◌&◌, rule, at, link, leaf}
use Rattle.swc_ecma_codegen_validate.specs.ExprRules.{spread_element}

-- a name in a tag
unfoldable pub tag_rules : Ident → Rules ⊥
tag_rules n = rule (not n.optional) (codes "a name in a tag is said to be optional") & rule (is_possible (tag_ident n)) (codes "a name in a tag holds a character that no name there may")

unfoldable pub jsx_namespaced_name : JSXNamespacedName → Rules ⊥
jsx_namespaced_name n = at (codes "ns") (rule (is_possible (tag_ident_name n.ns)) (codes "a name in a tag holds a character that no name there may")) & at (codes "name") (rule (is_possible (tag_ident_name n.name)) (codes "a name in a tag holds a character that no name there may"))

unfoldable pub jsx_member_expr : {X : Type 0} → JSXMemberExpr X → Rules X
jsx_member_expr n = at (codes "obj") (link n.obj TagObject) & at (codes "prop") (rule (is_possible (tag_ident_name n.prop)) (codes "a name in a tag holds a character that no name there may"))

unfoldable pub jsx_object : {X : Type 0} → JSXObject X → Rules X
jsx_object (jsx_objects.JSXMemberExpr n) = jsx_member_expr n
jsx_object (jsx_objects.Ident n) = leaf (tag_rules n)

unfoldable pub jsx_element_name : {X : Type 0} → JSXElementName X → Rules X
jsx_element_name (jsx_element_names.Ident n) = leaf (tag_rules n)
jsx_element_name (jsx_element_names.JSXMemberExpr n) = jsx_member_expr n
jsx_element_name (jsx_element_names.JSXNamespacedName n) = leaf (jsx_namespaced_name n)

unfoldable pub jsx_attr_name : JSXAttrName → Rules ⊥
jsx_attr_name (jsx_attr_names.Ident n) = rule (is_possible (tag_ident_name n)) (codes "a name in a tag holds a character that no name there may")
jsx_attr_name (jsx_attr_names.JSXNamespacedName n) = jsx_namespaced_name n

unfoldable pub jsx_text : JSXText → Rules ⊥
jsx_text n = rule (is_possible (jsx_phrases.jsx_text n)) (codes "a text of JSX holds a brace or an angle bracket")

unfoldable pub jsx_expr : {X : Type 0} → JSXExpr X → Rules X
jsx_expr (jsx_exprs.JSXEmptyExpr n) = Free
jsx_expr (jsx_exprs.Expr n) = link n Expression

unfoldable pub jsx_expr_container : {X : Type 0} → JSXExprContainer X → Rules X
jsx_expr_container n = at (codes "expr") (jsx_expr n.expr)

unfoldable pub jsx_spread_child : {X : Type 0} → JSXSpreadChild X → Rules X
jsx_spread_child n = at (codes "expr") (link n.expr Expression)

unfoldable pub jsx_attr_value : {X : Type 0} → JSXAttrValue X → Rules X
jsx_attr_value (jsx_attr_values.Lit n) = rule (is_possible (jsx_attr_lit n)) (codes "the value of an attribute is no string that JSX can spell")
jsx_attr_value (jsx_attr_values.JSXExprContainer n) = jsx_expr_container n
jsx_attr_value (jsx_attr_values.JSXElement n) = link n Element
jsx_attr_value (jsx_attr_values.JSXFragment n) = link n Element

unfoldable pub jsx_attr : {X : Type 0} → JSXAttr X → Rules X
jsx_attr n = at (codes "name") (leaf (jsx_attr_name n.name)) & at (codes "value") (Optional n.value jsx_attr_value)

unfoldable pub jsx_attr_or_spread : {X : Type 0} → JSXAttrOrSpread X → Rules X
jsx_attr_or_spread (jsx_attr_or_spreads.JSXAttr n) = jsx_attr n
jsx_attr_or_spread (jsx_attr_or_spreads.SpreadElement n) = spread_element n

unfoldable pub jsx_opening_element : {X : Type 0} → JSXOpeningElement X → Rules X
jsx_opening_element n = at (codes "name") (jsx_element_name n.name) & at (codes "type_args") (Optional n.type_args (λ x. link x TypeArguments)) & at (codes "attrs") (Each n.attrs.items jsx_attr_or_spread)

unfoldable pub jsx_closing_element : {X : Type 0} → JSXClosingElement X → Rules X
jsx_closing_element n = at (codes "name") (jsx_element_name n.name)

unfoldable pub jsx_element_child : {X : Type 0} → JSXElementChild X → Rules X
jsx_element_child (jsx_element_childs.JSXText n) = leaf (jsx_text n)
jsx_element_child (jsx_element_childs.JSXExprContainer n) = jsx_expr_container n
jsx_element_child (jsx_element_childs.JSXSpreadChild n) = jsx_spread_child n
jsx_element_child (jsx_element_childs.JSXElement n) = link n Child
jsx_element_child (jsx_element_childs.JSXFragment n) = link n Child

unfoldable pub jsx_element : {X : Type 0} → JSXElement X → Rules X
jsx_element n = rule (is_some n.closing || not (ends_in_text false n.children.items)) (codes "an element without a closing tag ends in text") & rule (is_parted false n.children.items) (codes "a text of JSX stands right behind another") & at (codes "opening") (jsx_opening_element n.opening) & at (codes "children") (Each n.children.items jsx_element_child) & at (codes "closing") (Optional n.closing jsx_closing_element)

unfoldable pub jsx_fragment : {X : Type 0} → JSXFragment X → Rules X
jsx_fragment n = rule (is_parted false n.children.items) (codes "a text of JSX stands right behind another") & at (codes "children") (Each n.children.items jsx_element_child)
