-- JSX: one production a node, with nonterminals. JSX specification, sections "JSX Elements", "JSX Attributes" and "JSX Children".
use Rattle.std.specs.Prelude.{Bool, true, false, not, ◌&&◌, ◌==◌, is_some, codes, List, length, Option, Some, None, if◌then◌else◌}
use Rattle.swc_ecma_codegen_tree.specs.declared.jsx.JSXAttrOrSpread.{JSXAttrOrSpread}
use Rattle.swc_ecma_codegen_tree.specs.declared.jsx.JSXAttrOrSpread.TheVariants as attrs
use Rattle.swc_ecma_codegen_tree.specs.declared.jsx.JSXAttrValue.{JSXAttrValue}
use Rattle.swc_ecma_codegen_tree.specs.declared.jsx.JSXAttrValue.TheVariants as attr_values
use Rattle.swc_ecma_codegen_tree.specs.declared.jsx.JSXClosingElement.{JSXClosingElement}
use Rattle.swc_ecma_codegen_tree.specs.declared.jsx.JSXElement.{JSXElement}
use Rattle.swc_ecma_codegen_tree.specs.declared.jsx.JSXElementChild.{JSXElementChild}
use Rattle.swc_ecma_codegen_tree.specs.declared.jsx.JSXElementChild.TheVariants as children
use Rattle.swc_ecma_codegen_tree.specs.declared.jsx.JSXElementName.{JSXElementName}
use Rattle.swc_ecma_codegen_tree.specs.declared.jsx.JSXElementName.TheVariants as element_names
use Rattle.swc_ecma_codegen_tree.specs.declared.jsx.JSXExpr.{JSXExpr}
use Rattle.swc_ecma_codegen_tree.specs.declared.jsx.JSXExpr.TheVariants as contained
use Rattle.swc_ecma_codegen_tree.specs.declared.jsx.JSXExprContainer.{JSXExprContainer}
use Rattle.swc_ecma_codegen_tree.specs.declared.jsx.JSXFragment.{JSXFragment}
use Rattle.swc_ecma_codegen_tree.specs.declared.jsx.JSXMemberExpr.{JSXMemberExpr}
use Rattle.swc_ecma_codegen_tree.specs.declared.jsx.JSXObject.{JSXObject}
use Rattle.swc_ecma_codegen_tree.specs.declared.jsx.JSXObject.TheVariants as objects
use Rattle.swc_ecma_codegen_tree.specs.declared.jsx.JSXOpeningElement.{JSXOpeningElement}
use Rattle.swc_ecma_codegen_tree.specs.declared.jsx.JSXSpreadChild.{JSXSpreadChild}
use Rattle.swc_ecma_codegen_grammar.specs.Phrases.{Never, Nothing, One, ◌>◌, mark}
use Rattle.swc_ecma_codegen_grammar.specs.JsxPhrases.{tag_ident, tag_ident_name, jsx_namespaced_name, jsx_attr_name, jsx_attr_lit, open_mark, self_close, jsx_text, is_parted, ends_in_text, jsx_opening_fragment, jsx_closing_fragment}
use Rattle.swc_ecma_codegen_grammar.specs.Tokens as tokens
use Rattle.swc_ecma_codegen_grammar.specs.declared.roles.Role.TheVariants.{Element, Child, TagObject}
use Rattle.swc_ecma_codegen_syntax.specs.declared.nonterminals.Nonterminal.TheVariants as nt
use Rattle.swc_ecma_codegen_syntax.specs.declared.parameters.Parameters.{Parameters}
use Rattle.swc_ecma_codegen_syntax.specs.Parameters.{with_in}
use Rattle.swc_ecma_codegen_syntax.specs.Forms.{Form, Fixed, Part, Provided, ByRule, ◌⇢◌, in_order}
use Rattle.swc_ecma_codegen_syntax.specs.MemberForms.{expr_part, type_args_form}
use Rattle.swc_ecma_codegen_syntax.specs.ObjectForms.{spread_form}

-- ---- names

-- JSXMemberExpression: `a.b`
unfoldable pub tag_member_form : {X : Type 0} → Parameters → JSXMemberExpr X → Form X
tag_member_form c n = Part nt.JSXObject c TagObject n.obj.node.value ⇢ Fixed (mark (codes ".") > tag_ident_name n.prop)

unfoldable pub tag_object_form : {X : Type 0} → Parameters → JSXObject X → Form X
tag_object_form c (objects.JSXMemberExpr n) = tag_member_form c n
tag_object_form c (objects.Ident n) = Fixed (tag_ident n)

-- JSXElementName
unfoldable pub element_name_form : {X : Type 0} → Parameters → JSXElementName X → Form X
element_name_form c (element_names.Ident n) = Fixed (tag_ident n)
element_name_form c (element_names.JSXMemberExpr n) = tag_member_form c n
element_name_form c (element_names.JSXNamespacedName n) = Fixed (jsx_namespaced_name n)

-- ---- what stands in braces: an Expression, as parsers take it, where the specification has an AssignmentExpression

unfoldable pub contained_form : {X : Type 0} → Parameters → JSXExpr X → Form X
contained_form c (contained.JSXEmptyExpr n) = Fixed Nothing
contained_form c (contained.Expr n) = expr_part nt.Expression (with_in c) n

unfoldable pub container_form : {X : Type 0} → Parameters → Bool → JSXExprContainer X → Form X
container_form c is_child n = Fixed (open_mark is_child (codes "{")) ⇢ contained_form c n.expr ⇢ Fixed (mark (codes "}"))

-- `{...a}` between tags
unfoldable pub spread_child_form : {X : Type 0} → Parameters → JSXSpreadChild X → Form X
spread_child_form c n = Fixed (open_mark true (codes "{")) ⇢ Fixed (mark (codes "...")) ⇢ expr_part nt.Expression (with_in c) n.expr ⇢ Fixed (mark (codes "}"))

-- ---- attributes

-- in an attribute an expression stands in them: `<a b={} />` is none
unfoldable pub holds_expression : {X : Type 0} → JSXExpr X → Bool
holds_expression (contained.JSXEmptyExpr n) = false
holds_expression (contained.Expr n) = true

unfoldable pub attr_value_form : {X : Type 0} → Parameters → JSXAttrValue X → Form X
attr_value_form c (attr_values.Lit n) = Fixed (jsx_attr_lit n)
attr_value_form c (attr_values.JSXExprContainer n) = Provided ByRule (holds_expression n.expr) (container_form c false n)
attr_value_form c (attr_values.JSXElement n) = Part nt.JSXElement (with_in c) Element n.node.value
attr_value_form c (attr_values.JSXFragment n) = Part nt.JSXElement (with_in c) Element n.node.value

unfoldable pub attr_init_form : {X : Type 0} → Parameters → Option (JSXAttrValue X) → Form X
attr_init_form c None = Fixed Nothing
attr_init_form c (Some n) = Fixed (mark (codes "=")) ⇢ attr_value_form c n

-- `a="b"`, and `{...AssignmentExpression}`
unfoldable pub attr_form : {X : Type 0} → Parameters → JSXAttrOrSpread X → Form X
attr_form c (attrs.JSXAttr n) = Fixed (jsx_attr_name n.name) ⇢ attr_init_form c n.value
attr_form c (attrs.SpreadElement n) = Fixed (mark (codes "{")) ⇢ spread_form c n ⇢ Fixed (mark (codes "}"))

-- ---- elements

-- JSXOpeningElement, and JSXSelfClosingElement
unfoldable pub opening_form : {X : Type 0} → Parameters → Bool → JSXOpeningElement X → Form X
opening_form c is_child n =
    Fixed (open_mark is_child (codes "<")) ⇢ element_name_form c n.name ⇢ type_args_form c n.type_args ⇢ in_order (attr_form c) n.attrs.items
    ⇢ Fixed (self_close n.self_closing) ⇢ Fixed (One tokens.tag_close)

-- JSXClosingElement. That its name is the one of the opening element is an early error.
unfoldable pub closing_form : {X : Type 0} → Parameters → JSXClosingElement X → Form X
closing_form c n = Fixed (open_mark true (codes "<")) ⇢ Fixed (mark (codes "/")) ⇢ element_name_form c n.name ⇢ Fixed (One tokens.tag_close)

unfoldable pub child_form : {X : Type 0} → Parameters → JSXElementChild X → Form X
child_form c (children.JSXText n) = Fixed (jsx_text n)
child_form c (children.JSXExprContainer n) = container_form c true n
child_form c (children.JSXSpreadChild n) = spread_child_form c n
child_form c (children.JSXElement n) = Part nt.JSXElement (with_in c) Child n.node.value
child_form c (children.JSXFragment n) = Part nt.JSXElement (with_in c) Child n.node.value

-- JSXChildren: no text stands right behind another
unfoldable pub children_form : {X : Type 0} → Parameters → List (JSXElementChild X) → Form X
children_form c xs = if is_parted false xs then in_order (child_form c) xs else Provided ByRule false (Fixed Never)

-- without a tag that closes them none is last
unfoldable pub unclosed_form : {X : Type 0} → Parameters → List (JSXElementChild X) → Form X
unclosed_form c xs = if not (ends_in_text false xs) then children_form c xs else Provided ByRule false (Fixed Never)

unfoldable pub element_rest_form : {X : Type 0} → Parameters → List (JSXElementChild X) → Option (JSXClosingElement X) → Form X
element_rest_form c xs None = unclosed_form c xs
element_rest_form c xs (Some n) = children_form c xs ⇢ closing_form c n

-- `<a />` alone, or `<a>` and its children up to `</a>`
unfoldable pub is_closed : {X : Type 0} → Bool → List (JSXElementChild X) → Option (JSXClosingElement X) → Bool
is_closed true xs closing = not (is_some closing) && length xs == 0
is_closed false xs closing = is_some closing

-- JSXElement
unfoldable pub element_form : {X : Type 0} → Parameters → Bool → JSXElement X → Form X
element_form c is_child n =
    Provided ByRule (is_closed n.opening.self_closing n.children.items n.closing)
    (opening_form c is_child n.opening ⇢ element_rest_form c n.children.items n.closing)

-- JSXFragment
unfoldable pub fragment_form : {X : Type 0} → Parameters → Bool → JSXFragment X → Form X
fragment_form c is_child n = Fixed (jsx_opening_fragment is_child) ⇢ children_form c n.children.items ⇢ Fixed jsx_closing_fragment
