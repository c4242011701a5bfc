-- What is written of JSX.
use Rattle.std.specs.Prelude.{ℕ, Bool, true, false, if◌then◌else◌, List, [], ◌∷◌, codes, Option, Some, None, string_bytes}
use Rattle.swc_ecma_codegen_tree.specs.declared.idents.Ident.{Ident}
use Rattle.swc_ecma_codegen_tree.specs.declared.idents.IdentName.{IdentName}
use Rattle.swc_ecma_codegen_tree.specs.declared.lits.Lit.{Lit}
use Rattle.swc_ecma_codegen_tree.specs.declared.lits.Lit.TheVariants as lits
use Rattle.swc_ecma_codegen_tree.specs.declared.jsx.JSXAttr.{JSXAttr}
use Rattle.swc_ecma_codegen_tree.specs.declared.jsx.JSXAttrName.{JSXAttrName}
use Rattle.swc_ecma_codegen_tree.specs.declared.jsx.JSXAttrName.TheVariants as attr_names
use Rattle.swc_ecma_codegen_tree.specs.declared.jsx.JSXAttrOrSpread.{JSXAttrOrSpread}
use Rattle.swc_ecma_codegen_tree.specs.declared.jsx.JSXAttrOrSpread.TheVariants as attrs
use Rattle.swc_ecma_codegen_tree.specs.declared.jsx.JSXAttrValue.{JSXAttrValue}
use Rattle.swc_ecma_codegen_tree.specs.declared.jsx.JSXAttrValue.TheVariants as attr_values
use Rattle.swc_ecma_codegen_tree.specs.declared.jsx.JSXClosingElement.{JSXClosingElement}
use Rattle.swc_ecma_codegen_tree.specs.declared.jsx.JSXElement.{JSXElement}
use Rattle.swc_ecma_codegen_tree.specs.declared.jsx.JSXElementChild.{JSXElementChild}
use Rattle.swc_ecma_codegen_tree.specs.declared.jsx.JSXElementChild.TheVariants as children
use Rattle.swc_ecma_codegen_tree.specs.declared.jsx.JSXElementName.{JSXElementName}
use Rattle.swc_ecma_codegen_tree.specs.declared.jsx.JSXElementName.TheVariants as element_names
use Rattle.swc_ecma_codegen_tree.specs.declared.jsx.JSXExpr.{JSXExpr}
use Rattle.swc_ecma_codegen_tree.specs.declared.jsx.JSXExpr.TheVariants as contents
use Rattle.swc_ecma_codegen_tree.specs.declared.jsx.JSXExprContainer.{JSXExprContainer}
use Rattle.swc_ecma_codegen_tree.specs.declared.jsx.JSXFragment.{JSXFragment}
use Rattle.swc_ecma_codegen_tree.specs.declared.jsx.JSXMemberExpr.{JSXMemberExpr}
use Rattle.swc_ecma_codegen_tree.specs.declared.jsx.JSXNamespacedName.{JSXNamespacedName}
use Rattle.swc_ecma_codegen_tree.specs.declared.jsx.JSXObject.{JSXObject}
use Rattle.swc_ecma_codegen_tree.specs.declared.jsx.JSXObject.TheVariants as objects
use Rattle.swc_ecma_codegen_tree.specs.declared.jsx.JSXOpeningElement.{JSXOpeningElement}
use Rattle.swc_ecma_codegen_tree.specs.declared.jsx.JSXSpreadChild.{JSXSpreadChild}
use Rattle.swc_ecma_codegen_tree.specs.declared.parts.JSXPart.{JSXPart}
use Rattle.swc_ecma_codegen_tree.specs.declared.parts.JSXPart.TheVariants as jsx_parts
use Rattle.swc_ecma_codegen_tokens.specs.Run.{unbounded, Part}
use Rattle.swc_ecma_codegen_tokens.specs.Attributes.{attribute_string, jsx_text_node}
use Rattle.swc_ecma_codegen_tokens.specs.Tags.{tag_name, child_open, close}
use Rattle.swc_ecma_codegen_tokens.specs.Words.{bare_punct, punct}
use Rattle.swc_ecma_codegen_emit.specs.declared.nodes.Context.{Context}
use Rattle.swc_ecma_codegen_emit.specs.declared.nodes.Context.TheVariants.{Plain, Child}
use Rattle.swc_ecma_codegen_emit.specs.Places.{Place, Whole, context_of}
use Rattle.swc_ecma_codegen_emit.specs.Annotations.{type_args}
use Rattle.swc_ecma_codegen_emit.specs.Answers.{Answers}
use Rattle.swc_ecma_codegen_emit.specs.Exprs.{blank, spread_element}
use Rattle.swc_ecma_codegen_emit.specs.Lists.{in_order}
use Rattle.swc_ecma_codegen_emit.specs.Lits.{lit_at}

-- ---- names of tags and of attributes: as they are in the tree, without `?`

unfoldable pub tag_ident : Ident → Part
tag_ident n rest = tag_name n.span (string_bytes n.sym) rest

unfoldable pub tag_ident_name : IdentName → Part
tag_ident_name n rest = tag_name n.span (string_bytes n.sym) rest

-- `a.b`
unfoldable pub jsx_member_expr : {X : Type 0} → (X → Place → Part) → JSXMemberExpr X → Part
jsx_member_expr items n rest = items n.obj.node.value (Whole Plain) (punct (codes ".") (tag_ident_name n.prop rest))

-- `a:b`
unfoldable pub jsx_namespaced_name : JSXNamespacedName → Part
jsx_namespaced_name n rest = tag_ident_name n.ns (punct (codes ":") (tag_ident_name n.name rest))

unfoldable pub jsx_object : {X : Type 0} → (X → Place → Part) → JSXObject X → Part
jsx_object items (objects.JSXMemberExpr n) rest = jsx_member_expr items n rest
jsx_object items (objects.Ident n) rest = tag_ident n rest

unfoldable pub jsx_element_name : {X : Type 0} → (X → Place → Part) → JSXElementName X → Part
jsx_element_name items (element_names.Ident n) rest = tag_ident n rest
jsx_element_name items (element_names.JSXMemberExpr n) rest = jsx_member_expr items n rest
jsx_element_name items (element_names.JSXNamespacedName n) rest = jsx_namespaced_name n rest

unfoldable pub jsx_attr_name : JSXAttrName → Part
jsx_attr_name (attr_names.Ident n) rest = tag_ident_name n rest
jsx_attr_name (attr_names.JSXNamespacedName n) rest = jsx_namespaced_name n rest

-- ---- expressions in braces

-- the `{` or `<` of a child, and of what is none
unfoldable pub open_at : Context → List ℕ → Part
open_at Child t rest = child_open t rest
open_at context t rest = bare_punct t rest

unfoldable pub jsx_expr : {X : Type 0} → (X → Place → Part) → JSXExpr X → Part
jsx_expr items (contents.JSXEmptyExpr n) rest = rest
jsx_expr items (contents.Expr n) rest = items n.node.value (Whole Plain) rest

-- `{a}`, `{}`
unfoldable pub jsx_expr_container : {X : Type 0} → (X → Place → Part) → JSXExprContainer X → Context → Part
jsx_expr_container items n context rest = open_at context (codes "{") (jsx_expr items n.expr (punct (codes "}") rest))

-- `{...a}` between tags
unfoldable pub jsx_spread_child : {X : Type 0} → (X → Place → Part) → JSXSpreadChild X → Part
jsx_spread_child items n rest = child_open (codes "{") (punct (codes "...") (items n.expr.node.value (Whole Plain) (punct (codes "}") rest)))

-- ---- attributes

-- the value of an attribute: a string has no escapes
unfoldable pub jsx_attr_lit : Lit → Part
jsx_attr_lit (lits.Str n) rest = attribute_string n rest
jsx_attr_lit n rest = lit_at n Plain rest

unfoldable pub jsx_attr_value : {X : Type 0} → (X → Place → Part) → JSXAttrValue X → Part
jsx_attr_value items (attr_values.Lit n) rest = jsx_attr_lit n rest
jsx_attr_value items (attr_values.JSXExprContainer n) rest = jsx_expr_container items n Plain rest
jsx_attr_value items (attr_values.JSXElement n) rest = items n.node.value (Whole Plain) rest
jsx_attr_value items (attr_values.JSXFragment n) rest = items n.node.value (Whole Plain) rest

-- `="b"`
unfoldable pub attr_initializer : {X : Type 0} → (X → Place → Part) → Option (JSXAttrValue X) → Part
attr_initializer items None rest = rest
attr_initializer items (Some n) rest = punct (codes "=") (jsx_attr_value items n rest)

unfoldable pub jsx_attr : {X : Type 0} → (X → Place → Part) → JSXAttr X → Part
jsx_attr items n rest = jsx_attr_name n.name (attr_initializer items n.value rest)

-- `a="b"`, `{...a}`
unfoldable pub jsx_attr_or_spread : {X : Type 0} → (X → Answers) → (X → Place → Part) → JSXAttrOrSpread X → Part
jsx_attr_or_spread asks items (attrs.JSXAttr n) rest = jsx_attr items n rest
jsx_attr_or_spread asks items (attrs.SpreadElement n) rest = bare_punct (codes "{") (spread_element asks items n (punct (codes "}") rest))

-- A blank stands before the first always, and before each other one unless minified.
unfoldable pub jsx_attributes : {A : Type 0} → (A → Part) → Bool → List A → Part
jsx_attributes each first [] rest = rest
jsx_attributes each first (x ∷ xs) rest = blank first (each x (jsx_attributes each false xs rest))

-- ---- elements

unfoldable pub self_closing : Bool → Part
self_closing closes rest = if closes then punct (codes "/") rest else rest

-- `<a<A> b="c">`, `<a/>`
unfoldable pub jsx_opening_element : {X : Type 0} → (X → Answers) → (X → Place → Part) → JSXOpeningElement X → Context → Part
jsx_opening_element asks items n context rest =
    open_at context (codes "<")
    (jsx_element_name items n.name
    (type_args items Plain n.type_args
    (jsx_attributes (jsx_attr_or_spread asks items) true n.attrs.items (self_closing n.self_closing (close rest)))))

-- `</a>`
unfoldable pub jsx_closing_element : {X : Type 0} → (X → Place → Part) → JSXClosingElement X → Part
jsx_closing_element items n rest = child_open (codes "<") (punct (codes "/") (jsx_element_name items n.name (close rest)))

unfoldable pub jsx_element_child : {X : Type 0} → (X → Place → Part) → JSXElementChild X → Part
jsx_element_child items (children.JSXText n) rest = jsx_text_node n rest
jsx_element_child items (children.JSXExprContainer n) rest = jsx_expr_container items n Child rest
jsx_element_child items (children.JSXSpreadChild n) rest = jsx_spread_child items n rest
jsx_element_child items (children.JSXElement n) rest = items n.node.value (Whole Child) rest
jsx_element_child items (children.JSXFragment n) rest = items n.node.value (Whole Child) rest

-- nothing stands between children
unfoldable pub jsx_children : {X : Type 0} → (X → Place → Part) → List (JSXElementChild X) → Part
jsx_children items ns rest = in_order (jsx_element_child items) ns rest

unfoldable pub optional_closing : {X : Type 0} → (X → Place → Part) → Option (JSXClosingElement X) → Part
optional_closing items None rest = rest
optional_closing items (Some n) rest = jsx_closing_element items n rest

unfoldable pub jsx_element_parts : {X : Type 0} → (X → Answers) → (X → Place → Part) → JSXElement X → Context → Part
jsx_element_parts asks items n context rest = jsx_opening_element asks items n.opening context (jsx_children items n.children.items (optional_closing items n.closing rest))

-- no line may be ended in it
unfoldable pub jsx_element : {X : Type 0} → (X → Answers) → (X → Place → Part) → JSXElement X → Context → Part
jsx_element asks items n context = unbounded (jsx_element_parts asks items n context)

-- `<>`, `</>`
unfoldable pub opening_fragment : Context → Part
opening_fragment context rest = open_at context (codes "<") (close rest)

unfoldable pub closing_fragment : Part
closing_fragment rest = child_open (codes "<") (punct (codes "/") (close rest))

unfoldable pub jsx_fragment_parts : {X : Type 0} → (X → Place → Part) → JSXFragment X → Context → Part
jsx_fragment_parts items n context rest = opening_fragment context (jsx_children items n.children.items (closing_fragment rest))

unfoldable pub jsx_fragment : {X : Type 0} → (X → Place → Part) → JSXFragment X → Context → Part
jsx_fragment items n context = unbounded (jsx_fragment_parts items n context)

-- ---- the parts of JSX that links hold, by their sorts

unfoldable pub jsx_part : {X : Type 0} → (X → Answers) → (X → Place → Part) → JSXPart X → Place → Part
jsx_part asks items (jsx_parts.JSXElement n) place rest = jsx_element asks items n.value (context_of place) rest
jsx_part asks items (jsx_parts.JSXFragment n) place rest = jsx_fragment items n (context_of place) rest
jsx_part asks items (jsx_parts.JSXObject n) place rest = jsx_object items n rest
