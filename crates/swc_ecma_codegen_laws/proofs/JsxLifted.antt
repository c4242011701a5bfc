-- Jsx: a law of the words holds of the plan.
use Rattle.std.specs.Prelude.{ℕ, Bool, true, false, List, [], ◌∷◌, codes, Option, Some, None, string_bytes}
use Rattle.swc_ecma_codegen_tree.specs.declared.idents.Ident.{Ident}
use Rattle.swc_ecma_codegen_tree.specs.declared.idents.IdentName.{IdentName}
use Rattle.swc_ecma_codegen_tree.specs.declared.lits.Lit.{Lit}
use Rattle.swc_ecma_codegen_tree.specs.declared.lits.Lit.TheVariants as lits
use Rattle.swc_ecma_codegen_tree.specs.declared.jsx.JSXAttr.{JSXAttr}
use Rattle.swc_ecma_codegen_tree.specs.declared.jsx.JSXAttrName.{JSXAttrName}
use Rattle.swc_ecma_codegen_tree.specs.declared.jsx.JSXAttrName.TheVariants as attr_names
use Rattle.swc_ecma_codegen_tree.specs.declared.jsx.JSXAttrOrSpread.{JSXAttrOrSpread}
use Rattle.swc_ecma_codegen_tree.specs.declared.jsx.JSXAttrOrSpread.TheVariants as attrs
use Rattle.swc_ecma_codegen_tree.specs.declared.jsx.JSXAttrValue.{JSXAttrValue}
use Rattle.swc_ecma_codegen_tree.specs.declared.jsx.JSXAttrValue.TheVariants as attr_values
use Rattle.swc_ecma_codegen_tree.specs.declared.jsx.JSXClosingElement.{JSXClosingElement}
use Rattle.swc_ecma_codegen_tree.specs.declared.jsx.JSXElement.{JSXElement}
use Rattle.swc_ecma_codegen_tree.specs.declared.jsx.JSXElementChild.{JSXElementChild}
use Rattle.swc_ecma_codegen_tree.specs.declared.jsx.JSXElementChild.TheVariants as children
use Rattle.swc_ecma_codegen_tree.specs.declared.jsx.JSXElementName.{JSXElementName}
use Rattle.swc_ecma_codegen_tree.specs.declared.jsx.JSXElementName.TheVariants as element_names
use Rattle.swc_ecma_codegen_tree.specs.declared.jsx.JSXExpr.{JSXExpr}
use Rattle.swc_ecma_codegen_tree.specs.declared.jsx.JSXExpr.TheVariants as contents
use Rattle.swc_ecma_codegen_tree.specs.declared.jsx.JSXExprContainer.{JSXExprContainer}
use Rattle.swc_ecma_codegen_tree.specs.declared.jsx.JSXFragment.{JSXFragment}
use Rattle.swc_ecma_codegen_tree.specs.declared.jsx.JSXMemberExpr.{JSXMemberExpr}
use Rattle.swc_ecma_codegen_tree.specs.declared.jsx.JSXNamespacedName.{JSXNamespacedName}
use Rattle.swc_ecma_codegen_tree.specs.declared.jsx.JSXObject.{JSXObject}
use Rattle.swc_ecma_codegen_tree.specs.declared.jsx.JSXObject.TheVariants as objects
use Rattle.swc_ecma_codegen_tree.specs.declared.jsx.JSXOpeningElement.{JSXOpeningElement}
use Rattle.swc_ecma_codegen_tree.specs.declared.jsx.JSXSpreadChild.{JSXSpreadChild}
use Rattle.swc_ecma_codegen_tokens.specs.Run.{Part}
use Rattle.swc_ecma_codegen_emit.specs.declared.nodes.Context.{Context}
use Rattle.swc_ecma_codegen_emit.specs.declared.nodes.Context.TheVariants.{Plain, Child}
use Rattle.swc_ecma_codegen_emit.specs.Places.{Whole}
use Rattle.swc_ecma_codegen_laws.proofs.OfWords.{OfWords, Known, asks_in, items_in, either}
use Rattle.swc_ecma_codegen_emit.specs.Jsx.{tag_ident, tag_ident_name, jsx_member_expr, jsx_namespaced_name, jsx_object, jsx_element_name, jsx_attr_name, open_at, jsx_expr, jsx_expr_container, jsx_spread_child, jsx_attr_lit, jsx_attr_value, attr_initializer, jsx_attr, jsx_attr_or_spread, jsx_attributes, self_closing, jsx_opening_element, jsx_closing_element, jsx_element_child, jsx_children, optional_closing, jsx_element_parts, opening_fragment, closing_fragment, jsx_fragment_parts}
use Rattle.swc_ecma_codegen_laws.proofs.AnnotationsLifted.{type_args_holds}
use Rattle.swc_ecma_codegen_laws.proofs.ExprsLifted.{blank_holds, spread_element_holds}
use Rattle.swc_ecma_codegen_laws.proofs.ListsLifted.{in_order_holds}
use Rattle.swc_ecma_codegen_laws.proofs.LitsLifted.{lit_at_holds}

pub tag_ident_holds : {holds : Bool → Part → Type 0} (words : OfWords holds) (bounded : Bool) (n : Ident) → holds bounded (tag_ident n)
unfolding tag_ident
tag_ident_holds words bounded n = words.tag_name bounded n.span (string_bytes n.sym)

pub tag_ident_name_holds : {holds : Bool → Part → Type 0} (words : OfWords holds) (bounded : Bool) (n : IdentName) → holds bounded (tag_ident_name n)
unfolding tag_ident_name
tag_ident_name_holds words bounded n = words.tag_name bounded n.span (string_bytes n.sym)

pub jsx_member_expr_holds : {X : Type 0} {holds : Bool → Part → Type 0} (known : Known holds X) (bounded : Bool) (n : JSXMemberExpr X) → holds bounded (jsx_member_expr (items_in known) n)
unfolding jsx_member_expr
jsx_member_expr_holds known bounded n = known.words.and_then bounded (known.law bounded n.obj.node.value (Whole Plain)) (known.words.and_then bounded (known.words.punct bounded (codes ".")) (tag_ident_name_holds known.words bounded n.prop))

pub jsx_namespaced_name_holds : {holds : Bool → Part → Type 0} (words : OfWords holds) (bounded : Bool) (n : JSXNamespacedName) → holds bounded (jsx_namespaced_name n)
unfolding jsx_namespaced_name
jsx_namespaced_name_holds words bounded n = words.and_then bounded (tag_ident_name_holds words bounded n.ns) (words.and_then bounded (words.punct bounded (codes ":")) (tag_ident_name_holds words bounded n.name))

pub jsx_object_holds : {X : Type 0} {holds : Bool → Part → Type 0} (known : Known holds X) (bounded : Bool) (x1 : JSXObject X) → holds bounded (jsx_object (items_in known) x1)
unfolding jsx_object
jsx_object_holds known bounded (objects.JSXMemberExpr n) = jsx_member_expr_holds known bounded n
jsx_object_holds known bounded (objects.Ident n) = tag_ident_holds known.words bounded n

pub jsx_element_name_holds : {X : Type 0} {holds : Bool → Part → Type 0} (known : Known holds X) (bounded : Bool) (x1 : JSXElementName X) → holds bounded (jsx_element_name (items_in known) x1)
unfolding jsx_element_name
jsx_element_name_holds known bounded (element_names.Ident n) = tag_ident_holds known.words bounded n
jsx_element_name_holds known bounded (element_names.JSXMemberExpr n) = jsx_member_expr_holds known bounded n
jsx_element_name_holds known bounded (element_names.JSXNamespacedName n) = jsx_namespaced_name_holds known.words bounded n

pub jsx_attr_name_holds : {holds : Bool → Part → Type 0} (words : OfWords holds) (bounded : Bool) (x0 : JSXAttrName) → holds bounded (jsx_attr_name x0)
unfolding jsx_attr_name
jsx_attr_name_holds words bounded (attr_names.Ident n) = tag_ident_name_holds words bounded n
jsx_attr_name_holds words bounded (attr_names.JSXNamespacedName n) = jsx_namespaced_name_holds words bounded n

pub open_at_holds : {holds : Bool → Part → Type 0} (words : OfWords holds) (context : Context) (t : List ℕ) → holds false (open_at context t)
unfolding open_at
open_at_holds words Child t = words.child_open t
open_at_holds words context t = words.bare_punct t

pub jsx_expr_holds : {X : Type 0} {holds : Bool → Part → Type 0} (known : Known holds X) (bounded : Bool) (x1 : JSXExpr X) → holds bounded (jsx_expr (items_in known) x1)
unfolding jsx_expr
jsx_expr_holds known bounded (contents.JSXEmptyExpr n) = known.words.none bounded
jsx_expr_holds known bounded (contents.Expr n) = known.law bounded n.node.value (Whole Plain)

pub jsx_expr_container_holds : {X : Type 0} {holds : Bool → Part → Type 0} (known : Known holds X) (n : JSXExprContainer X) (context : Context) → holds false (jsx_expr_container (items_in known) n context)
unfolding jsx_expr_container
jsx_expr_container_holds known n context = known.words.and_then false (open_at_holds known.words context (codes "{")) (known.words.and_then false (jsx_expr_holds known false n.expr) (known.words.punct false (codes "}")))

pub jsx_spread_child_holds : {X : Type 0} {holds : Bool → Part → Type 0} (known : Known holds X) (n : JSXSpreadChild X) → holds false (jsx_spread_child (items_in known) n)
unfolding jsx_spread_child
jsx_spread_child_holds known n = known.words.and_then false (known.words.child_open (codes "{")) (known.words.and_then false (known.words.punct false (codes "...")) (known.words.and_then false (known.law false n.expr.node.value (Whole Plain)) (known.words.punct false (codes "}"))))

pub jsx_attr_lit_holds : {holds : Bool → Part → Type 0} (words : OfWords holds) (bounded : Bool) (n : Lit) → holds bounded (jsx_attr_lit n)
unfolding jsx_attr_lit
jsx_attr_lit_holds words bounded (lits.Str n) = words.attribute_string bounded n
jsx_attr_lit_holds words bounded n = lit_at_holds words bounded n Plain

pub jsx_attr_value_holds : {X : Type 0} {holds : Bool → Part → Type 0} (known : Known holds X) (x1 : JSXAttrValue X) → holds false (jsx_attr_value (items_in known) x1)
unfolding jsx_attr_value
jsx_attr_value_holds known (attr_values.Lit n) = jsx_attr_lit_holds known.words false n
jsx_attr_value_holds known (attr_values.JSXExprContainer n) = jsx_expr_container_holds known n Plain
jsx_attr_value_holds known (attr_values.JSXElement n) = known.law false n.node.value (Whole Plain)
jsx_attr_value_holds known (attr_values.JSXFragment n) = known.law false n.node.value (Whole Plain)

pub attr_initializer_holds : {X : Type 0} {holds : Bool → Part → Type 0} (known : Known holds X) (x1 : Option (JSXAttrValue X)) → holds false (attr_initializer (items_in known) x1)
unfolding attr_initializer
attr_initializer_holds known None = known.words.none false
attr_initializer_holds known (Some n) = known.words.and_then false (known.words.punct false (codes "=")) (jsx_attr_value_holds known n)

pub jsx_attr_holds : {X : Type 0} {holds : Bool → Part → Type 0} (known : Known holds X) (n : JSXAttr X) → holds false (jsx_attr (items_in known) n)
unfolding jsx_attr
jsx_attr_holds known n = known.words.and_then false (jsx_attr_name_holds known.words false n.name) (attr_initializer_holds known n.value)

pub jsx_attr_or_spread_holds : {X : Type 0} {holds : Bool → Part → Type 0} (known : Known holds X) (x2 : JSXAttrOrSpread X) → holds false (jsx_attr_or_spread (asks_in known) (items_in known) x2)
unfolding jsx_attr_or_spread
jsx_attr_or_spread_holds known (attrs.JSXAttr n) = jsx_attr_holds known n
jsx_attr_or_spread_holds known (attrs.SpreadElement n) = known.words.and_then false (known.words.bare_punct (codes "{")) (known.words.and_then false (spread_element_holds known false n) (known.words.punct false (codes "}")))

pub jsx_attributes_holds : {A : Type 0} {holds : Bool → Part → Type 0} (words : OfWords holds) (each : A → Part) → ((x : A) → holds false (each x)) → (first : Bool) (x2 : List A) → holds false (jsx_attributes each first x2)
unfolding jsx_attributes
jsx_attributes_holds words each h_each first [] = words.none false
jsx_attributes_holds words each h_each first (x ∷ xs) = words.and_then false (blank_holds words false first) (words.and_then false (h_each x) (jsx_attributes_holds words each h_each false xs))

pub self_closing_holds : {holds : Bool → Part → Type 0} (words : OfWords holds) (bounded : Bool) (closes : Bool) → holds bounded (self_closing closes)
unfolding self_closing
self_closing_holds words bounded closes = either words bounded closes (words.punct bounded (codes "/")) (words.none bounded)

pub jsx_opening_element_holds : {X : Type 0} {holds : Bool → Part → Type 0} (known : Known holds X) (n : JSXOpeningElement X) (context : Context) → holds false (jsx_opening_element (asks_in known) (items_in known) n context)
unfolding jsx_opening_element
jsx_opening_element_holds known n context = known.words.and_then false (open_at_holds known.words context (codes "<")) (known.words.and_then false (jsx_element_name_holds known false n.name) (known.words.and_then false (type_args_holds known false Plain n.type_args) (known.words.and_then false (jsx_attributes_holds known.words (jsx_attr_or_spread (asks_in known) (items_in known)) (λ x. (jsx_attr_or_spread_holds known x)) true n.attrs.items) (known.words.and_then false (self_closing_holds known.words false n.self_closing) (known.words.close false)))))

pub jsx_closing_element_holds : {X : Type 0} {holds : Bool → Part → Type 0} (known : Known holds X) (n : JSXClosingElement X) → holds false (jsx_closing_element (items_in known) n)
unfolding jsx_closing_element
jsx_closing_element_holds known n = known.words.and_then false (known.words.child_open (codes "<")) (known.words.and_then false (known.words.punct false (codes "/")) (known.words.and_then false (jsx_element_name_holds known false n.name) (known.words.close false)))

pub jsx_element_child_holds : {X : Type 0} {holds : Bool → Part → Type 0} (known : Known holds X) (x1 : JSXElementChild X) → holds false (jsx_element_child (items_in known) x1)
unfolding jsx_element_child
jsx_element_child_holds known (children.JSXText n) = known.words.jsx_text_node false n
jsx_element_child_holds known (children.JSXExprContainer n) = jsx_expr_container_holds known n Child
jsx_element_child_holds known (children.JSXSpreadChild n) = jsx_spread_child_holds known n
jsx_element_child_holds known (children.JSXElement n) = known.law false n.node.value (Whole Child)
jsx_element_child_holds known (children.JSXFragment n) = known.law false n.node.value (Whole Child)

pub jsx_children_holds : {X : Type 0} {holds : Bool → Part → Type 0} (known : Known holds X) (ns : List (JSXElementChild X)) → holds false (jsx_children (items_in known) ns)
unfolding jsx_children
jsx_children_holds known ns = in_order_holds known.words false (jsx_element_child (items_in known)) (λ x. (jsx_element_child_holds known x)) ns

pub optional_closing_holds : {X : Type 0} {holds : Bool → Part → Type 0} (known : Known holds X) (x1 : Option (JSXClosingElement X)) → holds false (optional_closing (items_in known) x1)
unfolding optional_closing
optional_closing_holds known None = known.words.none false
optional_closing_holds known (Some n) = jsx_closing_element_holds known n

pub jsx_element_parts_holds : {X : Type 0} {holds : Bool → Part → Type 0} (known : Known holds X) (n : JSXElement X) (context : Context) → holds false (jsx_element_parts (asks_in known) (items_in known) n context)
unfolding jsx_element_parts
jsx_element_parts_holds known n context = known.words.and_then false (jsx_opening_element_holds known n.opening context) (known.words.and_then false (jsx_children_holds known n.children.items) (optional_closing_holds known n.closing))

pub opening_fragment_holds : {holds : Bool → Part → Type 0} (words : OfWords holds) (context : Context) → holds false (opening_fragment context)
unfolding opening_fragment
opening_fragment_holds words context = words.and_then false (open_at_holds words context (codes "<")) (words.close false)

pub closing_fragment_holds : {holds : Bool → Part → Type 0} (words : OfWords holds) → holds false closing_fragment
unfolding closing_fragment
closing_fragment_holds words = words.and_then false (words.child_open (codes "<")) (words.and_then false (words.punct false (codes "/")) (words.close false))

pub jsx_fragment_parts_holds : {X : Type 0} {holds : Bool → Part → Type 0} (known : Known holds X) (n : JSXFragment X) (context : Context) → holds false (jsx_fragment_parts (items_in known) n context)
unfolding jsx_fragment_parts
jsx_fragment_parts_holds known n context = known.words.and_then false (opening_fragment_holds known.words context) (known.words.and_then false (jsx_children_holds known n.children.items) (closing_fragment_holds known.words))
