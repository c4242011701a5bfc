-- Without nonterminals the forms of JSX are the productions that tell their tokens.
use Rattle.std.proofs.Common.{◌≡◌, Bool, true, false, cond, not, refl, ◌∙◌, ap, ap₂, List, map, codes, Option, Some, None}
use Rattle.swc_ecma_codegen_tree.specs.declared.jsx.JSXAttrOrSpread.{JSXAttrOrSpread}
use Rattle.swc_ecma_codegen_tree.specs.declared.jsx.JSXAttrOrSpread.TheVariants as attrs
use Rattle.swc_ecma_codegen_tree.specs.declared.jsx.JSXAttrValue.{JSXAttrValue}
use Rattle.swc_ecma_codegen_tree.specs.declared.jsx.JSXAttrValue.TheVariants as attr_values
use Rattle.swc_ecma_codegen_tree.specs.declared.jsx.JSXClosingElement.{JSXClosingElement}
use Rattle.swc_ecma_codegen_tree.specs.declared.jsx.JSXElement.{JSXElement}
use Rattle.swc_ecma_codegen_tree.specs.declared.jsx.JSXElementChild.{JSXElementChild}
use Rattle.swc_ecma_codegen_tree.specs.declared.jsx.JSXElementChild.TheVariants as children
use Rattle.swc_ecma_codegen_tree.specs.declared.jsx.JSXElementName.{JSXElementName}
use Rattle.swc_ecma_codegen_tree.specs.declared.jsx.JSXElementName.TheVariants as element_names
use Rattle.swc_ecma_codegen_tree.specs.declared.jsx.JSXExpr.{JSXExpr}
use Rattle.swc_ecma_codegen_tree.specs.declared.jsx.JSXExpr.TheVariants as contained
use Rattle.swc_ecma_codegen_tree.specs.declared.jsx.JSXExprContainer.{JSXExprContainer}
use Rattle.swc_ecma_codegen_tree.specs.declared.jsx.JSXFragment.{JSXFragment}
use Rattle.swc_ecma_codegen_tree.specs.declared.jsx.JSXObject.{JSXObject}
use Rattle.swc_ecma_codegen_tree.specs.declared.jsx.JSXObject.TheVariants as objects
use Rattle.swc_ecma_codegen_tree.specs.declared.jsx.JSXOpeningElement.{JSXOpeningElement}
use Rattle.swc_ecma_codegen_grammar.specs.Phrases.{Phrase, Never, One, Then, ◌>◌, where_, mark}
use Rattle.swc_ecma_codegen_grammar.specs.Phrases as phrases
use Rattle.swc_ecma_codegen_grammar.specs.JsxPhrases.{jsx_member_expr, jsx_object, jsx_element_name, jsx_attr_name, open_mark, jsx_expr, jsx_expr_container, jsx_spread_child, jsx_attr_value, jsx_attr_init, jsx_attr, jsx_attr_or_spread, self_close, jsx_opening_element, jsx_closing_element, jsx_element_child, is_parted, ends_in_text, jsx_children, jsx_rest, jsx_element, jsx_opening_fragment, jsx_closing_fragment, jsx_fragment}
use Rattle.swc_ecma_codegen_grammar.specs.AnnotationPhrases.{type_args}
use Rattle.swc_ecma_codegen_grammar.specs.PropPhrases.{spread_element}
use Rattle.swc_ecma_codegen_grammar.specs.Tokens as tokens
use Rattle.swc_ecma_codegen_grammar.specs.declared.roles.Role.{Role}
use Rattle.swc_ecma_codegen_syntax.specs.declared.parameters.Parameters.{Parameters}
use Rattle.swc_ecma_codegen_syntax.specs.Forms.{Form, Fixed, Provided, ByRule, forget, in_order}
use Rattle.swc_ecma_codegen_syntax.specs.ObjectForms.{spread_form}
use Rattle.swc_ecma_codegen_syntax.specs.JsxForms.{tag_member_form, tag_object_form, element_name_form, contained_form, container_form, spread_child_form, attr_value_form, attr_init_form, attr_form, opening_form, closing_form, child_form, children_form, unclosed_form, element_rest_form, element_form, fragment_form}
use Rattle.swc_ecma_codegen_syntax.proofs.Judged.{order_forgets, map_same}
use Rattle.swc_ecma_codegen_syntax.proofs.Forgets.{args_forget}

pub tag_object_forgets : {X : Type 0} (p : X → Role → Phrase) (c : Parameters) (n : JSXObject X) → forget p (tag_object_form c n) ≡ jsx_object p n
unfolding forget tag_object_form tag_member_form jsx_object jsx_member_expr
tag_object_forgets p c (objects.JSXMemberExpr n) = refl
tag_object_forgets p c (objects.Ident n) = refl

name_forgets : {X : Type 0} (p : X → Role → Phrase) (c : Parameters) (n : JSXElementName X) → forget p (element_name_form c n) ≡ jsx_element_name p n
unfolding forget element_name_form tag_member_form jsx_element_name jsx_member_expr
name_forgets p c (element_names.Ident n) = refl
name_forgets p c (element_names.JSXMemberExpr n) = refl
name_forgets p c (element_names.JSXNamespacedName n) = refl

contained_forgets : {X : Type 0} (p : X → Role → Phrase) (c : Parameters) (n : JSXExpr X) → forget p (contained_form c n) ≡ jsx_expr p n
unfolding forget contained_form jsx_expr
contained_forgets p c (contained.JSXEmptyExpr n) = refl
contained_forgets p c (contained.Expr n) = refl

container_forgets : {X : Type 0} (p : X → Role → Phrase) (c : Parameters) (is_child : Bool) (n : JSXExprContainer X) → forget p (container_form c is_child n) ≡ jsx_expr_container p is_child n
unfolding forget container_form jsx_expr_container
container_forgets p c is_child n = ap (λ a. open_mark is_child (codes "{") > a > mark (codes "}")) (contained_forgets p c n.expr)

value_forgets : {X : Type 0} (p : X → Role → Phrase) (c : Parameters) (n : JSXAttrValue X) → forget p (attr_value_form c n) ≡ jsx_attr_value p n
unfolding forget attr_value_form jsx_attr_value
value_forgets p c (attr_values.Lit n) = refl
value_forgets p c (attr_values.JSXExprContainer n) = container_forgets p c false n
value_forgets p c (attr_values.JSXElement n) = refl
value_forgets p c (attr_values.JSXFragment n) = refl

init_forgets : {X : Type 0} (p : X → Role → Phrase) (c : Parameters) (n : Option (JSXAttrValue X)) → forget p (attr_init_form c n) ≡ jsx_attr_init p n
unfolding forget attr_init_form jsx_attr_init
init_forgets p c None = refl
init_forgets p c (Some n) = ap (Then (mark (codes "="))) (value_forgets p c n)

attr_forgets : {X : Type 0} (p : X → Role → Phrase) (c : Parameters) (n : JSXAttrOrSpread X) → forget p (attr_form c n) ≡ jsx_attr_or_spread p n
unfolding forget attr_form spread_form jsx_attr_or_spread jsx_attr spread_element
attr_forgets p c (attrs.JSXAttr n) = ap (Then (jsx_attr_name n.name)) (init_forgets p c n.value)
attr_forgets p c (attrs.SpreadElement n) = refl

opening_forgets : {X : Type 0} (p : X → Role → Phrase) (c : Parameters) (is_child : Bool) (n : JSXOpeningElement X) → forget p (opening_form c is_child n) ≡ jsx_opening_element p is_child n
unfolding forget opening_form jsx_opening_element
opening_forgets p c is_child n =
    ap₂ (λ a b. open_mark is_child (codes "<") > a > b > forget p (in_order (attr_form c) n.attrs.items) > self_close n.self_closing > One tokens.tag_close) (name_forgets p c n.name) (args_forget p c n.type_args)
    ∙ ap (λ a. open_mark is_child (codes "<") > jsx_element_name p n.name > type_args p n.type_args > a > self_close n.self_closing > One tokens.tag_close)
    (order_forgets p (attr_form c) n.attrs.items ∙ ap phrases.in_order (map_same _ _ (attr_forgets p c) n.attrs.items))

closing_forgets : {X : Type 0} (p : X → Role → Phrase) (c : Parameters) (n : JSXClosingElement X) → forget p (closing_form c n) ≡ jsx_closing_element p n
unfolding forget closing_form jsx_closing_element
closing_forgets p c n = ap (λ a. open_mark true (codes "<") > mark (codes "/") > a > One tokens.tag_close) (name_forgets p c n.name)

child_forgets : {X : Type 0} (p : X → Role → Phrase) (c : Parameters) (n : JSXElementChild X) → forget p (child_form c n) ≡ jsx_element_child p n
unfolding forget child_form spread_child_form jsx_element_child jsx_spread_child
child_forgets p c (children.JSXText n) = refl
child_forgets p c (children.JSXExprContainer n) = container_forgets p c true n
child_forgets p c (children.JSXSpreadChild n) = refl
child_forgets p c (children.JSXElement n) = refl
child_forgets p c (children.JSXFragment n) = refl

-- what stands on a condition is nothing else
where_forgets : {X : Type 0} (p : X → Role → Phrase) (b : Bool) (a : Form X) (q : Phrase) → forget p a ≡ q → forget p (cond b a (Provided ByRule false (Fixed Never))) ≡ where_ b q
unfolding forget where_
where_forgets p true a q e = e
where_forgets p false a q e = refl

children_forget : {X : Type 0} (p : X → Role → Phrase) (c : Parameters) (xs : List (JSXElementChild X)) → forget p (children_form c xs) ≡ jsx_children p xs
unfolding children_form jsx_children
children_forget p c xs =
    where_forgets p (is_parted false xs) (in_order (child_form c) xs) (phrases.in_order (map (jsx_element_child p) xs)) (order_forgets p (child_form c) xs ∙ ap phrases.in_order (map_same _ _ (child_forgets p c) xs))

rest_forgets : {X : Type 0} (p : X → Role → Phrase) (c : Parameters) (xs : List (JSXElementChild X)) (n : Option (JSXClosingElement X)) → forget p (element_rest_form c xs n) ≡ jsx_rest p xs n
unfolding forget element_rest_form unclosed_form jsx_rest
rest_forgets p c xs None = where_forgets p (not (ends_in_text false xs)) (children_form c xs) (jsx_children p xs) (children_forget p c xs)
rest_forgets p c xs (Some n) = ap₂ Then (children_forget p c xs) (closing_forgets p c n)

pub element_forgets : {X : Type 0} (p : X → Role → Phrase) (c : Parameters) (is_child : Bool) (n : JSXElement X) → forget p (element_form c is_child n) ≡ jsx_element p is_child n
unfolding forget element_form jsx_element
element_forgets p c is_child n = ap₂ Then (opening_forgets p c is_child n.opening) (rest_forgets p c n.children.items n.closing)

pub fragment_forgets : {X : Type 0} (p : X → Role → Phrase) (c : Parameters) (is_child : Bool) (n : JSXFragment X) → forget p (fragment_form c is_child n) ≡ jsx_fragment p is_child n
unfolding forget fragment_form jsx_fragment
fragment_forgets p c is_child n = ap (λ a. jsx_opening_fragment is_child > a > jsx_closing_fragment) (children_forget p c n.children.items)
