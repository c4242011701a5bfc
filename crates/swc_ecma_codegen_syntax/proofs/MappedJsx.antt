-- The forms of JSX over what links hold as something else.
use Rattle.std.proofs.Common.{◌≡◌, Bool, true, false, not, ◌&&◌, ◌==◌, cond, refl, ◌∙◌, ap, ap₂, List, [], ◌∷◌, map, codes, Option, Some, None, Box, Global}
use Rattle.swc_ecma_codegen_common.specs.declared.positions.Span.{Span}
use Rattle.swc_ecma_codegen_tree.specs.declared.links.AnyNode.{AnyNode-F, map-AnyNode}
use Rattle.swc_ecma_codegen_tree.specs.declared.links.AnyNode.TheOpen as nodes
use Rattle.swc_ecma_codegen_tree.specs.Links.{ExprBox, JSXElementBox, JSXFragmentBox, TsTypeParamInstantiationBox}
use Rattle.swc_ecma_codegen_tree.specs.declared.exprs.SpreadElement.{SpreadElement}
use Rattle.swc_ecma_codegen_tree.specs.declared.lits.Lit.{Lit}
use Rattle.swc_ecma_codegen_tree.specs.declared.lits.JSXText.{JSXText}
use Rattle.swc_ecma_codegen_tree.specs.declared.jsx.JSXAttr.{JSXAttr}
use Rattle.swc_ecma_codegen_tree.specs.declared.jsx.JSXAttrOrSpread.{JSXAttrOrSpread}
use Rattle.swc_ecma_codegen_tree.specs.declared.jsx.JSXAttrOrSpread.TheVariants as attrs
use Rattle.swc_ecma_codegen_tree.specs.declared.jsx.JSXAttrValue.{JSXAttrValue}
use Rattle.swc_ecma_codegen_tree.specs.declared.jsx.JSXAttrValue.TheVariants as attr_values
use Rattle.swc_ecma_codegen_tree.specs.declared.jsx.JSXClosingElement.{JSXClosingElement}
use Rattle.swc_ecma_codegen_tree.specs.declared.jsx.JSXElement.{JSXElement}
use Rattle.swc_ecma_codegen_tree.specs.declared.jsx.JSXElementChild.{JSXElementChild}
use Rattle.swc_ecma_codegen_tree.specs.declared.jsx.JSXElementChild.TheVariants as children
use Rattle.swc_ecma_codegen_tree.specs.declared.jsx.JSXElementName.{JSXElementName}
use Rattle.swc_ecma_codegen_tree.specs.declared.jsx.JSXElementName.TheVariants as element_names
use Rattle.swc_ecma_codegen_tree.specs.declared.jsx.JSXEmptyExpr.{JSXEmptyExpr}
use Rattle.swc_ecma_codegen_tree.specs.declared.jsx.JSXExpr.{JSXExpr}
use Rattle.swc_ecma_codegen_tree.specs.declared.jsx.JSXExpr.TheVariants as contained
use Rattle.swc_ecma_codegen_tree.specs.declared.jsx.JSXExprContainer.{JSXExprContainer}
use Rattle.swc_ecma_codegen_tree.specs.declared.jsx.JSXFragment.{JSXFragment}
use Rattle.swc_ecma_codegen_tree.specs.declared.jsx.JSXObject.{JSXObject}
use Rattle.swc_ecma_codegen_tree.specs.declared.jsx.JSXObject.TheVariants as objects
use Rattle.swc_ecma_codegen_tree.specs.declared.jsx.JSXSpreadChild.{JSXSpreadChild}
use Rattle.swc_ecma_codegen_tree.specs.declared.parts.JSXPart.{JSXPart}
use Rattle.swc_ecma_codegen_tree.specs.declared.parts.JSXPart.TheVariants as jsx_parts
use Rattle.swc_ecma_codegen_grammar.specs.Phrases.{Never, One}
use Rattle.swc_ecma_codegen_grammar.specs.JsxPhrases.{open_mark, self_close, is_text, is_parted, ends_in_text, jsx_opening_fragment, jsx_closing_fragment}
use Rattle.swc_ecma_codegen_grammar.specs.Tokens as tokens
use Rattle.swc_ecma_codegen_grammar.specs.declared.roles.Role.{Role}
use Rattle.swc_ecma_codegen_grammar.specs.declared.roles.Role.TheVariants.{Element, Child, TagObject}
use Rattle.swc_ecma_codegen_grammar.proofs.MappedTemplates.{length_mapped}
use Rattle.swc_ecma_codegen_syntax.specs.declared.parameters.Parameters.{Parameters}
use Rattle.swc_ecma_codegen_syntax.specs.Forms.{Form, Fixed, Provided, ByRule, ◌⇢◌, map_form, in_order}
use Rattle.swc_ecma_codegen_syntax.specs.MemberForms.{type_args_form}
use Rattle.swc_ecma_codegen_syntax.specs.ObjectForms.{spread_form}
use Rattle.swc_ecma_codegen_syntax.specs.JsxForms.{tag_member_form, tag_object_form, element_name_form, contained_form, container_form, spread_child_form, holds_expression, attr_value_form, attr_init_form, attr_form, opening_form, closing_form, child_form, children_form, unclosed_form, element_rest_form, is_closed, element_form, fragment_form}
use Rattle.swc_ecma_codegen_syntax.specs.NodeForms.{node_form, node_nonterminal, jsx_part_form, jsx_part_nonterminal}
use Rattle.swc_ecma_codegen_syntax.proofs.Judged.{order_mapped}

-- ---- by what is there

by_contained : {X : Type 0} (P : JSXExprContainer X → Type 0) → ((span : Span) (n : JSXEmptyExpr) → P (record { span = span; expr = contained.JSXEmptyExpr n })) → ((span : Span) (n : ExprBox X) → P (record { span = span; expr = contained.Expr n })) → (span : Span) (n : JSXExpr X) → P (record { span = span; expr = n })
by_contained P empty full span (contained.JSXEmptyExpr n) = empty span n
by_contained P empty full span (contained.Expr n) = full span n

by_container : {X : Type 0} (P : JSXExprContainer X → Type 0) → ((span : Span) (n : JSXEmptyExpr) → P (record { span = span; expr = contained.JSXEmptyExpr n })) → ((span : Span) (n : ExprBox X) → P (record { span = span; expr = contained.Expr n })) → (n : JSXExprContainer X) → P n
by_container P empty full n = by_contained P empty full n.span n.expr

by_value : {X : Type 0} (P : Option (JSXAttrValue X) → Type 0)
    → P None
    → ((n : Lit) → P (Some (attr_values.Lit n)))
    → ((n : JSXExprContainer X) → P (Some (attr_values.JSXExprContainer n)))
    → ((n : JSXElementBox X) → P (Some (attr_values.JSXElement n)))
    → ((n : JSXFragmentBox X) → P (Some (attr_values.JSXFragment n)))
    → (n : Option (JSXAttrValue X)) → P n
by_value P none lit container element fragment None = none
by_value P none lit container element fragment (Some (attr_values.Lit n)) = lit n
by_value P none lit container element fragment (Some (attr_values.JSXExprContainer n)) = container n
by_value P none lit container element fragment (Some (attr_values.JSXElement n)) = element n
by_value P none lit container element fragment (Some (attr_values.JSXFragment n)) = fragment n

-- what holds of each attribute, by its value, and of each spread
by_attr : {X : Type 0} (P : JSXAttrOrSpread X → Type 0)
    → ((n : JSXAttr X) → P (attrs.JSXAttr (record n { value = None })))
    → ((n : JSXAttr X) (v : Lit) → P (attrs.JSXAttr (record n { value = Some (attr_values.Lit v) })))
    → ((n : JSXAttr X) (span : Span) (v : JSXEmptyExpr) → P (attrs.JSXAttr (record n { value = Some (attr_values.JSXExprContainer (record { span = span; expr = contained.JSXEmptyExpr v })) })))
    → ((n : JSXAttr X) (span : Span) (v : ExprBox X) → P (attrs.JSXAttr (record n { value = Some (attr_values.JSXExprContainer (record { span = span; expr = contained.Expr v })) })))
    → ((n : JSXAttr X) (v : JSXElementBox X) → P (attrs.JSXAttr (record n { value = Some (attr_values.JSXElement v) })))
    → ((n : JSXAttr X) (v : JSXFragmentBox X) → P (attrs.JSXAttr (record n { value = Some (attr_values.JSXFragment v) })))
    → ((n : SpreadElement X) → P (attrs.SpreadElement n))
    → (n : JSXAttrOrSpread X) → P n
by_attr P none lit empty full element fragment spread (attrs.SpreadElement n) = spread n
by_attr P none lit empty full element fragment spread (attrs.JSXAttr n) = by_value (λ v. P (attrs.JSXAttr (record n { value = v }))) (none n) (lit n) (by_container (λ v. P (attrs.JSXAttr (record n { value = Some (attr_values.JSXExprContainer v) }))) (empty n) (full n)) (element n) (fragment n) n.value

-- what holds of each child
by_child : {X : Type 0} (P : JSXElementChild X → Type 0)
    → ((n : JSXText) → P (children.JSXText n))
    → ((span : Span) (n : JSXEmptyExpr) → P (children.JSXExprContainer (record { span = span; expr = contained.JSXEmptyExpr n })))
    → ((span : Span) (n : ExprBox X) → P (children.JSXExprContainer (record { span = span; expr = contained.Expr n })))
    → ((n : JSXSpreadChild X) → P (children.JSXSpreadChild n))
    → ((n : JSXElementBox X) → P (children.JSXElement n))
    → ((n : JSXFragmentBox X) → P (children.JSXFragment n))
    → (n : JSXElementChild X) → P n
by_child P text empty full spread element fragment (children.JSXText n) = text n
by_child P text empty full spread element fragment (children.JSXExprContainer n) = by_container (λ v. P (children.JSXExprContainer v)) empty full n
by_child P text empty full spread element fragment (children.JSXSpreadChild n) = spread n
by_child P text empty full spread element fragment (children.JSXElement n) = element n
by_child P text empty full spread element fragment (children.JSXFragment n) = fragment n

-- ---- children

abbrev Texts : {X Y : Type 0} → (JSXElementChild X → JSXElementChild Y) → Type 0
Texts {X} h = (n : JSXElementChild X) → is_text (h n) ≡ is_text n

abbrev Children : {X Y : Type 0} → (X → Y) → (JSXElementChild X → JSXElementChild Y) → Parameters → Type 0
Children {X} g h c = (n : JSXElementChild X) → child_form c (h n) ≡ map_form g (child_form c n)

parted_mapped : {X Y : Type 0} (h : JSXElementChild X → JSXElementChild Y) → Texts h → (after : Bool) (xs : List (JSXElementChild X)) → is_parted after (map h xs) ≡ is_parted after xs
unfolding is_parted
parted_mapped h texts after [] = refl
parted_mapped h texts after (x ∷ xs) =
    ap₂ (λ a b. not (after && a) && b) (texts x) (ap (λ a. is_parted a (map h xs)) (texts x) ∙ parted_mapped h texts (is_text x) xs)

ends_mapped : {X Y : Type 0} (h : JSXElementChild X → JSXElementChild Y) → Texts h → (after : Bool) (xs : List (JSXElementChild X)) → ends_in_text after (map h xs) ≡ ends_in_text after xs
unfolding ends_in_text
ends_mapped h texts after [] = refl
ends_mapped h texts after (x ∷ xs) = ap (λ a. ends_in_text a (map h xs)) (texts x) ∙ ends_mapped h texts (is_text x) xs

abbrev on : {X : Type 0} → Bool → Form X → Form X
on b a = cond b a (Provided ByRule false (Fixed Never))

on_mapped : {X Y : Type 0} (g : X → Y) (b : Bool) (a : Form X) → on b (map_form g a) ≡ map_form g (on b a)
unfolding map_form
on_mapped g true a = refl
on_mapped g false a = refl

children_mapped : {X Y : Type 0} (g : X → Y) (h : JSXElementChild X → JSXElementChild Y) (c : Parameters) → Texts h → Children g h c → (xs : List (JSXElementChild X)) → children_form c (map h xs) ≡ map_form g (children_form c xs)
unfolding children_form
children_mapped g h c texts same xs =
    ap₂ (λ b a. on b a) (parted_mapped h texts false xs) (order_mapped g h (child_form c) (child_form c) same xs) ∙ on_mapped g (is_parted false xs) (in_order (child_form c) xs)

unclosed_mapped : {X Y : Type 0} (g : X → Y) (h : JSXElementChild X → JSXElementChild Y) (c : Parameters) → Texts h → Children g h c → (xs : List (JSXElementChild X)) → element_rest_form c (map h xs) None ≡ map_form g (element_rest_form c xs None)
unfolding element_rest_form unclosed_form
unclosed_mapped g h c texts same xs =
    ap₂ (λ b a. on (not b) a) (ends_mapped h texts false xs) (children_mapped g h c texts same xs) ∙ on_mapped g (not (ends_in_text false xs)) (children_form c xs)

closed_mapped : {X Y : Type 0} (g : X → Y) (h : JSXElementChild X → JSXElementChild Y) (c : Parameters) → Texts h → Children g h c → (xs : List (JSXElementChild X)) (o : JSXClosingElement Y) (p : JSXClosingElement X) → closing_form c o ≡ map_form g (closing_form c p) →
    element_rest_form c (map h xs) (Some o) ≡ map_form g (element_rest_form c xs (Some p))
unfolding element_rest_form map_form
closed_mapped g h c texts same xs o p e = ap₂ (λ a b. a ⇢ b) (children_mapped g h c texts same xs) e

-- ---- what links hold

object_mapped : {X Y : Type 0} (g : X → Y) (called : Bool) (c : Parameters) (n : JSXObject X) → node_form called c (map-AnyNode X Y g (nodes.JSXPart (jsx_parts.JSXObject n))) TagObject ≡ map_form g (tag_object_form c n)
unfolding node_form jsx_part_form tag_object_form tag_member_form map_form
object_mapped g called c (objects.JSXMemberExpr n) = refl
object_mapped g called c (objects.Ident n) = refl

abbrev role_of : Bool → Role
role_of true = Child
role_of false = Element

abbrev whole_fragment : {X : Type 0} → Bool → Form X → Form X
whole_fragment is_child a = Fixed (jsx_opening_fragment is_child) ⇢ a ⇢ Fixed jsx_closing_fragment

fragment_mapped : {X Y : Type 0} (g : X → Y) (called : Bool) (c : Parameters) (is_child : Bool) (n : JSXFragment X) → node_form called c (map-AnyNode X Y g (nodes.JSXPart (jsx_parts.JSXFragment n))) (role_of is_child) ≡ map_form g (fragment_form c is_child n)
unfolding node_form jsx_part_form fragment_form is_text child_form container_form contained_form spread_child_form map_form
fragment_mapped {X} {Y} g called c true n = ap (whole_fragment true) (children_mapped {X = X} {Y = Y} g _ c (by_child {X = X} _ (λ m. refl) (λ span m. refl) (λ span m. refl) (λ m. refl) (λ m. refl) (λ m. refl)) (by_child {X = X} _ (λ m. refl) (λ span m. refl) (λ span m. refl) (λ m. refl) (λ m. refl) (λ m. refl)) n.children.items)
fragment_mapped {X} {Y} g called c false n = ap (whole_fragment false) (children_mapped {X = X} {Y = Y} g _ c (by_child {X = X} _ (λ m. refl) (λ span m. refl) (λ span m. refl) (λ m. refl) (λ m. refl) (λ m. refl)) (by_child {X = X} _ (λ m. refl) (λ span m. refl) (λ span m. refl) (λ m. refl) (λ m. refl) (λ m. refl)) n.children.items)

-- ---- an element, part for part

abbrev as_node : {X : Type 0} → Box (JSXElement X) Global → JSXElement X → AnyNode-F X
as_node b n = nodes.JSXPart (jsx_parts.JSXElement (record b { value = n }))

-- whatever is said of an element that a link holds
abbrev if_element : {X : Type 0} {A : Type 0} → A → (JSXElement X → A) → AnyNode-F X → A
if_element none f (nodes.JSXPart (jsx_parts.JSXElement b)) = f b.value
if_element none f n = none

name_mapped : {X Y : Type 0} (g : X → Y) (c : Parameters) (b : Box (JSXElement X) Global) (n : JSXElement X) (name : JSXElementName X) →
    if_element (Fixed Never) (λ e. element_name_form c e.opening.name) (map-AnyNode X Y g (as_node b (record n { opening = record n.opening { name = name } }))) ≡ map_form g (element_name_form c name)
unfolding element_name_form tag_member_form map_form
name_mapped g c b n (element_names.Ident m) = refl
name_mapped g c b n (element_names.JSXMemberExpr m) = refl
name_mapped g c b n (element_names.JSXNamespacedName m) = refl

types_mapped : {X Y : Type 0} (g : X → Y) (c : Parameters) (b : Box (JSXElement X) Global) (n : JSXElement X) (args : Option (TsTypeParamInstantiationBox X)) →
    if_element (Fixed Never) (λ e. type_args_form c e.opening.type_args) (map-AnyNode X Y g (as_node b (record n { opening = record n.opening { type_args = args } }))) ≡ map_form g (type_args_form c args)
unfolding type_args_form map_form
types_mapped g c b n None = refl
types_mapped g c b n (Some t) = refl

closing_mapped : {X Y : Type 0} (g : X → Y) (c : Parameters) (b : Box (JSXElement X) Global) (n : JSXElement X) (span : Span) (name : JSXElementName X) →
    if_element (Fixed Never) (λ e. element_rest_form c e.children.items e.closing) (map-AnyNode X Y g (as_node b (record n { closing = Some (record { span = span; name = name }) }))) ≡ map_form g (element_rest_form c n.children.items (Some (record { span = span; name = name })))
unfolding closing_form element_name_form tag_member_form is_text child_form container_form contained_form spread_child_form map_form
closing_mapped {X} {Y} g c b n span (element_names.Ident m) = closed_mapped {X = X} {Y = Y} g _ c (by_child {X = X} _ (λ m. refl) (λ span m. refl) (λ span m. refl) (λ m. refl) (λ m. refl) (λ m. refl)) (by_child {X = X} _ (λ m. refl) (λ span m. refl) (λ span m. refl) (λ m. refl) (λ m. refl) (λ m. refl)) n.children.items _ (record { span = span; name = element_names.Ident m }) refl
closing_mapped {X} {Y} g c b n span (element_names.JSXMemberExpr m) = closed_mapped {X = X} {Y = Y} g _ c (by_child {X = X} _ (λ m. refl) (λ span m. refl) (λ span m. refl) (λ m. refl) (λ m. refl) (λ m. refl)) (by_child {X = X} _ (λ m. refl) (λ span m. refl) (λ span m. refl) (λ m. refl) (λ m. refl) (λ m. refl)) n.children.items _ (record { span = span; name = element_names.JSXMemberExpr m }) refl
closing_mapped {X} {Y} g c b n span (element_names.JSXNamespacedName m) = closed_mapped {X = X} {Y = Y} g _ c (by_child {X = X} _ (λ m. refl) (λ span m. refl) (λ span m. refl) (λ m. refl) (λ m. refl) (λ m. refl)) (by_child {X = X} _ (λ m. refl) (λ span m. refl) (λ span m. refl) (λ m. refl) (λ m. refl) (λ m. refl)) n.children.items _ (record { span = span; name = element_names.JSXNamespacedName m }) refl

rest_mapped : {X Y : Type 0} (g : X → Y) (c : Parameters) (b : Box (JSXElement X) Global) (n : JSXElement X) (closing : Option (JSXClosingElement X)) →
    if_element (Fixed Never) (λ e. element_rest_form c e.children.items e.closing) (map-AnyNode X Y g (as_node b (record n { closing = closing }))) ≡ map_form g (element_rest_form c n.children.items closing)
unfolding is_text child_form container_form contained_form spread_child_form map_form
rest_mapped {X} {Y} g c b n None = unclosed_mapped {X = X} {Y = Y} g _ c (by_child {X = X} _ (λ m. refl) (λ span m. refl) (λ span m. refl) (λ m. refl) (λ m. refl) (λ m. refl)) (by_child {X = X} _ (λ m. refl) (λ span m. refl) (λ span m. refl) (λ m. refl) (λ m. refl) (λ m. refl)) n.children.items
rest_mapped g c b n (Some k) = closing_mapped g c b n k.span k.name

closes_mapped : {X Y : Type 0} (g : X → Y) (b : Box (JSXElement X) Global) (n : JSXElement X) (self : Bool) (closing : Option (JSXClosingElement X)) →
    if_element false (λ e. is_closed self e.children.items e.closing) (map-AnyNode X Y g (as_node b (record n { closing = closing }))) ≡ is_closed self n.children.items closing
unfolding is_closed
closes_mapped g b n true None = ap (λ k. k == 0) (length_mapped _ n.children.items)
closes_mapped g b n true (Some k) = refl
closes_mapped g b n false None = refl
closes_mapped g b n false (Some k) = refl

-- an element of these parts
abbrev whole_element : {X : Type 0} → Bool → Bool → Bool → Form X → Form X → Form X → Form X → Form X
whole_element is_child closes self name types attributes rest =
    Provided ByRule closes ((Fixed (open_mark is_child (codes "<")) ⇢ name ⇢ types ⇢ attributes ⇢ Fixed (self_close self) ⇢ Fixed (One tokens.tag_close)) ⇢ rest)

element_same : {X : Type 0} (is_child self : Bool) {a b : Bool} {n m t u x y r q : Form X} → a ≡ b → n ≡ m → t ≡ u → x ≡ y → r ≡ q → whole_element is_child a self n t x r ≡ whole_element is_child b self m u y q
element_same is_child self {a} {b} {n} {m} {t} {u} {x} {y} {r} {q} e f g h k =
    ap (λ z. whole_element is_child z self n t x r) e ∙ ap₂ (λ z w. whole_element is_child b self z w x r) f g ∙ ap₂ (λ z w. whole_element is_child b self m u z w) h k

element_mapped : {X Y : Type 0} (g : X → Y) (called : Bool) (c : Parameters) (is_child : Bool) (b : Box (JSXElement X) Global) → node_form called c (map-AnyNode X Y g (nodes.JSXPart (jsx_parts.JSXElement b))) (role_of is_child) ≡ map_form g (element_form c is_child b.value)
unfolding node_form jsx_part_form element_form opening_form attr_form attr_init_form attr_value_form holds_expression container_form contained_form spread_form map_form
element_mapped {X} {Y} g called c true b = element_same true b.value.opening.self_closing (closes_mapped g b b.value b.value.opening.self_closing b.value.closing) (name_mapped g c b b.value b.value.opening.name) (types_mapped g c b b.value b.value.opening.type_args) (order_mapped {A = JSXAttrOrSpread X} g _ (attr_form c) (attr_form c) (by_attr {X = X} _ (λ m. refl) (λ m v. refl) (λ m at v. refl) (λ m at v. refl) (λ m v. refl) (λ m v. refl) (λ m. refl)) b.value.opening.attrs.items) (rest_mapped g c b b.value b.value.closing)
element_mapped {X} {Y} g called c false b = element_same false b.value.opening.self_closing (closes_mapped g b b.value b.value.opening.self_closing b.value.closing) (name_mapped g c b b.value b.value.opening.name) (types_mapped g c b b.value b.value.opening.type_args) (order_mapped {A = JSXAttrOrSpread X} g _ (attr_form c) (attr_form c) (by_attr {X = X} _ (λ m. refl) (λ m v. refl) (λ m at v. refl) (λ m at v. refl) (λ m v. refl) (λ m v. refl) (λ m. refl)) b.value.opening.attrs.items) (rest_mapped g c b b.value b.value.closing)

pub jsx_part_mapped : {X Y : Type 0} (g : X → Y) (called : Bool) (c : Parameters) (n : JSXPart X) (role : Role) → node_form called c (map-AnyNode X Y g (nodes.JSXPart n)) role ≡ map_form g (jsx_part_form c n role)
unfolding node_form jsx_part_form map_form
jsx_part_mapped g called c (jsx_parts.JSXElement n) Element = element_mapped g called c false n
jsx_part_mapped g called c (jsx_parts.JSXElement n) Child = element_mapped g called c true n
jsx_part_mapped g called c (jsx_parts.JSXFragment n) Element = fragment_mapped g called c false n
jsx_part_mapped g called c (jsx_parts.JSXFragment n) Child = fragment_mapped g called c true n
jsx_part_mapped g called c (jsx_parts.JSXObject n) TagObject = object_mapped g called c n
jsx_part_mapped g called c n role = refl

pub jsx_part_sort_mapped : {X Y : Type 0} (g : X → Y) (called : Bool) (c : Parameters) (n : JSXPart X) (role : Role) → node_nonterminal called c (map-AnyNode X Y g (nodes.JSXPart n)) role ≡ jsx_part_nonterminal n role
unfolding node_nonterminal jsx_part_nonterminal
jsx_part_sort_mapped g called c (jsx_parts.JSXElement n) Element = refl
jsx_part_sort_mapped g called c (jsx_parts.JSXFragment n) Element = refl
jsx_part_sort_mapped g called c n role = refl
