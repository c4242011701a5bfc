-- The productions of JSX see what links hold through f alone.
use Rattle.std.proofs.Common.{◌≡◌, refl, ◌∙◌, ap, ◌&&◌, not, Bool, true, false, List, [], ◌∷◌, map, codes, Option, Some, None, Box, Global}
use Rattle.swc_ecma_codegen_common.specs.declared.positions.Span.{Span}
use Rattle.swc_ecma_codegen_tree.specs.declared.links.AnyNode.{AnyNode-F, map-AnyNode}
use Rattle.swc_ecma_codegen_tree.specs.declared.links.AnyNode.TheOpen as nodes
use Rattle.swc_ecma_codegen_tree.specs.Links.{ExprBox, JSXElementBox, JSXFragmentBox, TsTypeParamInstantiationBox}
use Rattle.swc_ecma_codegen_tree.specs.declared.exprs.SpreadElement.{SpreadElement}
use Rattle.swc_ecma_codegen_tree.specs.declared.lits.Lit.{Lit}
use Rattle.swc_ecma_codegen_tree.specs.declared.lits.JSXText.{JSXText}
use Rattle.swc_ecma_codegen_tree.specs.declared.jsx.JSXAttr.{JSXAttr}
use Rattle.swc_ecma_codegen_tree.specs.declared.jsx.JSXAttrOrSpread.{JSXAttrOrSpread}
use Rattle.swc_ecma_codegen_tree.specs.declared.jsx.JSXAttrOrSpread.TheVariants as attrs
use Rattle.swc_ecma_codegen_tree.specs.declared.jsx.JSXAttrValue.{JSXAttrValue}
use Rattle.swc_ecma_codegen_tree.specs.declared.jsx.JSXAttrValue.TheVariants as attr_values
use Rattle.swc_ecma_codegen_tree.specs.declared.jsx.JSXClosingElement.{JSXClosingElement}
use Rattle.swc_ecma_codegen_tree.specs.declared.jsx.JSXElement.{JSXElement}
use Rattle.swc_ecma_codegen_tree.specs.declared.jsx.JSXElementChild.{JSXElementChild}
use Rattle.swc_ecma_codegen_tree.specs.declared.jsx.JSXElementChild.TheVariants as children
use Rattle.swc_ecma_codegen_tree.specs.declared.jsx.JSXElementName.{JSXElementName}
use Rattle.swc_ecma_codegen_tree.specs.declared.jsx.JSXElementName.TheVariants as element_names
use Rattle.swc_ecma_codegen_tree.specs.declared.jsx.JSXEmptyExpr.{JSXEmptyExpr}
use Rattle.swc_ecma_codegen_tree.specs.declared.jsx.JSXExpr.{JSXExpr}
use Rattle.swc_ecma_codegen_tree.specs.declared.jsx.JSXExpr.TheVariants as contained
use Rattle.swc_ecma_codegen_tree.specs.declared.jsx.JSXExprContainer.{JSXExprContainer}
use Rattle.swc_ecma_codegen_tree.specs.declared.jsx.JSXFragment.{JSXFragment}
use Rattle.swc_ecma_codegen_tree.specs.declared.jsx.JSXObject.{JSXObject}
use Rattle.swc_ecma_codegen_tree.specs.declared.jsx.JSXObject.TheVariants as objects
use Rattle.swc_ecma_codegen_tree.specs.declared.jsx.JSXOpeningElement.{JSXOpeningElement}
use Rattle.swc_ecma_codegen_tree.specs.declared.jsx.JSXSpreadChild.{JSXSpreadChild}
use Rattle.swc_ecma_codegen_tree.specs.declared.parts.JSXPart.{JSXPart}
use Rattle.swc_ecma_codegen_tree.specs.declared.parts.JSXPart.TheVariants as jsx_parts
use Rattle.swc_ecma_codegen_grammar.specs.AnnotationPhrases.{type_args}
use Rattle.swc_ecma_codegen_grammar.specs.Phrases.{Phrase, Nothing, One, ◌>◌, where_, mark, in_order}
use Rattle.swc_ecma_codegen_grammar.specs.JsxPhrases.{jsx_member_expr, jsx_object, jsx_element_name, open_mark, jsx_expr, jsx_expr_container, jsx_spread_child, jsx_attr_value, jsx_attr_init, jsx_attr, jsx_attr_or_spread, self_close, jsx_opening_element, jsx_closing_element, jsx_element_child, is_text, is_parted, ends_in_text, jsx_children, jsx_rest, jsx_element, jsx_opening_fragment, jsx_closing_fragment, jsx_fragment, jsx_part}
use Rattle.swc_ecma_codegen_grammar.specs.PropPhrases.{spread_element}
use Rattle.swc_ecma_codegen_grammar.specs.Tokens as tokens
use Rattle.swc_ecma_codegen_grammar.specs.declared.roles.Role.{Role}
use Rattle.swc_ecma_codegen_grammar.specs.declared.roles.Role.TheVariants.{Element, Child, TagObject}
use Rattle.swc_ecma_codegen_grammar.specs.TreePhrases.{node_phrase}
use Rattle.swc_ecma_codegen_grammar.proofs.Mapped.{list_mapped}

-- ---- by what is there

by_contained : {X : Type 0} (P : JSXExprContainer X → Type 0) → ((span : Span) (n : JSXEmptyExpr) → P (record { span = span; expr = contained.JSXEmptyExpr n })) → ((span : Span) (n : ExprBox X) → P (record { span = span; expr = contained.Expr n })) → (span : Span) (n : JSXExpr X) → P (record { span = span; expr = n })
by_contained P empty full span (contained.JSXEmptyExpr n) = empty span n
by_contained P empty full span (contained.Expr n) = full span n

by_container : {X : Type 0} (P : JSXExprContainer X → Type 0) → ((span : Span) (n : JSXEmptyExpr) → P (record { span = span; expr = contained.JSXEmptyExpr n })) → ((span : Span) (n : ExprBox X) → P (record { span = span; expr = contained.Expr n })) → (n : JSXExprContainer X) → P n
by_container P empty full n = by_contained P empty full n.span n.expr

by_value : {X : Type 0} (P : Option (JSXAttrValue X) → Type 0)
    → P None
    → ((n : Lit) → P (Some (attr_values.Lit n)))
    → ((n : JSXExprContainer X) → P (Some (attr_values.JSXExprContainer n)))
    → ((n : JSXElementBox X) → P (Some (attr_values.JSXElement n)))
    → ((n : JSXFragmentBox X) → P (Some (attr_values.JSXFragment n)))
    → (n : Option (JSXAttrValue X)) → P n
by_value P none lit container element fragment None = none
by_value P none lit container element fragment (Some (attr_values.Lit n)) = lit n
by_value P none lit container element fragment (Some (attr_values.JSXExprContainer n)) = container n
by_value P none lit container element fragment (Some (attr_values.JSXElement n)) = element n
by_value P none lit container element fragment (Some (attr_values.JSXFragment n)) = fragment n

-- what holds of each attribute, by its value, and of each spread
by_attr : {X : Type 0} (P : JSXAttrOrSpread X → Type 0)
    → ((n : JSXAttr X) → P (attrs.JSXAttr (record n { value = None })))
    → ((n : JSXAttr X) (v : Lit) → P (attrs.JSXAttr (record n { value = Some (attr_values.Lit v) })))
    → ((n : JSXAttr X) (span : Span) (v : JSXEmptyExpr) → P (attrs.JSXAttr (record n { value = Some (attr_values.JSXExprContainer (record { span = span; expr = contained.JSXEmptyExpr v })) })))
    → ((n : JSXAttr X) (span : Span) (v : ExprBox X) → P (attrs.JSXAttr (record n { value = Some (attr_values.JSXExprContainer (record { span = span; expr = contained.Expr v })) })))
    → ((n : JSXAttr X) (v : JSXElementBox X) → P (attrs.JSXAttr (record n { value = Some (attr_values.JSXElement v) })))
    → ((n : JSXAttr X) (v : JSXFragmentBox X) → P (attrs.JSXAttr (record n { value = Some (attr_values.JSXFragment v) })))
    → ((n : SpreadElement X) → P (attrs.SpreadElement n))
    → (n : JSXAttrOrSpread X) → P n
by_attr P none lit empty full element fragment spread (attrs.SpreadElement n) = spread n
by_attr P none lit empty full element fragment spread (attrs.JSXAttr n) = by_value (λ v. P (attrs.JSXAttr (record n { value = v }))) (none n) (lit n) (by_container (λ v. P (attrs.JSXAttr (record n { value = Some (attr_values.JSXExprContainer v) }))) (empty n) (full n)) (element n) (fragment n) n.value

-- what holds of each child
by_child : {X : Type 0} (P : JSXElementChild X → Type 0)
    → ((n : JSXText) → P (children.JSXText n))
    → ((span : Span) (n : JSXEmptyExpr) → P (children.JSXExprContainer (record { span = span; expr = contained.JSXEmptyExpr n })))
    → ((span : Span) (n : ExprBox X) → P (children.JSXExprContainer (record { span = span; expr = contained.Expr n })))
    → ((n : JSXSpreadChild X) → P (children.JSXSpreadChild n))
    → ((n : JSXElementBox X) → P (children.JSXElement n))
    → ((n : JSXFragmentBox X) → P (children.JSXFragment n))
    → (n : JSXElementChild X) → P n
by_child P text empty full spread element fragment (children.JSXText n) = text n
by_child P text empty full spread element fragment (children.JSXExprContainer n) = by_container (λ v. P (children.JSXExprContainer v)) empty full n
by_child P text empty full spread element fragment (children.JSXSpreadChild n) = spread n
by_child P text empty full spread element fragment (children.JSXElement n) = element n
by_child P text empty full spread element fragment (children.JSXFragment n) = fragment n

-- ---- parts of the same phrases

opening_same : {X Y : Type 0} (f : Y → Role → Phrase) (d : X → Role → Phrase) (is_child : Bool) (o : JSXOpeningElement Y) (p : JSXOpeningElement X)
    → type_args f o.type_args ≡ type_args d p.type_args → jsx_element_name f o.name ≡ jsx_element_name d p.name → map (jsx_attr_or_spread f) o.attrs.items ≡ map (jsx_attr_or_spread d) p.attrs.items → o.self_closing ≡ p.self_closing
    → jsx_opening_element f is_child o ≡ jsx_opening_element d is_child p
unfolding jsx_opening_element
opening_same f d is_child o p typed name listed closes =
    let of : Phrase → Phrase → List Phrase → Bool → Phrase = λ t n ps c. open_mark is_child (codes "<") > n > t > in_order ps > self_close c > One tokens.tag_close in
    ap (λ t. of t (jsx_element_name f o.name) (map (jsx_attr_or_spread f) o.attrs.items) o.self_closing) typed
    ∙ ap (λ n. of (type_args d p.type_args) n (map (jsx_attr_or_spread f) o.attrs.items) o.self_closing) name
    ∙ ap (λ ps. of (type_args d p.type_args) (jsx_element_name d p.name) ps o.self_closing) listed
    ∙ ap (λ c. of (type_args d p.type_args) (jsx_element_name d p.name) (map (jsx_attr_or_spread d) p.attrs.items) c) closes

closing_same : {X Y : Type 0} (f : Y → Role → Phrase) (d : X → Role → Phrase) (o : JSXClosingElement Y) (p : JSXClosingElement X) → jsx_element_name f o.name ≡ jsx_element_name d p.name → jsx_closing_element f o ≡ jsx_closing_element d p
unfolding jsx_closing_element
closing_same f d o p name = ap (λ n. open_mark true (codes "<") > mark (codes "/") > n > One tokens.tag_close) name

parted_same : {X Y : Type 0} (g : JSXElementChild X → JSXElementChild Y) → ((n : JSXElementChild X) → is_text (g n) ≡ is_text n) → (after : Bool) (xs : List (JSXElementChild X)) → is_parted after (map g xs) ≡ is_parted after xs
unfolding is_parted
parted_same g same after [] = refl
parted_same g same after (x ∷ xs) = ap (λ b. not (after && b) && is_parted b (map g xs)) (same x) ∙ ap (λ b. not (after && is_text x) && b) (parted_same g same (is_text x) xs)

ends_same : {X Y : Type 0} (g : JSXElementChild X → JSXElementChild Y) → ((n : JSXElementChild X) → is_text (g n) ≡ is_text n) → (after : Bool) (xs : List (JSXElementChild X)) → ends_in_text after (map g xs) ≡ ends_in_text after xs
unfolding ends_in_text
ends_same g same after [] = refl
ends_same g same after (x ∷ xs) = ap (λ b. ends_in_text b (map g xs)) (same x) ∙ ends_same g same (is_text x) xs

children_same : {X Y : Type 0} (g : JSXElementChild X → JSXElementChild Y) (f : Y → Role → Phrase) (d : X → Role → Phrase) → ((n : JSXElementChild X) → is_text (g n) ≡ is_text n) → ((n : JSXElementChild X) → jsx_element_child f (g n) ≡ jsx_element_child d n) → (xs : List (JSXElementChild X)) → jsx_children f (map g xs) ≡ jsx_children d xs
unfolding jsx_children
children_same g f d texts same xs =
    ap (λ b. where_ b (in_order (map (jsx_element_child f) (map g xs)))) (parted_same g texts false xs)
    ∙ ap (λ ps. where_ (is_parted false xs) (in_order ps)) (list_mapped g (jsx_element_child f) (jsx_element_child d) same xs)

unclosed_same : {X Y : Type 0} (g : JSXElementChild X → JSXElementChild Y) (f : Y → Role → Phrase) (d : X → Role → Phrase) → ((n : JSXElementChild X) → is_text (g n) ≡ is_text n) → ((n : JSXElementChild X) → jsx_element_child f (g n) ≡ jsx_element_child d n) → (xs : List (JSXElementChild X)) → jsx_rest f (map g xs) None ≡ jsx_rest d xs None
unfolding jsx_rest
unclosed_same g f d texts same xs =
    ap (λ b. where_ (not b) (jsx_children f (map g xs))) (ends_same g texts false xs)
    ∙ ap (λ p. where_ (not (ends_in_text false xs)) p) (children_same g f d texts same xs)

closed_same : {X Y : Type 0} (g : JSXElementChild X → JSXElementChild Y) (f : Y → Role → Phrase) (d : X → Role → Phrase) → ((n : JSXElementChild X) → is_text (g n) ≡ is_text n) → ((n : JSXElementChild X) → jsx_element_child f (g n) ≡ jsx_element_child d n) → (xs : List (JSXElementChild X)) (o : JSXClosingElement Y) (p : JSXClosingElement X) → jsx_element_name f o.name ≡ jsx_element_name d p.name → jsx_rest f (map g xs) (Some o) ≡ jsx_rest d xs (Some p)
unfolding jsx_rest
closed_same g f d texts same xs o p name =
    ap (λ c. c > jsx_closing_element f o) (children_same g f d texts same xs)
    ∙ ap (λ c. jsx_children d xs > c) (closing_same f d o p name)

element_same : {X Y : Type 0} (f : Y → Role → Phrase) (d : X → Role → Phrase) (is_child : Bool) (o : JSXElement Y) (p : JSXElement X) → jsx_opening_element f is_child o.opening ≡ jsx_opening_element d is_child p.opening → jsx_rest f o.children.items o.closing ≡ jsx_rest d p.children.items p.closing → jsx_element f is_child o ≡ jsx_element d is_child p
unfolding jsx_element
element_same f d is_child o p opening rest = ap (λ z. z > jsx_rest f o.children.items o.closing) opening ∙ ap (λ z. jsx_opening_element d is_child p.opening > z) rest

fragment_same : {X Y : Type 0} (f : Y → Role → Phrase) (d : X → Role → Phrase) (is_child : Bool) (o : JSXFragment Y) (p : JSXFragment X) → jsx_children f o.children.items ≡ jsx_children d p.children.items → jsx_fragment f is_child o ≡ jsx_fragment d is_child p
unfolding jsx_fragment
fragment_same f d is_child o p same = ap (λ z. jsx_opening_fragment is_child > z > jsx_closing_fragment) same

-- ---- what links hold

object_mapped : {X Y : Type 0} (g : X → Y) (f : Y → Role → Phrase) (n : JSXObject X) → node_phrase f (map-AnyNode X Y g (nodes.JSXPart (jsx_parts.JSXObject n))) TagObject ≡ jsx_object (λ x. f (g x)) n
unfolding node_phrase jsx_part jsx_object jsx_member_expr
object_mapped g f (objects.JSXMemberExpr n) = refl
object_mapped g f (objects.Ident n) = refl

abbrev role_of : Bool → Role
role_of true = Child
role_of false = Element

fragment_mapped : {X Y : Type 0} (g : X → Y) (f : Y → Role → Phrase) (is_child : Bool) (n : JSXFragment X) → node_phrase f (map-AnyNode X Y g (nodes.JSXPart (jsx_parts.JSXFragment n))) (role_of is_child) ≡ jsx_fragment (λ x. f (g x)) is_child n
unfolding node_phrase jsx_part is_text jsx_element_child jsx_expr_container jsx_expr jsx_spread_child
fragment_mapped {X} {Y} g f true n = fragment_same f (λ x. f (g x)) true _ n (children_same {X = X} {Y = Y} _ f (λ x. f (g x)) (by_child {X = X} _ (λ m. refl) (λ span m. refl) (λ span m. refl) (λ m. refl) (λ m. refl) (λ m. refl)) (by_child {X = X} _ (λ m. refl) (λ span m. refl) (λ span m. refl) (λ m. refl) (λ m. refl) (λ m. refl)) n.children.items)
fragment_mapped {X} {Y} g f false n = fragment_same f (λ x. f (g x)) false _ n (children_same {X = X} {Y = Y} _ f (λ x. f (g x)) (by_child {X = X} _ (λ m. refl) (λ span m. refl) (λ span m. refl) (λ m. refl) (λ m. refl) (λ m. refl)) (by_child {X = X} _ (λ m. refl) (λ span m. refl) (λ span m. refl) (λ m. refl) (λ m. refl) (λ m. refl)) n.children.items)

-- ---- an element, part for part

abbrev as_node : {X : Type 0} → Box (JSXElement X) Global → JSXElement X → AnyNode-F X
as_node b n = nodes.JSXPart (jsx_parts.JSXElement (record b { value = n }))

abbrev name_in : {X : Type 0} → (X → Role → Phrase) → AnyNode-F X → Phrase
name_in f (nodes.JSXPart (jsx_parts.JSXElement b)) = jsx_element_name f b.value.opening.name
name_in f n = Nothing

abbrev types_in : {X : Type 0} → (X → Role → Phrase) → AnyNode-F X → Phrase
types_in f (nodes.JSXPart (jsx_parts.JSXElement b)) = type_args f b.value.opening.type_args
types_in f n = Nothing

abbrev rest_in : {X : Type 0} → (X → Role → Phrase) → AnyNode-F X → Phrase
rest_in f (nodes.JSXPart (jsx_parts.JSXElement b)) = jsx_rest f b.value.children.items b.value.closing
rest_in f n = Nothing

name_mapped : {X Y : Type 0} (g : X → Y) (f : Y → Role → Phrase) (b : Box (JSXElement X) Global) (n : JSXElement X) (name : JSXElementName X) → name_in f (map-AnyNode X Y g (as_node b (record n { opening = record n.opening { name = name } }))) ≡ jsx_element_name (λ x. f (g x)) name
unfolding jsx_element_name jsx_member_expr
name_mapped g f b n (element_names.Ident m) = refl
name_mapped g f b n (element_names.JSXMemberExpr m) = refl
name_mapped g f b n (element_names.JSXNamespacedName m) = refl

types_mapped : {X Y : Type 0} (g : X → Y) (f : Y → Role → Phrase) (b : Box (JSXElement X) Global) (n : JSXElement X) (args : Option (TsTypeParamInstantiationBox X)) → types_in f (map-AnyNode X Y g (as_node b (record n { opening = record n.opening { type_args = args } }))) ≡ type_args (λ x. f (g x)) args
unfolding type_args
types_mapped g f b n None = refl
types_mapped g f b n (Some t) = refl

closed_mapped : {X Y : Type 0} (g : X → Y) (f : Y → Role → Phrase) (b : Box (JSXElement X) Global) (n : JSXElement X) (span : Span) (name : JSXElementName X) → rest_in f (map-AnyNode X Y g (as_node b (record n { closing = Some (record { span = span; name = name }) }))) ≡ jsx_rest (λ x. f (g x)) n.children.items (Some (record { span = span; name = name }))
unfolding jsx_element_name jsx_member_expr is_text jsx_element_child jsx_expr_container jsx_expr jsx_spread_child
closed_mapped {X} {Y} g f b n span (element_names.Ident m) = closed_same {X = X} {Y = Y} _ f (λ x. f (g x)) (by_child {X = X} _ (λ m. refl) (λ span m. refl) (λ span m. refl) (λ m. refl) (λ m. refl) (λ m. refl)) (by_child {X = X} _ (λ m. refl) (λ span m. refl) (λ span m. refl) (λ m. refl) (λ m. refl) (λ m. refl)) n.children.items _ (record { span = span; name = element_names.Ident m }) refl
closed_mapped {X} {Y} g f b n span (element_names.JSXMemberExpr m) = closed_same {X = X} {Y = Y} _ f (λ x. f (g x)) (by_child {X = X} _ (λ m. refl) (λ span m. refl) (λ span m. refl) (λ m. refl) (λ m. refl) (λ m. refl)) (by_child {X = X} _ (λ m. refl) (λ span m. refl) (λ span m. refl) (λ m. refl) (λ m. refl) (λ m. refl)) n.children.items _ (record { span = span; name = element_names.JSXMemberExpr m }) refl
closed_mapped {X} {Y} g f b n span (element_names.JSXNamespacedName m) = closed_same {X = X} {Y = Y} _ f (λ x. f (g x)) (by_child {X = X} _ (λ m. refl) (λ span m. refl) (λ span m. refl) (λ m. refl) (λ m. refl) (λ m. refl)) (by_child {X = X} _ (λ m. refl) (λ span m. refl) (λ span m. refl) (λ m. refl) (λ m. refl) (λ m. refl)) n.children.items _ (record { span = span; name = element_names.JSXNamespacedName m }) refl

rest_mapped : {X Y : Type 0} (g : X → Y) (f : Y → Role → Phrase) (b : Box (JSXElement X) Global) (n : JSXElement X) (closing : Option (JSXClosingElement X)) → rest_in f (map-AnyNode X Y g (as_node b (record n { closing = closing }))) ≡ jsx_rest (λ x. f (g x)) n.children.items closing
unfolding is_text jsx_element_child jsx_expr_container jsx_expr jsx_spread_child
rest_mapped {X} {Y} g f b n None = unclosed_same {X = X} {Y = Y} _ f (λ x. f (g x)) (by_child {X = X} _ (λ m. refl) (λ span m. refl) (λ span m. refl) (λ m. refl) (λ m. refl) (λ m. refl)) (by_child {X = X} _ (λ m. refl) (λ span m. refl) (λ span m. refl) (λ m. refl) (λ m. refl) (λ m. refl)) n.children.items
rest_mapped g f b n (Some c) = closed_mapped g f b n c.span c.name

element_mapped : {X Y : Type 0} (g : X → Y) (f : Y → Role → Phrase) (is_child : Bool) (b : Box (JSXElement X) Global) → node_phrase f (map-AnyNode X Y g (nodes.JSXPart (jsx_parts.JSXElement b))) (role_of is_child) ≡ jsx_element (λ x. f (g x)) is_child b.value
unfolding node_phrase jsx_part jsx_attr_or_spread jsx_attr jsx_attr_init jsx_attr_value jsx_expr_container jsx_expr spread_element
element_mapped {X} {Y} g f true b = element_same f (λ x. f (g x)) true _ b.value (opening_same f (λ x. f (g x)) true _ b.value.opening (types_mapped g f b b.value b.value.opening.type_args) (name_mapped g f b b.value b.value.opening.name) (list_mapped {A = JSXAttrOrSpread X} _ (jsx_attr_or_spread f) (jsx_attr_or_spread (λ x. f (g x))) (by_attr {X = X} _ (λ m. refl) (λ m v. refl) (λ m at v. refl) (λ m at v. refl) (λ m v. refl) (λ m v. refl) (λ m. refl)) b.value.opening.attrs.items) refl) (rest_mapped g f b b.value b.value.closing)
element_mapped {X} {Y} g f false b = element_same f (λ x. f (g x)) false _ b.value (opening_same f (λ x. f (g x)) false _ b.value.opening (types_mapped g f b b.value b.value.opening.type_args) (name_mapped g f b b.value b.value.opening.name) (list_mapped {A = JSXAttrOrSpread X} _ (jsx_attr_or_spread f) (jsx_attr_or_spread (λ x. f (g x))) (by_attr {X = X} _ (λ m. refl) (λ m v. refl) (λ m at v. refl) (λ m at v. refl) (λ m v. refl) (λ m v. refl) (λ m. refl)) b.value.opening.attrs.items) refl) (rest_mapped g f b b.value b.value.closing)

pub jsx_part_mapped : {X Y : Type 0} (g : X → Y) (f : Y → Role → Phrase) (n : JSXPart X) (role : Role) → node_phrase f (map-AnyNode X Y g (nodes.JSXPart n)) role ≡ jsx_part (λ x. f (g x)) n role
unfolding node_phrase jsx_part
jsx_part_mapped g f (jsx_parts.JSXElement n) Element = element_mapped g f false n
jsx_part_mapped g f (jsx_parts.JSXElement n) Child = element_mapped g f true n
jsx_part_mapped g f (jsx_parts.JSXFragment n) Element = fragment_mapped g f false n
jsx_part_mapped g f (jsx_parts.JSXFragment n) Child = fragment_mapped g f true n
jsx_part_mapped g f (jsx_parts.JSXObject n) TagObject = object_mapped g f n
jsx_part_mapped g f n role = refl
