-- The words of JSX see what links hold through `asks` and `items` alone.
use Rattle.std.proofs.Common.{◌≡◌, refl, ◌∙◌, ap, Bool, true, false, List, [], ◌∷◌, map, codes, Option, Some, None, Box, Global}
use Rattle.swc_ecma_codegen_common.specs.declared.positions.Span.{Span}
use Rattle.swc_ecma_codegen_tree.specs.declared.links.AnyNode.{AnyNode-F, map-AnyNode}
use Rattle.swc_ecma_codegen_tree.specs.declared.links.AnyNode.TheOpen as nodes
use Rattle.swc_ecma_codegen_tree.specs.Links.{ExprBox, JSXElementBox, JSXFragmentBox, TsTypeParamInstantiationBox}
use Rattle.swc_ecma_codegen_tree.specs.declared.exprs.SpreadElement.{SpreadElement}
use Rattle.swc_ecma_codegen_tree.specs.declared.lits.Lit.{Lit}
use Rattle.swc_ecma_codegen_tree.specs.declared.lits.JSXText.{JSXText}
use Rattle.swc_ecma_codegen_tree.specs.declared.jsx.JSXAttr.{JSXAttr}
use Rattle.swc_ecma_codegen_tree.specs.declared.jsx.JSXAttrOrSpread.{JSXAttrOrSpread}
use Rattle.swc_ecma_codegen_tree.specs.declared.jsx.JSXAttrOrSpread.TheVariants as attrs
use Rattle.swc_ecma_codegen_tree.specs.declared.jsx.JSXAttrValue.{JSXAttrValue}
use Rattle.swc_ecma_codegen_tree.specs.declared.jsx.JSXAttrValue.TheVariants as attr_values
use Rattle.swc_ecma_codegen_tree.specs.declared.jsx.JSXClosingElement.{JSXClosingElement}
use Rattle.swc_ecma_codegen_tree.specs.declared.jsx.JSXElement.{JSXElement}
use Rattle.swc_ecma_codegen_tree.specs.declared.jsx.JSXElementChild.{JSXElementChild}
use Rattle.swc_ecma_codegen_tree.specs.declared.jsx.JSXElementChild.TheVariants as children
use Rattle.swc_ecma_codegen_tree.specs.declared.jsx.JSXElementName.{JSXElementName}
use Rattle.swc_ecma_codegen_tree.specs.declared.jsx.JSXElementName.TheVariants as element_names
use Rattle.swc_ecma_codegen_tree.specs.declared.jsx.JSXEmptyExpr.{JSXEmptyExpr}
use Rattle.swc_ecma_codegen_tree.specs.declared.jsx.JSXExpr.{JSXExpr}
use Rattle.swc_ecma_codegen_tree.specs.declared.jsx.JSXExpr.TheVariants as contents
use Rattle.swc_ecma_codegen_tree.specs.declared.jsx.JSXExprContainer.{JSXExprContainer}
use Rattle.swc_ecma_codegen_tree.specs.declared.jsx.JSXFragment.{JSXFragment}
use Rattle.swc_ecma_codegen_tree.specs.declared.jsx.JSXObject.{JSXObject}
use Rattle.swc_ecma_codegen_tree.specs.declared.jsx.JSXObject.TheVariants as objects
use Rattle.swc_ecma_codegen_tree.specs.declared.jsx.JSXOpeningElement.{JSXOpeningElement}
use Rattle.swc_ecma_codegen_tree.specs.declared.jsx.JSXSpreadChild.{JSXSpreadChild}
use Rattle.swc_ecma_codegen_tree.specs.declared.parts.JSXPart.{JSXPart}
use Rattle.swc_ecma_codegen_tree.specs.declared.parts.JSXPart.TheVariants as jsx_parts
use Rattle.swc_ecma_codegen_spans.specs.Spans.{spread_element_span}
use Rattle.swc_ecma_codegen_tokens.specs.Run.{Plan, Part}
use Rattle.swc_ecma_codegen_tokens.specs.Tags.{close}
use Rattle.swc_ecma_codegen_emit.specs.declared.nodes.Context.{Context}
use Rattle.swc_ecma_codegen_emit.specs.declared.nodes.Context.TheVariants.{Plain}
use Rattle.swc_ecma_codegen_emit.specs.Places.{Place, context_of}
use Rattle.swc_ecma_codegen_emit.specs.Annotations.{type_args}
use Rattle.swc_ecma_codegen_emit.specs.Answers.{Answers}
use Rattle.swc_ecma_codegen_emit.specs.Exprs.{blank, spread_element}
use Rattle.swc_ecma_codegen_emit.specs.Lists.{in_order}
use Rattle.swc_ecma_codegen_emit.specs.Jsx.{jsx_member_expr, jsx_object, jsx_element_name, open_at, jsx_expr, jsx_expr_container, jsx_spread_child, jsx_attr_value, attr_initializer, jsx_attr, jsx_attr_or_spread, jsx_attributes, self_closing, jsx_opening_element, jsx_closing_element, jsx_element_child, jsx_children, optional_closing, jsx_element, opening_fragment, closing_fragment, jsx_fragment, jsx_part, jsx_element_parts, jsx_fragment_parts}
use Rattle.swc_ecma_codegen_emit.specs.Tree.{node_items}
use Rattle.swc_ecma_codegen_emit.proofs.MappedTemplates.{unbounded_alike}

-- ---- by what is there

by_contained : {X : Type 0} (P : JSXExprContainer X → Type 0) → ((span : Span) (n : JSXEmptyExpr) → P (record { span = span; expr = contents.JSXEmptyExpr n })) → ((span : Span) (n : ExprBox X) → P (record { span = span; expr = contents.Expr n })) → (span : Span) (n : JSXExpr X) → P (record { span = span; expr = n })
by_contained P empty full span (contents.JSXEmptyExpr n) = empty span n
by_contained P empty full span (contents.Expr n) = full span n

by_container : {X : Type 0} (P : JSXExprContainer X → Type 0) → ((span : Span) (n : JSXEmptyExpr) → P (record { span = span; expr = contents.JSXEmptyExpr n })) → ((span : Span) (n : ExprBox X) → P (record { span = span; expr = contents.Expr n })) → (n : JSXExprContainer X) → P n
by_container P empty full n = by_contained P empty full n.span n.expr

by_value : {X : Type 0} (P : Option (JSXAttrValue X) → Type 0)
    → P None
    → ((n : Lit) → P (Some (attr_values.Lit n)))
    → ((n : JSXExprContainer X) → P (Some (attr_values.JSXExprContainer n)))
    → ((n : JSXElementBox X) → P (Some (attr_values.JSXElement n)))
    → ((n : JSXFragmentBox X) → P (Some (attr_values.JSXFragment n)))
    → (n : Option (JSXAttrValue X)) → P n
by_value P none lit container element fragment None = none
by_value P none lit container element fragment (Some (attr_values.Lit n)) = lit n
by_value P none lit container element fragment (Some (attr_values.JSXExprContainer n)) = container n
by_value P none lit container element fragment (Some (attr_values.JSXElement n)) = element n
by_value P none lit container element fragment (Some (attr_values.JSXFragment n)) = fragment n

-- what holds of each attribute, by its value, and of each spread
by_attr : {X : Type 0} (P : JSXAttrOrSpread X → Type 0)
    → ((n : JSXAttr X) → P (attrs.JSXAttr (record n { value = None })))
    → ((n : JSXAttr X) (v : Lit) → P (attrs.JSXAttr (record n { value = Some (attr_values.Lit v) })))
    → ((n : JSXAttr X) (span : Span) (v : JSXEmptyExpr) → P (attrs.JSXAttr (record n { value = Some (attr_values.JSXExprContainer (record { span = span; expr = contents.JSXEmptyExpr v })) })))
    → ((n : JSXAttr X) (span : Span) (v : ExprBox X) → P (attrs.JSXAttr (record n { value = Some (attr_values.JSXExprContainer (record { span = span; expr = contents.Expr v })) })))
    → ((n : JSXAttr X) (v : JSXElementBox X) → P (attrs.JSXAttr (record n { value = Some (attr_values.JSXElement v) })))
    → ((n : JSXAttr X) (v : JSXFragmentBox X) → P (attrs.JSXAttr (record n { value = Some (attr_values.JSXFragment v) })))
    → ((n : SpreadElement X) → P (attrs.SpreadElement n))
    → (n : JSXAttrOrSpread X) → P n
by_attr P none lit empty full element fragment spread (attrs.SpreadElement n) = spread n
by_attr P none lit empty full element fragment spread (attrs.JSXAttr n) = by_value (λ v. P (attrs.JSXAttr (record n { value = v }))) (none n) (lit n) (by_container (λ v. P (attrs.JSXAttr (record n { value = Some (attr_values.JSXExprContainer v) }))) (empty n) (full n)) (element n) (fragment n) n.value

-- what holds of each child
by_child : {X : Type 0} (P : JSXElementChild X → Type 0)
    → ((n : JSXText) → P (children.JSXText n))
    → ((span : Span) (n : JSXEmptyExpr) → P (children.JSXExprContainer (record { span = span; expr = contents.JSXEmptyExpr n })))
    → ((span : Span) (n : ExprBox X) → P (children.JSXExprContainer (record { span = span; expr = contents.Expr n })))
    → ((n : JSXSpreadChild X) → P (children.JSXSpreadChild n))
    → ((n : JSXElementBox X) → P (children.JSXElement n))
    → ((n : JSXFragmentBox X) → P (children.JSXFragment n))
    → (n : JSXElementChild X) → P n
by_child P text empty full spread element fragment (children.JSXText n) = text n
by_child P text empty full spread element fragment (children.JSXExprContainer n) = by_container (λ v. P (children.JSXExprContainer v)) empty full n
by_child P text empty full spread element fragment (children.JSXSpreadChild n) = spread n
by_child P text empty full spread element fragment (children.JSXElement n) = element n
by_child P text empty full spread element fragment (children.JSXFragment n) = fragment n

-- ---- parts of the same words

attributes_mapped : {A B : Type 0} (g : A → B) (e : B → Part) (d : A → Part) → ((x : A) (rest : Plan) → e (g x) rest ≡ d x rest) → (first : Bool) (xs : List A) (rest : Plan) → jsx_attributes e first (map g xs) rest ≡ jsx_attributes d first xs rest
unfolding jsx_attributes
attributes_mapped g e d same first [] rest = refl
attributes_mapped g e d same first (x ∷ xs) rest = ap (blank first) (same x (jsx_attributes e false (map g xs) rest) ∙ ap (d x) (attributes_mapped g e d same false xs rest))

in_order_mapped : {A B : Type 0} (g : A → B) (e : B → Part) (d : A → Part) → ((x : A) (rest : Plan) → e (g x) rest ≡ d x rest) → (xs : List A) (rest : Plan) → in_order e (map g xs) rest ≡ in_order d xs rest
unfolding in_order
in_order_mapped g e d same [] rest = refl
in_order_mapped g e d same (x ∷ xs) rest = same x (in_order e (map g xs) rest) ∙ ap (d x) (in_order_mapped g e d same xs rest)

children_mapped : {X Y : Type 0} (g : JSXElementChild X → JSXElementChild Y) (items : Y → Place → Part) (put : X → Place → Part) → ((n : JSXElementChild X) (rest : Plan) → jsx_element_child items (g n) rest ≡ jsx_element_child put n rest) → (ns : List (JSXElementChild X)) (rest : Plan) → jsx_children items (map g ns) rest ≡ jsx_children put ns rest
unfolding jsx_children
children_mapped g items put same ns rest = in_order_mapped g (jsx_element_child items) (jsx_element_child put) same ns rest

opening_same : {X Y : Type 0} (asks : Y → Answers) (items : Y → Place → Part) (said : X → Answers) (put : X → Place → Part) (o : JSXOpeningElement Y) (n : JSXOpeningElement X) (context : Context)
    → ((rest : Plan) → type_args items Plain o.type_args rest ≡ type_args put Plain n.type_args rest)
    → ((rest : Plan) → jsx_element_name items o.name rest ≡ jsx_element_name put n.name rest)
    → ((rest : Plan) → jsx_attributes (jsx_attr_or_spread asks items) true o.attrs.items rest ≡ jsx_attributes (jsx_attr_or_spread said put) true n.attrs.items rest)
    → o.self_closing ≡ n.self_closing
    → (rest : Plan) → jsx_opening_element asks items o context rest ≡ jsx_opening_element said put n context rest
unfolding jsx_opening_element
opening_same asks items said put o n context typed name listed closes rest =
    ap (open_at context (codes "<"))
    (name (type_args items Plain o.type_args (jsx_attributes (jsx_attr_or_spread asks items) true o.attrs.items (self_closing o.self_closing (close rest))))
    ∙ ap (jsx_element_name put n.name)
    (typed (jsx_attributes (jsx_attr_or_spread asks items) true o.attrs.items (self_closing o.self_closing (close rest)))
    ∙ ap (type_args put Plain n.type_args)
    (listed (self_closing o.self_closing (close rest))
    ∙ ap (λ c. jsx_attributes (jsx_attr_or_spread said put) true n.attrs.items (self_closing c (close rest))) closes)))

element_same : {X Y : Type 0} (asks : Y → Answers) (items : Y → Place → Part) (said : X → Answers) (put : X → Place → Part) (o : JSXElement Y) (n : JSXElement X) (context : Context)
    → ((rest : Plan) → jsx_opening_element asks items o.opening context rest ≡ jsx_opening_element said put n.opening context rest)
    → ((rest : Plan) → jsx_children items o.children.items rest ≡ jsx_children put n.children.items rest)
    → ((rest : Plan) → optional_closing items o.closing rest ≡ optional_closing put n.closing rest)
    → (rest : Plan) → jsx_element asks items o context rest ≡ jsx_element said put n context rest
unfolding jsx_element jsx_element_parts
element_same asks items said put o n context opening children closing = unbounded_alike (jsx_element_parts asks items o context) (jsx_element_parts said put n context) (λ rest.
    ap (jsx_opening_element asks items o.opening context) (children (optional_closing items o.closing rest) ∙ ap (jsx_children put n.children.items) (closing rest))
    ∙ opening (jsx_children put n.children.items (optional_closing put n.closing rest)))

fragment_same : {X Y : Type 0} (items : Y → Place → Part) (put : X → Place → Part) (o : JSXFragment Y) (n : JSXFragment X) (context : Context) → ((rest : Plan) → jsx_children items o.children.items rest ≡ jsx_children put n.children.items rest) → (rest : Plan) → jsx_fragment items o context rest ≡ jsx_fragment put n context rest
unfolding jsx_fragment jsx_fragment_parts
fragment_same items put o n context children = unbounded_alike (jsx_fragment_parts items o context) (jsx_fragment_parts put n context) (λ rest. ap (opening_fragment context) (children (closing_fragment rest)))

-- ---- what links hold

object_mapped : {X Y : Type 0} (g : X → Y) (asks : Y → Answers) (items : Y → Place → Part) (n : JSXObject X) (place : Place) (rest : Plan) → node_items asks items (map-AnyNode X Y g (nodes.JSXPart (jsx_parts.JSXObject n))) place rest ≡ jsx_object (λ x. items (g x)) n rest
unfolding node_items jsx_part jsx_object jsx_member_expr
object_mapped g asks items (objects.JSXMemberExpr n) place rest = refl
object_mapped g asks items (objects.Ident n) place rest = refl

fragment_mapped : {X Y : Type 0} (g : X → Y) (asks : Y → Answers) (items : Y → Place → Part) (n : JSXFragment X) (place : Place) (rest : Plan) → node_items asks items (map-AnyNode X Y g (nodes.JSXPart (jsx_parts.JSXFragment n))) place rest ≡ jsx_fragment (λ x. items (g x)) n (context_of place) rest
unfolding node_items jsx_part jsx_element_child jsx_expr_container jsx_expr jsx_spread_child
fragment_mapped {X} {Y} g asks items n place rest = fragment_same items (λ x. items (g x)) _ n (context_of place) (children_mapped {X = X} {Y = Y} _ items (λ x. items (g x)) (by_child {X = X} _ (λ m after. refl) (λ span m after. refl) (λ span m after. refl) (λ m after. refl) (λ m after. refl) (λ m after. refl)) n.children.items) rest

-- ---- an element, part for part

abbrev as_node : {X : Type 0} → Box (JSXElement X) Global → JSXElement X → AnyNode-F X
as_node b n = nodes.JSXPart (jsx_parts.JSXElement (record b { value = n }))

abbrev name_in : {X : Type 0} → (X → Place → Part) → AnyNode-F X → Part
name_in items (nodes.JSXPart (jsx_parts.JSXElement b)) rest = jsx_element_name items b.value.opening.name rest
name_in items n rest = rest

abbrev types_in : {X : Type 0} → (X → Place → Part) → AnyNode-F X → Part
types_in items (nodes.JSXPart (jsx_parts.JSXElement b)) rest = type_args items Plain b.value.opening.type_args rest
types_in items n rest = rest

abbrev closing_in : {X : Type 0} → (X → Place → Part) → AnyNode-F X → Part
closing_in items (nodes.JSXPart (jsx_parts.JSXElement b)) rest = optional_closing items b.value.closing rest
closing_in items n rest = rest

name_mapped : {X Y : Type 0} (g : X → Y) (items : Y → Place → Part) (b : Box (JSXElement X) Global) (n : JSXElement X) (name : JSXElementName X) (rest : Plan) → name_in items (map-AnyNode X Y g (as_node b (record n { opening = record n.opening { name = name } }))) rest ≡ jsx_element_name (λ x. items (g x)) name rest
unfolding jsx_element_name jsx_member_expr
name_mapped g items b n (element_names.Ident m) rest = refl
name_mapped g items b n (element_names.JSXMemberExpr m) rest = refl
name_mapped g items b n (element_names.JSXNamespacedName m) rest = refl

types_mapped : {X Y : Type 0} (g : X → Y) (items : Y → Place → Part) (b : Box (JSXElement X) Global) (n : JSXElement X) (args : Option (TsTypeParamInstantiationBox X)) (rest : Plan) → types_in items (map-AnyNode X Y g (as_node b (record n { opening = record n.opening { type_args = args } }))) rest ≡ type_args (λ x. items (g x)) Plain args rest
unfolding type_args
types_mapped g items b n None rest = refl
types_mapped g items b n (Some t) rest = refl

closed_mapped : {X Y : Type 0} (g : X → Y) (items : Y → Place → Part) (b : Box (JSXElement X) Global) (n : JSXElement X) (span : Span) (name : JSXElementName X) (rest : Plan) → closing_in items (map-AnyNode X Y g (as_node b (record n { closing = Some (record { span = span; name = name }) }))) rest ≡ optional_closing (λ x. items (g x)) (Some (record { span = span; name = name })) rest
unfolding optional_closing jsx_closing_element jsx_element_name jsx_member_expr
closed_mapped g items b n span (element_names.Ident m) rest = refl
closed_mapped g items b n span (element_names.JSXMemberExpr m) rest = refl
closed_mapped g items b n span (element_names.JSXNamespacedName m) rest = refl

closing_mapped : {X Y : Type 0} (g : X → Y) (items : Y → Place → Part) (b : Box (JSXElement X) Global) (n : JSXElement X) (closing : Option (JSXClosingElement X)) (rest : Plan) → closing_in items (map-AnyNode X Y g (as_node b (record n { closing = closing }))) rest ≡ optional_closing (λ x. items (g x)) closing rest
unfolding optional_closing
closing_mapped g items b n None rest = refl
closing_mapped g items b n (Some c) rest = closed_mapped g items b n c.span c.name rest

element_mapped : {X Y : Type 0} (g : X → Y) (asks : Y → Answers) (items : Y → Place → Part) (b : Box (JSXElement X) Global) (place : Place) (rest : Plan) → node_items asks items (map-AnyNode X Y g (nodes.JSXPart (jsx_parts.JSXElement b))) place rest ≡ jsx_element (λ x. asks (g x)) (λ x. items (g x)) b.value (context_of place) rest
unfolding node_items jsx_part jsx_attr_or_spread jsx_attr attr_initializer jsx_attr_value jsx_expr_container jsx_expr jsx_spread_child jsx_element_child spread_element spread_element_span
element_mapped {X} {Y} g asks items b place rest =
    element_same asks items (λ x. asks (g x)) (λ x. items (g x)) _ b.value (context_of place)
    (opening_same asks items (λ x. asks (g x)) (λ x. items (g x)) _ b.value.opening (context_of place)
    (types_mapped g items b b.value b.value.opening.type_args)
    (name_mapped g items b b.value b.value.opening.name)
    (attributes_mapped {A = JSXAttrOrSpread X} _ (jsx_attr_or_spread asks items) (jsx_attr_or_spread (λ x. asks (g x)) (λ x. items (g x))) (by_attr {X = X} _ (λ m after. refl) (λ m v after. refl) (λ m at v after. refl) (λ m at v after. refl) (λ m v after. refl) (λ m v after. refl) (λ m after. refl)) true b.value.opening.attrs.items)
    refl)
    (children_mapped {X = X} {Y = Y} _ items (λ x. items (g x)) (by_child {X = X} _ (λ m after. refl) (λ span m after. refl) (λ span m after. refl) (λ m after. refl) (λ m after. refl) (λ m after. refl)) b.value.children.items)
    (closing_mapped g items b b.value b.value.closing)
    rest

pub jsx_part_mapped : {X Y : Type 0} (g : X → Y) (asks : Y → Answers) (items : Y → Place → Part) (n : JSXPart X) (place : Place) (rest : Plan) → node_items asks items (map-AnyNode X Y g (nodes.JSXPart n)) place rest ≡ jsx_part (λ x. asks (g x)) (λ x. items (g x)) n place rest
unfolding node_items jsx_part
jsx_part_mapped g asks items (jsx_parts.JSXElement n) place rest = element_mapped g asks items n place rest
jsx_part_mapped g asks items (jsx_parts.JSXFragment n) place rest = fragment_mapped g asks items n place rest
jsx_part_mapped g asks items (jsx_parts.JSXObject n) place rest = object_mapped g asks items n place rest
