-- JSX: one production a node. `f` says what is read of what a link holds, in its role. JSX specification, sections "JSX Elements", "JSX Attributes", "JSX Children" and "JSX Strings".
use Rattle.std.specs.Prelude.{ℕ, Bool, true, false, not, ◌&&◌, ◌==◌, if◌then◌else◌, List, [], ◌∷◌, ◌++◌, map, codes, string_bytes, Option, Some, None}
use Rattle.std.specs.List.{list_any}
use Rattle.std.specs.Str.{chars}
use Rattle.std.specs.declared.string.String.{String}
use Rattle.swc_ecma_codegen_tree.specs.declared.idents.Ident.{Ident}
use Rattle.swc_ecma_codegen_tree.specs.declared.idents.IdentName.{IdentName}
use Rattle.swc_ecma_codegen_tree.specs.declared.lits.Lit.{Lit}
use Rattle.swc_ecma_codegen_tree.specs.declared.lits.Lit.TheVariants as lits
use Rattle.swc_ecma_codegen_tree.specs.declared.lits.Str.{Str}
use Rattle.swc_ecma_codegen_tree.specs.declared.lits.JSXText.{JSXText}
use Rattle.swc_ecma_codegen_tree.specs.declared.jsx.JSXAttr.{JSXAttr}
use Rattle.swc_ecma_codegen_tree.specs.declared.jsx.JSXAttrName.{JSXAttrName}
use Rattle.swc_ecma_codegen_tree.specs.declared.jsx.JSXAttrName.TheVariants as attr_names
use Rattle.swc_ecma_codegen_tree.specs.declared.jsx.JSXAttrOrSpread.{JSXAttrOrSpread}
use Rattle.swc_ecma_codegen_tree.specs.declared.jsx.JSXAttrOrSpread.TheVariants as attrs
use Rattle.swc_ecma_codegen_tree.specs.declared.jsx.JSXAttrValue.{JSXAttrValue}
use Rattle.swc_ecma_codegen_tree.specs.declared.jsx.JSXAttrValue.TheVariants as attr_values
use Rattle.swc_ecma_codegen_tree.specs.declared.jsx.JSXClosingElement.{JSXClosingElement}
use Rattle.swc_ecma_codegen_tree.specs.declared.jsx.JSXElement.{JSXElement}
use Rattle.swc_ecma_codegen_tree.specs.declared.jsx.JSXElementChild.{JSXElementChild}
use Rattle.swc_ecma_codegen_tree.specs.declared.jsx.JSXElementChild.TheVariants as children
use Rattle.swc_ecma_codegen_tree.specs.declared.jsx.JSXElementName.{JSXElementName}
use Rattle.swc_ecma_codegen_tree.specs.declared.jsx.JSXElementName.TheVariants as element_names
use Rattle.swc_ecma_codegen_tree.specs.declared.jsx.JSXExpr.{JSXExpr}
use Rattle.swc_ecma_codegen_tree.specs.declared.jsx.JSXExpr.TheVariants as contained
use Rattle.swc_ecma_codegen_tree.specs.declared.jsx.JSXExprContainer.{JSXExprContainer}
use Rattle.swc_ecma_codegen_tree.specs.declared.jsx.JSXFragment.{JSXFragment}
use Rattle.swc_ecma_codegen_tree.specs.declared.jsx.JSXMemberExpr.{JSXMemberExpr}
use Rattle.swc_ecma_codegen_tree.specs.declared.jsx.JSXNamespacedName.{JSXNamespacedName}
use Rattle.swc_ecma_codegen_tree.specs.declared.jsx.JSXObject.{JSXObject}
use Rattle.swc_ecma_codegen_tree.specs.declared.jsx.JSXObject.TheVariants as objects
use Rattle.swc_ecma_codegen_tree.specs.declared.jsx.JSXOpeningElement.{JSXOpeningElement}
use Rattle.swc_ecma_codegen_tree.specs.declared.jsx.JSXSpreadChild.{JSXSpreadChild}
use Rattle.swc_ecma_codegen_tree.specs.declared.parts.JSXPart.{JSXPart}
use Rattle.swc_ecma_codegen_tree.specs.declared.parts.JSXPart.TheVariants as jsx_parts
use Rattle.swc_ecma_codegen_grammar.specs.Jsx.{is_jsx_string, is_jsx_text}
use Rattle.swc_ecma_codegen_grammar.specs.AnnotationPhrases.{type_args}
use Rattle.swc_ecma_codegen_grammar.specs.PatPhrases.{value_at}
use Rattle.swc_ecma_codegen_grammar.specs.Phrases.{Phrase, Never, Nothing, One, TagNameOf, ◌>◌, where_, mark, in_order}
use Rattle.swc_ecma_codegen_grammar.specs.PropPhrases.{spread_element}
use Rattle.swc_ecma_codegen_grammar.specs.Tokens as tokens
use Rattle.swc_ecma_codegen_grammar.specs.declared.roles.Role.{Role}
use Rattle.swc_ecma_codegen_grammar.specs.declared.roles.Role.TheVariants.{Element, Child, TagObject}

-- ---- names. Section "JSX Elements".

-- JSXIdentifier, without the `?` of TypeScript: `a-b` of `<a-b />`
unfoldable pub tag_ident : Ident → Phrase
tag_ident n = where_ (not n.optional) (TagNameOf n.span.lo (string_bytes n.sym))

unfoldable pub tag_ident_name : IdentName → Phrase
tag_ident_name n = TagNameOf n.span.lo (string_bytes n.sym)

-- JSXNamespacedName: `a:b`
unfoldable pub jsx_namespaced_name : JSXNamespacedName → Phrase
jsx_namespaced_name n = tag_ident_name n.ns > mark (codes ":") > tag_ident_name n.name

-- JSXMemberExpression: `a.b`
unfoldable pub jsx_member_expr : {X : Type 0} → (X → Role → Phrase) → JSXMemberExpr X → Phrase
jsx_member_expr f n = f n.obj.node.value TagObject > mark (codes ".") > tag_ident_name n.prop

unfoldable pub jsx_object : {X : Type 0} → (X → Role → Phrase) → JSXObject X → Phrase
jsx_object f (objects.JSXMemberExpr n) = jsx_member_expr f n
jsx_object f (objects.Ident n) = tag_ident n

-- JSXElementName
unfoldable pub jsx_element_name : {X : Type 0} → (X → Role → Phrase) → JSXElementName X → Phrase
jsx_element_name f (element_names.Ident n) = tag_ident n
jsx_element_name f (element_names.JSXMemberExpr n) = jsx_member_expr f n
jsx_element_name f (element_names.JSXNamespacedName n) = jsx_namespaced_name n

-- JSXAttributeName
unfoldable pub jsx_attr_name : JSXAttrName → Phrase
jsx_attr_name (attr_names.Ident n) = tag_ident_name n
jsx_attr_name (attr_names.JSXNamespacedName n) = jsx_namespaced_name n

-- ---- strings and text. Sections "JSX Strings" and "JSX Children". Nothing in them is escaped.

-- some byte of a text is this one
unfoldable pub holds : ℕ → List ℕ → Bool
holds b text = list_any (λ c. c == b) text

-- a text in `"`, or in `'` where it holds `"`
unfoldable pub jsx_quoted : List ℕ → List ℕ
jsx_quoted text = if holds 34 text then (codes "'" ++ (text ++ codes "'")) else (codes "\"" ++ (text ++ codes "\""))

-- what is written of the string of an attribute: its raw, or else its value in quotes
unfoldable pub jsx_spelling : {Y Z : Type 0} → String Y → Option (String Z) → List ℕ
jsx_spelling value None = jsx_quoted (string_bytes value)
jsx_spelling value (Some raw) = string_bytes raw

-- JSXString. `x"y'z` has no quotes in which it could stand.
unfoldable pub jsx_string : Str → Phrase
jsx_string n = where_ (is_jsx_string (chars (jsx_spelling n.value n.raw))) (One (tokens.jsx_string (chars (jsx_spelling n.value n.raw))))

-- what is written of a text between tags: its value where that is text, `a`, or else its raw: `&lt;` of `<`
unfoldable pub text_spelling : JSXText → List ℕ
text_spelling n = if is_jsx_text (chars (string_bytes n.value)) then string_bytes n.value else string_bytes n.raw

-- JSXText
unfoldable pub jsx_text : JSXText → Phrase
jsx_text n = where_ (is_jsx_text (chars (text_spelling n))) (One (tokens.jsx_text (chars (text_spelling n))))

-- ---- what stands in braces

-- the mark with which a child begins, or what is none
unfoldable pub open_mark : Bool → List ℕ → Phrase
open_mark true spelling = One (tokens.child_open spelling)
open_mark false spelling = mark spelling

-- nothing, in `{}`, or an expression
unfoldable pub jsx_expr : {X : Type 0} → (X → Role → Phrase) → JSXExpr X → Phrase
jsx_expr f (contained.JSXEmptyExpr n) = Nothing
jsx_expr f (contained.Expr n) = value_at f n

-- `{a}`
unfoldable pub jsx_expr_container : {X : Type 0} → (X → Role → Phrase) → Bool → JSXExprContainer X → Phrase
jsx_expr_container f is_child n = open_mark is_child (codes "{") > jsx_expr f n.expr > mark (codes "}")

-- `{...a}` between tags
unfoldable pub jsx_spread_child : {X : Type 0} → (X → Role → Phrase) → JSXSpreadChild X → Phrase
jsx_spread_child f n = open_mark true (codes "{") > mark (codes "...") > value_at f n.expr > mark (codes "}")

-- ---- attributes. Section "JSX Attributes".

-- of literals only a string
unfoldable pub jsx_attr_lit : Lit → Phrase
jsx_attr_lit (lits.Str n) = jsx_string n
jsx_attr_lit n = Never

-- JSXAttributeValue
unfoldable pub jsx_attr_value : {X : Type 0} → (X → Role → Phrase) → JSXAttrValue X → Phrase
jsx_attr_value f (attr_values.Lit n) = jsx_attr_lit n
jsx_attr_value f (attr_values.JSXExprContainer n) = jsx_expr_container f false n
jsx_attr_value f (attr_values.JSXElement n) = f n.node.value Element
jsx_attr_value f (attr_values.JSXFragment n) = f n.node.value Element

-- JSXAttributeInitializer: `="c"` of `b="c"`
unfoldable pub jsx_attr_init : {X : Type 0} → (X → Role → Phrase) → Option (JSXAttrValue X) → Phrase
jsx_attr_init f None = Nothing
jsx_attr_init f (Some n) = mark (codes "=") > jsx_attr_value f n

unfoldable pub jsx_attr : {X : Type 0} → (X → Role → Phrase) → JSXAttr X → Phrase
jsx_attr f n = jsx_attr_name n.name > jsx_attr_init f n.value

-- `b="c"` and `{...d}`
unfoldable pub jsx_attr_or_spread : {X : Type 0} → (X → Role → Phrase) → JSXAttrOrSpread X → Phrase
jsx_attr_or_spread f (attrs.JSXAttr n) = jsx_attr f n
jsx_attr_or_spread f (attrs.SpreadElement n) = mark (codes "{") > spread_element f n > mark (codes "}")

-- ---- tags. Section "JSX Elements".

-- `/` of `<a />`
unfoldable pub self_close : Bool → Phrase
self_close true = mark (codes "/")
self_close false = Nothing

-- JSXOpeningElement, and JSXSelfClosingElement
unfoldable pub jsx_opening_element : {X : Type 0} → (X → Role → Phrase) → Bool → JSXOpeningElement X → Phrase
jsx_opening_element f is_child n =
    open_mark is_child (codes "<") > jsx_element_name f n.name > type_args f n.type_args > in_order (map (jsx_attr_or_spread f) n.attrs.items)
    > self_close n.self_closing > One tokens.tag_close

-- JSXClosingElement: `</a>`
unfoldable pub jsx_closing_element : {X : Type 0} → (X → Role → Phrase) → JSXClosingElement X → Phrase
jsx_closing_element f n = open_mark true (codes "<") > mark (codes "/") > jsx_element_name f n.name > One tokens.tag_close

-- ---- children. Section "JSX Children".

-- JSXChild
unfoldable pub jsx_element_child : {X : Type 0} → (X → Role → Phrase) → JSXElementChild X → Phrase
jsx_element_child f (children.JSXText n) = jsx_text n
jsx_element_child f (children.JSXExprContainer n) = jsx_expr_container f true n
jsx_element_child f (children.JSXSpreadChild n) = jsx_spread_child f n
jsx_element_child f (children.JSXElement n) = f n.node.value Child
jsx_element_child f (children.JSXFragment n) = f n.node.value Child

unfoldable pub is_text : {X : Type 0} → JSXElementChild X → Bool
is_text (children.JSXText n) = true
is_text n = false

-- No text stands right behind text: two would be read as one. `after` says that text came last.
unfoldable pub is_parted : {X : Type 0} → Bool → List (JSXElementChild X) → Bool
is_parted after [] = true
is_parted after (x ∷ xs) = not (after && is_text x) && is_parted (is_text x) xs

-- text is the last of them; of none `after` says so
unfoldable pub ends_in_text : {X : Type 0} → Bool → List (JSXElementChild X) → Bool
ends_in_text after [] = after
ends_in_text after (x ∷ xs) = ends_in_text (is_text x) xs

-- JSXChildren
unfoldable pub jsx_children : {X : Type 0} → (X → Role → Phrase) → List (JSXElementChild X) → Phrase
jsx_children f xs = where_ (is_parted false xs) (in_order (map (jsx_element_child f) xs))

-- Children and the tag that closes them: without one, text isn't the last of them.
unfoldable pub jsx_rest : {X : Type 0} → (X → Role → Phrase) → List (JSXElementChild X) → Option (JSXClosingElement X) → Phrase
jsx_rest f xs None = where_ (not (ends_in_text false xs)) (jsx_children f xs)
jsx_rest f xs (Some n) = jsx_children f xs > jsx_closing_element f n

-- JSXElement
unfoldable pub jsx_element : {X : Type 0} → (X → Role → Phrase) → Bool → JSXElement X → Phrase
jsx_element f is_child n = jsx_opening_element f is_child n.opening > jsx_rest f n.children.items n.closing

-- JSXFragment
unfoldable pub jsx_opening_fragment : Bool → Phrase
jsx_opening_fragment is_child = open_mark is_child (codes "<") > One tokens.tag_close

unfoldable pub jsx_closing_fragment : Phrase
jsx_closing_fragment = open_mark true (codes "<") > mark (codes "/") > One tokens.tag_close

unfoldable pub jsx_fragment : {X : Type 0} → (X → Role → Phrase) → Bool → JSXFragment X → Phrase
jsx_fragment f is_child n = jsx_opening_fragment is_child > jsx_children f n.children.items > jsx_closing_fragment

-- ---- what links hold of JSX, in its role

unfoldable pub jsx_part : {X : Type 0} → (X → Role → Phrase) → JSXPart X → Role → Phrase
jsx_part f (jsx_parts.JSXElement n) Element = jsx_element f false n.value
jsx_part f (jsx_parts.JSXElement n) Child = jsx_element f true n.value
jsx_part f (jsx_parts.JSXFragment n) Element = jsx_fragment f false n
jsx_part f (jsx_parts.JSXFragment n) Child = jsx_fragment f true n
jsx_part f (jsx_parts.JSXObject n) TagObject = jsx_object f n
jsx_part f n role = Never
