-- What is written of JSX is what it reads as.
use Rattle.std.proofs.Common.{◌≡◌, ℕ, Bool, true, false, not, ◌&&◌, List, [], ◌∷◌, map, codes, refl, sym, string_bytes, Option, Some, None}
use Rattle.std.specs.Str.{chars, is_utf8}
use Rattle.std.proofs.lemmas.Bool.{and_parts, true≢false}
use Rattle.swc_ecma_codegen_tree.specs.declared.idents.Ident.{Ident}
use Rattle.swc_ecma_codegen_tree.specs.declared.idents.IdentName.{IdentName}
use Rattle.swc_ecma_codegen_tree.specs.declared.lits.Lit.{Lit}
use Rattle.swc_ecma_codegen_tree.specs.declared.lits.Lit.TheVariants as lits
use Rattle.swc_ecma_codegen_tree.specs.declared.jsx.JSXAttr.{JSXAttr}
use Rattle.swc_ecma_codegen_tree.specs.declared.jsx.JSXAttrName.{JSXAttrName}
use Rattle.swc_ecma_codegen_tree.specs.declared.jsx.JSXAttrName.TheVariants as attr_names
use Rattle.swc_ecma_codegen_tree.specs.declared.jsx.JSXAttrOrSpread.{JSXAttrOrSpread}
use Rattle.swc_ecma_codegen_tree.specs.declared.jsx.JSXAttrOrSpread.TheVariants as attrs
use Rattle.swc_ecma_codegen_tree.specs.declared.jsx.JSXAttrValue.{JSXAttrValue}
use Rattle.swc_ecma_codegen_tree.specs.declared.jsx.JSXAttrValue.TheVariants as attr_values
use Rattle.swc_ecma_codegen_tree.specs.declared.jsx.JSXClosingElement.{JSXClosingElement}
use Rattle.swc_ecma_codegen_tree.specs.declared.jsx.JSXElement.{JSXElement}
use Rattle.swc_ecma_codegen_tree.specs.declared.jsx.JSXElementChild.{JSXElementChild}
use Rattle.swc_ecma_codegen_tree.specs.declared.jsx.JSXElementChild.TheVariants as children
use Rattle.swc_ecma_codegen_tree.specs.declared.jsx.JSXElementName.{JSXElementName}
use Rattle.swc_ecma_codegen_tree.specs.declared.jsx.JSXElementName.TheVariants as element_names
use Rattle.swc_ecma_codegen_tree.specs.declared.jsx.JSXExpr.{JSXExpr}
use Rattle.swc_ecma_codegen_tree.specs.declared.jsx.JSXExpr.TheVariants as contents
use Rattle.swc_ecma_codegen_tree.specs.declared.jsx.JSXExprContainer.{JSXExprContainer}
use Rattle.swc_ecma_codegen_tree.specs.declared.jsx.JSXFragment.{JSXFragment}
use Rattle.swc_ecma_codegen_tree.specs.declared.jsx.JSXMemberExpr.{JSXMemberExpr}
use Rattle.swc_ecma_codegen_tree.specs.declared.jsx.JSXNamespacedName.{JSXNamespacedName}
use Rattle.swc_ecma_codegen_tree.specs.declared.jsx.JSXObject.{JSXObject}
use Rattle.swc_ecma_codegen_tree.specs.declared.jsx.JSXObject.TheVariants as objects
use Rattle.swc_ecma_codegen_tree.specs.declared.jsx.JSXOpeningElement.{JSXOpeningElement}
use Rattle.swc_ecma_codegen_tree.specs.declared.jsx.JSXSpreadChild.{JSXSpreadChild}
use Rattle.swc_ecma_codegen_tree.specs.declared.parts.JSXPart.{JSXPart}
use Rattle.swc_ecma_codegen_tree.specs.declared.parts.JSXPart.TheVariants as jsx_parts
use Rattle.swc_ecma_codegen_grammar.specs.Jsx.{is_jsx_open}
use Rattle.swc_ecma_codegen_grammar.specs.JsxPhrases as lists
use Rattle.swc_ecma_codegen_grammar.specs.Phrases as phrases
use Rattle.swc_ecma_codegen_grammar.specs.Phrases.{Phrase, ◌>◌}
use Rattle.swc_ecma_codegen_grammar.specs.Punctuators.{is_punctuator, punctuators}
use Rattle.swc_ecma_codegen_grammar.specs.Texts.{begins, is_same, is_among}
use Rattle.swc_ecma_codegen_grammar.specs.declared.roles.Role.{Role}
use Rattle.swc_ecma_codegen_grammar.specs.declared.roles.Role.TheVariants.{Element, Child as IsChild, TagObject}
use Rattle.swc_ecma_codegen_text_writer.specs.Sheet.{is_ending}
use Rattle.swc_ecma_codegen_tokens.specs.Run.{Env, Part}
use Rattle.swc_ecma_codegen_tokens.specs.Tags.{closing, close}
use Rattle.swc_ecma_codegen_tokens.specs.Words.{bare_punct, punct}
use Rattle.swc_ecma_codegen_tokens.proofs.Filling.Lengths.{prints_at_length}
use Rattle.swc_ecma_codegen_tokens.specs.Written.{IsMark, Spot, Anything, Between, InText, InName}
use Rattle.swc_ecma_codegen_tokens.proofs.Reading.Phrased.{PrintsOn, PrintsAt, Prints, then_on, after_on, prints_nothing, prints_never, prints_bare_punct, prints_punct, prints_wider}
use Rattle.swc_ecma_codegen_tokens.proofs.Reading.Printed.{MakesWithinOn}
use Rattle.swc_ecma_codegen_tokens.proofs.Filling.Shapes.{open_, whole}
use Rattle.swc_ecma_codegen_tokens.proofs.Gaps.Spots.{is_narrower}
use Rattle.swc_ecma_codegen_tokens.proofs.Jsx.TagPrints.{less_is_mark, slash_is_mark, prints_spots, prints_never_on, prints_where_on, prints_tag_name, prints_named_bare, prints_named_mark, writes_named_gap, prints_tag_end, prints_less_open, prints_opens, prints_brace_end, prints_none, wider_on}
use Rattle.swc_ecma_codegen_tokens.proofs.Jsx.TagStrings.{prints_attribute_string, prints_text_node}
use Rattle.swc_ecma_codegen_emit.specs.declared.nodes.Context.{Context}
use Rattle.swc_ecma_codegen_emit.specs.declared.nodes.Context.TheVariants.{Plain, Child}
use Rattle.swc_ecma_codegen_emit.specs.Exprs.{blank}
use Rattle.swc_ecma_codegen_emit.specs.Jsx as words
use Rattle.swc_ecma_codegen_emit.specs.Lists.{in_order}
use Rattle.swc_ecma_codegen_emit.specs.Places.{Place, Whole, placed}
use Rattle.swc_ecma_codegen_emit.proofs.AnnotationParts.{tag_types_print}
use Rattle.swc_ecma_codegen_emit.proofs.ExprParts.{spread_element_prints}
use Rattle.swc_ecma_codegen_emit.proofs.Linked.{Linked, unbounded_linked, PrintsIn, expr_at}
use Rattle.swc_ecma_codegen_emit.proofs.MarkWords as marks

dot_is_mark : IsMark (codes ".")
unfolding is_punctuator is_among is_same punctuators chars is_utf8 lib.Utf8.encode
dot_is_mark = record { utf8 = refl; ascii = refl; shape = refl }

-- ---- names

tag_ident_prints : (env : Env) (n : Ident) → PrintsOn InName InName whole env (words.tag_ident n) (lists.tag_ident n)
unfolding words.tag_ident lists.tag_ident
tag_ident_prints env n = prints_where_on (not n.optional) (λ e. prints_tag_name env n.span (string_bytes n.sym))

tag_ident_name_prints : (env : Env) (n : IdentName) → PrintsOn InName InName whole env (words.tag_ident_name n) (lists.tag_ident_name n)
unfolding words.tag_ident_name lists.tag_ident_name
tag_ident_name_prints env n = prints_tag_name env n.span (string_bytes n.sym)

-- behind a mark
behind_mark : {env : Env} {p : Part} {f : Phrase} → PrintsOn InName InName whole env p f → PrintsOn Anything InName whole env p f
behind_mark h = prints_spots Anything InName refl refl h

-- `.`, `:`, `=` and `{` behind a name
named_dot : (env : Env) → PrintsOn InName Anything whole env (punct (codes ".")) (phrases.mark (codes "."))
unfolding is_ending begins
named_dot env = prints_named_mark env (codes ".") refl refl refl dot_is_mark

named_colon : (env : Env) → PrintsOn InName Anything whole env (punct (codes ":")) (phrases.mark (codes ":"))
unfolding is_ending begins
named_colon env = prints_named_mark env (codes ":") refl refl refl marks.colon

named_equal : (env : Env) → PrintsOn InName Anything whole env (punct (codes "=")) (phrases.mark (codes "="))
unfolding is_ending begins
named_equal env = prints_named_mark env (codes "=") refl refl refl marks.equal

named_brace : (env : Env) → PrintsOn InName Anything whole env (bare_punct (codes "{")) (phrases.mark (codes "{"))
unfolding is_ending begins
named_brace env = prints_named_bare env (codes "{") refl refl marks.left_brace

named_slash : (env : Env) → PrintsOn InName Anything whole env (punct (codes "/")) (phrases.mark (codes "/"))
unfolding is_ending begins
named_slash env = prints_named_mark env (codes "/") refl refl refl slash_is_mark

member_prints : {X : Type 0} (l : Linked X) (n : JSXMemberExpr X) → PrintsOn Anything InName whole l.env (words.jsx_member_expr l.items n) (lists.jsx_member_expr l.reads n)
unfolding words.jsx_member_expr lists.jsx_member_expr
member_prints l n = then_on (l.law n.obj.node.value (Whole Plain) TagObject) (then_on (named_dot l.env) (behind_mark (tag_ident_name_prints l.env n.prop)))

namespaced_prints : (env : Env) (n : JSXNamespacedName) → PrintsOn InName InName whole env (words.jsx_namespaced_name n) (lists.jsx_namespaced_name n)
unfolding words.jsx_namespaced_name lists.jsx_namespaced_name
namespaced_prints env n = then_on (tag_ident_name_prints env n.ns) (then_on (named_colon env) (behind_mark (tag_ident_name_prints env n.name)))

object_prints : {X : Type 0} (l : Linked X) (n : JSXObject X) → PrintsOn Anything InName whole l.env (words.jsx_object l.items n) (lists.jsx_object l.reads n)
unfolding words.jsx_object lists.jsx_object
object_prints l (objects.JSXMemberExpr n) = member_prints l n
object_prints l (objects.Ident n) = behind_mark (tag_ident_prints l.env n)

element_name_prints : {X : Type 0} (l : Linked X) (n : JSXElementName X) → PrintsOn Anything InName whole l.env (words.jsx_element_name l.items n) (lists.jsx_element_name l.reads n)
unfolding words.jsx_element_name lists.jsx_element_name
element_name_prints l (element_names.Ident n) = behind_mark (tag_ident_prints l.env n)
element_name_prints l (element_names.JSXMemberExpr n) = member_prints l n
element_name_prints l (element_names.JSXNamespacedName n) = behind_mark (namespaced_prints l.env n)

attr_name_prints : (env : Env) (n : JSXAttrName) → PrintsOn InName InName whole env (words.jsx_attr_name n) (lists.jsx_attr_name n)
unfolding words.jsx_attr_name lists.jsx_attr_name
attr_name_prints env (attr_names.Ident n) = tag_ident_name_prints env n
attr_name_prints env (attr_names.JSXNamespacedName n) = namespaced_prints env n

-- ---- expressions in braces

-- what may come before a child, and before what is none; and where it stands
abbrev before_open : Bool → Spot
before_open true = InText
before_open false = Anything

abbrev child_place : Bool → Context
child_place true = Child
child_place false = Plain

open_prints : (env : Env) (is_child : Bool) (t : List ℕ) → IsMark t → is_jsx_open t ≡ true → PrintsOn (before_open is_child) Anything whole env (words.open_at (child_place is_child) t) (lists.open_mark is_child t)
unfolding words.open_at lists.open_mark
open_prints env true t w o = prints_opens env t o
open_prints env false t w o = prints_bare_punct env t w

brace_prints : (env : Env) (is_child : Bool) → PrintsOn (before_open is_child) Anything whole env (words.open_at (child_place is_child) (codes "{")) (lists.open_mark is_child (codes "{"))
unfolding is_jsx_open is_among is_same
brace_prints env is_child = open_prints env is_child (codes "{") marks.left_brace refl

less_prints : (env : Env) (is_child : Bool) → PrintsOn (before_open is_child) Anything whole env (words.open_at (child_place is_child) (codes "<")) (lists.open_mark is_child (codes "<"))
unfolding is_jsx_open is_among is_same
less_prints env is_child = open_prints env is_child (codes "<") less_is_mark refl

content_prints : {X : Type 0} (l : Linked X) (n : JSXExpr X) → PrintsAt open_ l.env (words.jsx_expr l.items n) (lists.jsx_expr l.reads n)
unfolding words.jsx_expr lists.jsx_expr
content_prints l (contents.JSXEmptyExpr n) = prints_nothing
content_prints l (contents.Expr n) = prints_wider open_ refl (expr_at l n Plain)

container_prints : {X : Type 0} (l : Linked X) (is_child : Bool) (n : JSXExprContainer X) → PrintsOn (before_open is_child) Between whole l.env (words.jsx_expr_container l.items n (child_place is_child)) (lists.jsx_expr_container l.reads is_child n)
unfolding words.jsx_expr_container lists.jsx_expr_container
container_prints l is_child n = then_on (brace_prints l.env is_child) (then_on (content_prints l n.expr) (prints_brace_end l.env))

spread_child_prints : {X : Type 0} (l : Linked X) (n : JSXSpreadChild X) → PrintsOn InText Between whole l.env (words.jsx_spread_child l.items n) (lists.jsx_spread_child l.reads n)
unfolding words.jsx_spread_child lists.jsx_spread_child lists.open_mark is_jsx_open is_among is_same
spread_child_prints l n = then_on (prints_opens l.env (codes "{") refl) (then_on (prints_punct l.env (codes "...") marks.ellipsis) (then_on (expr_at l n.expr Plain) (prints_brace_end l.env)))

-- ---- attributes

-- where a name may stand next
at_name : {env : Env} {p : Part} {f : Phrase} → Prints env p f → PrintsOn Anything InName whole env p f
at_name h = prints_spots Anything InName refl refl h

attr_lit_prints : (env : Env) (n : Lit) → Prints env (words.jsx_attr_lit n) (lists.jsx_attr_lit n)
unfolding words.jsx_attr_lit lists.jsx_attr_lit
attr_lit_prints env (lits.Str n) = prints_attribute_string env n
attr_lit_prints env n = prints_never

value_prints : {X : Type 0} (l : Linked X) (n : JSXAttrValue X) → PrintsOn Anything InName whole l.env (words.jsx_attr_value l.items n) (lists.jsx_attr_value l.reads n)
unfolding words.jsx_attr_value lists.jsx_attr_value
value_prints l (attr_values.Lit n) = at_name (attr_lit_prints l.env n)
value_prints l (attr_values.JSXExprContainer n) = prints_spots Anything InName refl refl (container_prints l false n)
value_prints l (attr_values.JSXElement n) = prints_spots Anything InName refl refl (l.law n.node.value (Whole Plain) Element)
value_prints l (attr_values.JSXFragment n) = prints_spots Anything InName refl refl (l.law n.node.value (Whole Plain) Element)

initializer_prints : {X : Type 0} (l : Linked X) (n : Option (JSXAttrValue X)) → PrintsOn InName InName open_ l.env (words.attr_initializer l.items n) (lists.jsx_attr_init l.reads n)
unfolding words.attr_initializer lists.jsx_attr_init
initializer_prints l None = prints_none
initializer_prints l (Some n) = wider_on open_ refl (then_on (named_equal l.env) (value_prints l n))

attr_prints : {X : Type 0} (l : Linked X) (n : JSXAttr X) → PrintsOn InName InName whole l.env (words.jsx_attr l.items n) (lists.jsx_attr l.reads n)
unfolding words.jsx_attr lists.jsx_attr
attr_prints l n = then_on (attr_name_prints l.env n.name) (initializer_prints l n.value)

attr_or_spread_prints : {X : Type 0} (l : Linked X) (n : JSXAttrOrSpread X) → PrintsOn InName InName whole l.env (words.jsx_attr_or_spread l.asks l.items n) (lists.jsx_attr_or_spread l.reads n)
unfolding words.jsx_attr_or_spread lists.jsx_attr_or_spread
attr_or_spread_prints l (attrs.JSXAttr n) = attr_prints l n
attr_or_spread_prints l (attrs.SpreadElement n) = then_on (named_brace l.env) (then_on (spread_element_prints l n) (at_name (prints_punct l.env (codes "}") marks.right_brace)))

writes_gap : (env : Env) (first : Bool) → MakesWithinOn InName InName open_ 0 env (blank first) [] false
unfolding blank
writes_gap env first = writes_named_gap env first

attributes_print : {A : Type 0} (env : Env) (each : A → Part) (e : A → Phrase) → ((x : A) → PrintsOn InName InName whole env (each x) (e x)) → (first : Bool) (xs : List A) → PrintsOn InName InName open_ env (words.jsx_attributes each first xs) (phrases.in_order (map e xs))
unfolding words.jsx_attributes phrases.in_order
attributes_print env each e law first [] = prints_none
attributes_print env each e law first (x ∷ xs) = wider_on open_ refl (after_on (writes_gap env first) (then_on (law x) (attributes_print env each e law false xs)))

-- ---- tags

self_closing_prints : (env : Env) (closes : Bool) → PrintsOn InName InName open_ env (words.self_closing closes) (lists.self_close closes)
unfolding words.self_closing lists.self_close
self_closing_prints env true = wider_on open_ refl (prints_spots InName InName refl refl (named_slash env))
self_closing_prints env false = prints_none

opening_prints : {X : Type 0} (l : Linked X) (is_child : Bool) (n : JSXOpeningElement X) → PrintsOn (before_open is_child) Between whole l.env (words.jsx_opening_element l.asks l.items n (child_place is_child)) (lists.jsx_opening_element l.reads is_child n)
unfolding words.jsx_opening_element lists.jsx_opening_element
opening_prints l is_child n =
    then_on (less_prints l.env is_child)
    (then_on (element_name_prints l n.name)
    (then_on (tag_types_print l n.type_args)
    (then_on (attributes_print l.env (words.jsx_attr_or_spread l.asks l.items) (lists.jsx_attr_or_spread l.reads) (attr_or_spread_prints l) true n.attrs.items)
    (then_on (self_closing_prints l.env n.self_closing) (prints_tag_end l.env)))))

closing_prints : {X : Type 0} (l : Linked X) (n : JSXClosingElement X) → PrintsOn InText Between whole l.env (words.jsx_closing_element l.items n) (lists.jsx_closing_element l.reads n)
unfolding words.jsx_closing_element lists.jsx_closing_element lists.open_mark
closing_prints l n = then_on (prints_less_open l.env) (then_on (prints_punct l.env (codes "/") slash_is_mark) (then_on (element_name_prints l n.name) (prints_tag_end l.env)))

-- ---- children

-- what may come next behind a child, which is text or isn't
abbrev spot_behind : Bool → Spot
spot_behind true = InText
spot_behind false = Between

-- a child that is text, and one that isn't
record PrintsChild (env : Env) (text : Bool) (part : Part) (phrase : Phrase) : Type 0 where
  pub is_text : text ≡ true → PrintsOn Between InText whole env part phrase
  pub is_other : text ≡ false → PrintsOn InText Between whole env part phrase

some_text : {env : Env} {p : Part} {f : Phrase} → PrintsOn Between InText whole env p f → PrintsChild env true p f
some_text h = record { is_text = λ e. h; is_other = λ e. absurd (true≢false e) }

no_text : {env : Env} {p : Part} {f : Phrase} → PrintsOn InText Between whole env p f → PrintsChild env false p f
no_text h = record { is_text = λ e. absurd (true≢false (sym e)); is_other = λ e. h }

child_prints : {X : Type 0} (l : Linked X) (n : JSXElementChild X) → PrintsChild l.env (lists.is_text n) (words.jsx_element_child l.items n) (lists.jsx_element_child l.reads n)
unfolding lists.is_text words.jsx_element_child lists.jsx_element_child
child_prints l (children.JSXText n) = some_text (prints_text_node l.env n)
child_prints l (children.JSXExprContainer n) = no_text (container_prints l true n)
child_prints l (children.JSXSpreadChild n) = no_text (spread_child_prints l n)
child_prints l (children.JSXElement n) = no_text (l.law n.node.value (Whole Child) IsChild)
child_prints l (children.JSXFragment n) = no_text (l.law n.node.value (Whole Child) IsChild)

behind_spot : (b : Bool) → is_narrower (spot_behind b) InText ≡ true
behind_spot true = refl
behind_spot false = refl

fresh_spot : (b : Bool) → not (b && true) ≡ true → is_narrower (spot_behind b) Between ≡ true
fresh_spot true h = absurd (true≢false (sym h))
fresh_spot false h = refl

child_then : {env : Env} {p q : Part} {f g : Phrase} {w : Spot} (b c : Bool) → PrintsChild env c p f → not (b && c) ≡ true → PrintsOn (spot_behind c) w open_ env q g → PrintsOn (spot_behind b) w whole env (λ rest. p (q rest)) (f > g)
child_then b true each h k = then_on (prints_spots (spot_behind b) InText (fresh_spot b h) refl (each.is_text refl)) k
child_then b false each h k = then_on (prints_spots (spot_behind b) Between (behind_spot b) refl (each.is_other refl)) k

children_from : {X : Type 0} (l : Linked X) (b : Bool) (xs : List (JSXElementChild X)) → lists.is_parted b xs ≡ true → PrintsOn (spot_behind b) (spot_behind (lists.ends_in_text b xs)) open_ l.env (in_order (words.jsx_element_child l.items) xs) (phrases.in_order (map (lists.jsx_element_child l.reads) xs))
unfolding in_order phrases.in_order lists.is_parted lists.ends_in_text
children_from l b [] h = prints_none
children_from l b (x ∷ xs) h =
    let p = and_parts (not (b && lists.is_text x)) (lists.is_parted (lists.is_text x) xs) h in
    wider_on open_ refl (child_then b (lists.is_text x) (child_prints l x) p.0 (children_from l (lists.is_text x) xs p.1))

-- no text stands right behind text
children_print : {X : Type 0} (l : Linked X) (xs : List (JSXElementChild X)) → PrintsOn Between (spot_behind (lists.ends_in_text false xs)) open_ l.env (words.jsx_children l.items xs) (lists.jsx_children l.reads xs)
unfolding words.jsx_children lists.jsx_children
children_print l xs = prints_where_on (lists.is_parted false xs) (λ h. children_from l false xs h)

-- a closing tag stands behind them
children_then : {X : Type 0} (l : Linked X) {q : Part} {g : Phrase} (xs : List (JSXElementChild X)) → PrintsOn InText Between whole l.env q g → PrintsOn Between Between whole l.env (λ rest. words.jsx_children l.items xs (q rest)) (lists.jsx_children l.reads xs > g)
children_then l xs k = then_on (children_print l xs) (prints_spots (spot_behind (lists.ends_in_text false xs)) Between (behind_spot (lists.ends_in_text false xs)) refl k)

no_text_last : (b : Bool) → not b ≡ true → is_narrower (spot_behind b) Between ≡ true
no_text_last true h = absurd (true≢false (sym h))
no_text_last false h = refl

-- ---- elements and fragments

rest_prints : {X : Type 0} (l : Linked X) (xs : List (JSXElementChild X)) (closing : Option (JSXClosingElement X)) → PrintsOn Between Between open_ l.env (λ rest. words.jsx_children l.items xs (words.optional_closing l.items closing rest)) (lists.jsx_rest l.reads xs closing)
unfolding words.optional_closing lists.jsx_rest
rest_prints l xs None = prints_where_on (not (lists.ends_in_text false xs)) (λ e. prints_spots Between Between refl (no_text_last (lists.ends_in_text false xs) e) (children_print l xs))
rest_prints l xs (Some n) = wider_on open_ refl (children_then l xs (closing_prints l n))

element_parts_print : {X : Type 0} (l : Linked X) (is_child : Bool) (n : JSXElement X) → PrintsOn (before_open is_child) Between whole l.env (words.jsx_element_parts l.asks l.items n (child_place is_child)) (lists.jsx_element l.reads is_child n)
unfolding words.jsx_element_parts lists.jsx_element
element_parts_print l is_child n = then_on (opening_prints l is_child n.opening) (rest_prints l n.children.items n.closing)

-- no line may be ended in it
element_prints : {X : Type 0} (l : Linked X) (is_child : Bool) (n : JSXElement X) → PrintsOn (before_open is_child) Between whole l.env (words.jsx_element l.asks l.items n (child_place is_child)) (lists.jsx_element l.reads is_child n)
unfolding words.jsx_element
element_prints l is_child n = prints_at_length None l.env (words.jsx_element_parts l.asks l.items n (child_place is_child)) (element_parts_print (unbounded_linked l) is_child n)

-- `>` behind `<` or `/`
end_prints : (env : Env) → PrintsOn Anything Between whole env close (phrases.One closing)
end_prints env = prints_spots Anything Between refl refl (prints_tag_end env)

opening_fragment_prints : (env : Env) (is_child : Bool) → PrintsOn (before_open is_child) Between whole env (words.opening_fragment (child_place is_child)) (lists.jsx_opening_fragment is_child)
unfolding words.opening_fragment lists.jsx_opening_fragment
opening_fragment_prints env is_child = then_on (less_prints env is_child) (end_prints env)

closing_fragment_prints : (env : Env) → PrintsOn InText Between whole env words.closing_fragment lists.jsx_closing_fragment
unfolding words.closing_fragment lists.jsx_closing_fragment lists.open_mark
closing_fragment_prints env = then_on (prints_less_open env) (then_on (prints_punct env (codes "/") slash_is_mark) (end_prints env))

fragment_parts_print : {X : Type 0} (l : Linked X) (is_child : Bool) (n : JSXFragment X) → PrintsOn (before_open is_child) Between whole l.env (words.jsx_fragment_parts l.items n (child_place is_child)) (lists.jsx_fragment l.reads is_child n)
unfolding words.jsx_fragment_parts lists.jsx_fragment
fragment_parts_print l is_child n = then_on (opening_fragment_prints l.env is_child) (children_then l n.children.items (closing_fragment_prints l.env))

fragment_prints : {X : Type 0} (l : Linked X) (is_child : Bool) (n : JSXFragment X) → PrintsOn (before_open is_child) Between whole l.env (words.jsx_fragment l.items n (child_place is_child)) (lists.jsx_fragment l.reads is_child n)
unfolding words.jsx_fragment
fragment_prints l is_child n = prints_at_length None l.env (words.jsx_fragment_parts l.items n (child_place is_child)) (fragment_parts_print (unbounded_linked l) is_child n)

-- ---- what links hold, in its role

pub jsx_part_prints : {X : Type 0} (l : Linked X) (n : JSXPart X) (place : Place) (role : Role) → PrintsIn role place l.env (words.jsx_part l.asks l.items n (placed role place)) (lists.jsx_part l.reads n role)
unfolding words.jsx_part lists.jsx_part
jsx_part_prints l (jsx_parts.JSXElement n) place Element = element_prints l false n.value
jsx_part_prints l (jsx_parts.JSXElement n) place IsChild = element_prints l true n.value
jsx_part_prints l (jsx_parts.JSXFragment n) place Element = fragment_prints l false n
jsx_part_prints l (jsx_parts.JSXFragment n) place IsChild = fragment_prints l true n
jsx_part_prints l (jsx_parts.JSXObject n) place TagObject = object_prints l n
jsx_part_prints l n place role = prints_never_on
