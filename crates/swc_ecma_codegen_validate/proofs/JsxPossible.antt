-- When JSX is well-formed.
use Rattle.std.proofs.Common.{◌≡◌, ℕ, ◌-◌, ◌<◌, ◌==◌, Bool, true, false, cond, not, ◌&&◌, ◌||◌, codes, List, [], ◌∷◌, length, map, Some, None, refl, sym, ap, ◌∙◌, arith, string_bytes}
use Rattle.std.specs.Prelude.{slice_get}
use Rattle.std.specs.Str.{chars, IsUtf8}
use Rattle.std.proofs.lemmas.Str.{is_utf8-from_IsUtf8}
use Rattle.swc_ecma_codegen_tree.specs.declared.lits.JSXText.{JSXText}
use Rattle.swc_ecma_codegen_tree.specs.declared.jsx.JSXClosingElement.{JSXClosingElement}
use Rattle.swc_ecma_codegen_tree.specs.declared.jsx.JSXElement.{JSXElement}
use Rattle.swc_ecma_codegen_tree.specs.declared.jsx.JSXElementChild.{JSXElementChild}
use Rattle.swc_ecma_codegen_tree.specs.declared.jsx.JSXExprContainer.{JSXExprContainer}
use Rattle.swc_ecma_codegen_tree.specs.declared.jsx.JSXFragment.{JSXFragment}
use Rattle.swc_ecma_codegen_tree.specs.declared.jsx.JSXOpeningElement.{JSXOpeningElement}
use Rattle.swc_ecma_codegen_tree.specs.declared.jsx.JSXSpreadChild.{JSXSpreadChild}
use Rattle.swc_ecma_codegen_grammar.specs.AnnotationPhrases.{type_args}
use Rattle.swc_ecma_codegen_grammar.specs.ElementPhrases.{element}
use Rattle.swc_ecma_codegen_grammar.specs.TypePhrases.{args_at}
use Rattle.swc_ecma_codegen_grammar.specs.Jsx.{is_jsx_name, is_jsx_string, is_jsx_text}
use Rattle.swc_ecma_codegen_grammar.specs.JsxPhrases.{holds, jsx_quoted, text_spelling, jsx_text, open_mark, jsx_expr, jsx_expr_container, jsx_spread_child, jsx_attr_or_spread, self_close, jsx_opening_element, jsx_closing_element, jsx_element_name, jsx_element_child, is_text, is_parted, ends_in_text, jsx_children, jsx_rest, jsx_element, jsx_opening_fragment, jsx_closing_fragment, jsx_fragment}
use Rattle.swc_ecma_codegen_grammar.specs.PatPhrases.{value_at}
use Rattle.swc_ecma_codegen_grammar.specs.Phrases.{Phrase, One, ◌>◌, where_, mark, in_order, is_possible}
use Rattle.swc_ecma_codegen_grammar.specs.SpelledNames.{is_well_formed_tag_name}
use Rattle.swc_ecma_codegen_grammar.specs.Tokens as tokens
use Rattle.swc_ecma_codegen_grammar.specs.declared.roles.Role.{Role}
use Rattle.swc_ecma_codegen_grammar.proofs.Quotes.{held_by_characters, quoted_string}
use Rattle.swc_ecma_codegen_validate.specs.JsxForms.{holds_character, is_some_text}
use Rattle.swc_ecma_codegen_validate.specs.Possible.{all_possible}
use Rattle.swc_ecma_codegen_validate.proofs.Annotations.{args_possible}
use Rattle.swc_ecma_codegen_validate.proofs.Lists.{in_order_possible, and_true}
use Rattle.swc_ecma_codegen_validate.proofs.Possible.{where_possible}

-- ---- texts

-- a name in a tag is well-formed where its characters are one
pub tag_name_by_characters : (bytes : List ℕ) → IsUtf8 bytes → is_well_formed_tag_name bytes ≡ is_jsx_name (chars bytes)
unfolding is_well_formed_tag_name
tag_name_by_characters bytes u = ap (λ z. z && is_jsx_name (chars bytes)) (is_utf8-from_IsUtf8 bytes u)

pub one_possible : (b : Bool) (x : tokens.Token) → is_possible (where_ b (One x)) ≡ b
unfolding is_possible where_
one_possible true x = refl
one_possible false x = refl

text_of : (value raw : List ℕ) (b : Bool) → is_jsx_text (chars value) ≡ b → is_jsx_text (chars (cond b value raw)) ≡ b || is_jsx_text (chars raw)
text_of value raw true h = h
text_of value raw false h = refl

pub text_possible : (n : JSXText) → is_possible (jsx_text n) ≡ is_jsx_text (chars (string_bytes n.value)) || is_jsx_text (chars (string_bytes n.raw))
unfolding jsx_text text_spelling
text_possible n = one_possible _ _ ∙ text_of (string_bytes n.value) (string_bytes n.raw) _ refl

-- ---- quotes

same_held : (q : ℕ) (cs : List ℕ) → holds q cs ≡ holds_character q cs
unfolding holds holds_character
same_held q [] = refl
same_held q (c ∷ cs) = ap (λ b. (c == q) || b) (same_held q cs)

held : (q : ℕ) (bytes : List ℕ) → q < 128 → IsUtf8 bytes → holds q bytes ≡ holds_character q (chars bytes)
held q bytes h u = held_by_characters q bytes h u ∙ same_held q (chars bytes)

-- a value in quotes is a string where it lacks one of the two
pub quoted_by_characters : (value : List ℕ) → IsUtf8 value → is_jsx_string (chars (jsx_quoted value)) ≡ not (holds_character 34 (chars value) && holds_character 39 (chars value))
quoted_by_characters value u = quoted_string value u ∙ ap (λ b. not (b && holds 39 value)) (held 34 value (omega arith) u) ∙ ap (λ b. not (holds_character 34 (chars value) && b)) (held 39 value (omega arith) u)

-- ---- what stands in braces

pub open_possible : (is_child : Bool) (t : List ℕ) → is_possible (open_mark is_child t) ≡ true
unfolding is_possible open_mark
open_possible true t = refl
open_possible false t = refl

opened : (is_child : Bool) (t : List ℕ) (p : Phrase) → is_possible (open_mark is_child t > p) ≡ is_possible p
unfolding is_possible
opened is_child t p = ap (λ b. b && is_possible p) (open_possible is_child t)

pub container_possible : {X : Type 0} (f : X → Role → Phrase) (is_child : Bool) (n : JSXExprContainer X) → is_possible (jsx_expr_container f is_child n) ≡ is_possible (jsx_expr f n.expr)
unfolding is_possible jsx_expr_container
container_possible f is_child n = opened is_child (codes "{") (jsx_expr f n.expr > mark (codes "}")) ∙ and_true (is_possible (jsx_expr f n.expr))

-- as a child too
pub child_container_possible : {X : Type 0} (f : X → Role → Phrase) (is_child : Bool) (n : JSXExprContainer X) → is_possible (jsx_expr_container f is_child n) ≡ is_possible (jsx_expr_container f false n)
child_container_possible f is_child n = container_possible f is_child n ∙ sym (container_possible f false n)

pub spread_possible : {X : Type 0} (f : X → Role → Phrase) (n : JSXSpreadChild X) → is_possible (jsx_spread_child f n) ≡ is_possible (value_at f n.expr)
unfolding is_possible jsx_spread_child open_mark
spread_possible f n = and_true (is_possible (value_at f n.expr))

-- ---- tags

ends_possible : (closes : Bool) → is_possible (self_close closes > One tokens.tag_close) ≡ true
unfolding is_possible self_close
ends_possible true = refl
ends_possible false = refl

pub opening_possible : {X : Type 0} (f : X → Role → Phrase) (is_child : Bool) (n : JSXOpeningElement X) → is_possible (jsx_opening_element f is_child n) ≡ (is_possible (jsx_element_name f n.name) && (is_possible (element (args_at f) n.type_args) && all_possible (jsx_attr_or_spread f) n.attrs.items))
unfolding is_possible jsx_opening_element
opening_possible f is_child n =
    let ps : Phrase = in_order (map (jsx_attr_or_spread f) n.attrs.items) in
    let name : Bool = is_possible (jsx_element_name f n.name) in
    opened is_child (codes "<") (jsx_element_name f n.name > type_args f n.type_args > ps > self_close n.self_closing > One tokens.tag_close)
    ∙ ap (λ b. name && (is_possible (type_args f n.type_args) && (is_possible ps && b))) (ends_possible n.self_closing)
    ∙ ap (λ b. name && (b && (is_possible ps && true))) (args_possible f n.type_args)
    ∙ ap (λ b. name && (is_possible (element (args_at f) n.type_args) && b)) (and_true (is_possible ps) ∙ in_order_possible (jsx_attr_or_spread f) n.attrs.items)

pub closing_possible : {X : Type 0} (f : X → Role → Phrase) (n : JSXClosingElement X) → is_possible (jsx_closing_element f n) ≡ is_possible (jsx_element_name f n.name)
unfolding is_possible jsx_closing_element open_mark
closing_possible f n = and_true (is_possible (jsx_element_name f n.name))

-- ---- children

last_is : {X : Type 0} (after : Bool) (x : JSXElementChild X) (xs : List (JSXElementChild X)) → ends_in_text after (x ∷ xs) ≡ is_some_text (slice_get (x ∷ xs) (length xs))
unfolding ends_in_text is_some_text
last_is after x [] = refl
last_is after x (y ∷ ys) = last_is (is_text x) y ys

before_last : {A : Type 0} (x : A) (xs : List A) → length xs ≡ length (x ∷ xs) - 1
before_last x xs = omega arith

pub ends_by_last : {X : Type 0} (xs : List (JSXElementChild X)) → ends_in_text false xs ≡ is_some_text (slice_get xs (length xs - 1))
unfolding ends_in_text is_some_text
ends_by_last [] = refl
ends_by_last (x ∷ xs) = last_is false x xs ∙ ap (λ i. is_some_text (slice_get (x ∷ xs) i)) (before_last x xs)

pub children_possible : {X : Type 0} (f : X → Role → Phrase) (xs : List (JSXElementChild X)) → is_possible (jsx_children f xs) ≡ is_parted false xs && all_possible (jsx_element_child f) xs
unfolding jsx_children
children_possible f xs = where_possible (is_parted false xs) _ ∙ ap (λ b. is_parted false xs && b) (in_order_possible (jsx_element_child f) xs)

pub unclosed_possible : {X : Type 0} (f : X → Role → Phrase) (xs : List (JSXElementChild X)) → is_possible (jsx_rest f xs None) ≡ not (ends_in_text false xs) && is_possible (jsx_children f xs)
unfolding jsx_rest
unclosed_possible f xs = where_possible (not (ends_in_text false xs)) _

pub closed_possible : {X : Type 0} (f : X → Role → Phrase) (xs : List (JSXElementChild X)) (n : JSXClosingElement X) → is_possible (jsx_rest f xs (Some n)) ≡ is_possible (jsx_children f xs) && is_possible (jsx_closing_element f n)
unfolding is_possible jsx_rest
closed_possible f xs n = refl

-- ---- elements and fragments, as children too

pub child_element_possible : {X : Type 0} (f : X → Role → Phrase) (is_child : Bool) (n : JSXElement X) → is_possible (jsx_element f is_child n) ≡ is_possible (jsx_element f false n)
unfolding is_possible jsx_element
child_element_possible f is_child n = ap (λ b. b && is_possible (jsx_rest f n.children.items n.closing)) (opening_possible f is_child n.opening ∙ sym (opening_possible f false n.opening))

pub fragment_possible : {X : Type 0} (f : X → Role → Phrase) (is_child : Bool) (n : JSXFragment X) → is_possible (jsx_fragment f is_child n) ≡ is_possible (jsx_children f n.children.items)
unfolding is_possible jsx_fragment jsx_opening_fragment jsx_closing_fragment open_mark
fragment_possible f true n = and_true (is_possible (jsx_children f n.children.items))
fragment_possible f false n = and_true (is_possible (jsx_children f n.children.items))

pub child_fragment_possible : {X : Type 0} (f : X → Role → Phrase) (is_child : Bool) (n : JSXFragment X) → is_possible (jsx_fragment f is_child n) ≡ is_possible (jsx_fragment f false n)
child_fragment_possible f is_child n = fragment_possible f is_child n ∙ sym (fragment_possible f false n)
