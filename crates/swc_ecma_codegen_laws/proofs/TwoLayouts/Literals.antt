-- Literals are written alike by any layout, each as its settings spell it.
use Rattle.std.proofs.Common.{ℕ, ◌-◌, Bool, true, false, not, nat_lt, if◌then◌else◌, List, [], ◌∷◌, ◌++◌, codes, Some, None, is_none, refl, append-nil, string_bytes}
use Rattle.std.specs.Str.{chars}
use Rattle.swc_ecma_codegen_common.specs.declared.positions.BytePos.{BytePos}
use Rattle.swc_ecma_codegen_common.specs.declared.positions.Span.{Span}
use Rattle.swc_ecma_codegen_spans.specs.Spans.{dummy_span}
use Rattle.swc_ecma_codegen_grammar.specs.JsxPhrases.{jsx_spelling, text_spelling}
use Rattle.swc_ecma_codegen_grammar.specs.Numbers.{takes_dot}
use Rattle.swc_ecma_codegen_grammar.specs.TemplatePhrases.{part_begin, part_kind, part_text}
use Rattle.swc_ecma_codegen_grammar.specs.declared.kinds.Kind.TheVariants as kinds
use Rattle.swc_ecma_codegen_grammar.specs.declared.kinds.TemplatePart.{TemplatePart}
use Rattle.swc_ecma_codegen_grammar.specs.Templates.{part_end}
use Rattle.swc_ecma_codegen_text_writer.specs.Sheet as calls
use Rattle.swc_ecma_codegen_text_writer.specs.Sheet.{Item, Lit, Punct, StrLit}
use Rattle.swc_ecma_codegen_tree.specs.declared.exprs.TplElement.{TplElement}
use Rattle.swc_ecma_codegen_tree.specs.declared.lits.BigInt.{BigInt}
use Rattle.swc_ecma_codegen_tree.specs.declared.lits.Bool as tree_bool
use Rattle.swc_ecma_codegen_tree.specs.declared.lits.JSXText.{JSXText}
use Rattle.swc_ecma_codegen_tree.specs.declared.lits.Lit.{Lit as Literal}
use Rattle.swc_ecma_codegen_tree.specs.declared.lits.Lit.TheVariants as tree_lits
use Rattle.swc_ecma_codegen_tree.specs.declared.lits.Number.{Number}
use Rattle.swc_ecma_codegen_tree.specs.declared.lits.NumberValue.{NumberValue}
use Rattle.swc_ecma_codegen_tree.specs.declared.lits.NumberValue.TheVariants.{Infinity, NegInfinity}
use Rattle.swc_ecma_codegen_tree.specs.declared.lits.Str.{Str}
use Rattle.swc_ecma_codegen_tokens.specs.declared.refusals.Unprintable.TheVariants.{BadShape}
use Rattle.swc_ecma_codegen_tokens.specs.Attributes.{attribute_by, attribute_string, attribute_token, has_no_text, jsx_text_lit, spelled_string}
use Rattle.swc_ecma_codegen_tokens.specs.Literals.{big_digits, big_integer as whole_big_integer, dotted_number, number, number_name, regex, regex_text, sign, signed, size_of, string}
use Rattle.swc_ecma_codegen_tokens.specs.Lits.{before_property, begun_in, between_dots, big_int_at, big_int_by, big_int_parts, big_int_text, bool_lit, bool_node, bool_text, directive_end, infinity, infinity_text, is_directive, is_named, lit, makes_big_int, makes_number, named_number, not_a_number, null_lit, number_at, number_by, number_object, number_text, object_by, prints_big_raw, prints_raw, regex_lit, spelled_number, spelled_object, string_at, string_by, string_text}
use Rattle.swc_ecma_codegen_tokens.specs.Run.{Ends, Remake, after_step, step, text_of}
use Rattle.swc_ecma_codegen_tokens.specs.Templates.{closed, cooked_part, cooked_text, inside, makes_cooked, opened, part_by, placed_inside, tpl_element}
use Rattle.swc_ecma_codegen_laws.specs.Layouts.{Tokens, big_integer, dotted, mark, tokens_by, tokens_in, string as one_string, number as one_number, number_before_dot, big_int, template_part}
use Rattle.swc_ecma_codegen_laws.proofs.TwoLayouts.Words.{always_begun, always_commit, always_jsx_text, always_keyword, always_leading, always_position, always_remake, always_settled}
use Rattle.swc_ecma_codegen_laws.proofs.TwoLayouts.Emissions.{TwoLayouts, IsAlike, Always, always_either, always_guard, always_guarded, always_if, always_more, always_none, always_plain, always_step, always_then, alike_always, alike_either, alike_literal, alike_refuse, writes_as}

-- the call with which these tokens end
always_ends : (ts : Tokens) (x : Item) → Always (step (Ends ts x)) ts
unfolding after_step tokens_in tokens_by
always_ends ts x = always_step (Ends ts x) refl (append-nil ts)

always_begun_in : (in_lit : Bool) (span : Span) (t : List ℕ) → Always (begun_in in_lit span t) []
unfolding begun_in
always_begun_in in_lit span t = always_if in_lit (always_begun span t) always_none

-- ---- strings

always_string : (t : List ℕ) → Always (string t) ((kinds.Str, t) ∷ [])
unfolding string text_of
always_string t = always_guarded t kinds.Str (StrLit dummy_span t)

always_string_by : (in_lit : Bool) (n : Str) (t : List ℕ) → Always (string_by in_lit n t) ((kinds.Str, t) ∷ [])
unfolding string_by directive_end
always_string_by in_lit n t = always_then (always_begun_in in_lit n.span t) (always_then (always_settled n.span t) (always_then (always_string t) (always_if (is_directive n) (always_position n.span.hi) always_none)))

pub alike_string : {two : TwoLayouts} (bounded in_lit : Bool) (n : Str) → IsAlike two bounded (string_at in_lit n)
unfolding string_at
alike_string bounded in_lit n =
    alike_literal bounded (string_at in_lit n) (λ config. (kinds.Str, string_text config n) ∷ []) (λ s t. one_string n)
    (λ env. writes_as (string_at in_lit n) (λ rest. step (Remake (not (prints_raw env.config n))) (string_by in_lit n (string_text env.config n) rest)) (λ rest. refl)
    ((always_then (always_remake (not (prints_raw env.config n))) (always_string_by in_lit n (string_text env.config n))).at env))

-- ---- numbers

always_number : (t : List ℕ) → Always (number t) (signed kinds.Number t)
unfolding number
always_number t = always_then (always_guard t) (always_ends (signed kinds.Number t) (StrLit dummy_span t))

always_number_name : (span : Span) (t : List ℕ) → Always (number_name span t) ((kinds.Name, t) ∷ [])
unfolding number_name text_of
always_number_name span t = always_guarded t kinds.Name (StrLit span t)

always_sign : (negative : Bool) (span : Span) → Always (sign negative span) (if negative then mark (codes "-") ∷ [] else [])
unfolding sign text_of
always_sign negative span = always_either negative (always_guarded (codes "-") kinds.Punctuator (StrLit span (codes "-"))) always_none

always_infinity : (in_lit negative : Bool) (span : Span) → Always (infinity in_lit negative span) ((if negative then mark (codes "-") ∷ [] else []) ++ ((kinds.Name, codes "Infinity") ∷ []))
unfolding infinity
always_infinity in_lit negative span = always_then (always_begun_in in_lit span (infinity_text negative)) (always_then always_commit (always_then (always_leading span.lo) (always_then (always_sign negative span) (always_number_name span (codes "Infinity")))))

always_not_a_number : (in_lit : Bool) (span : Span) → Always (not_a_number in_lit span) ((kinds.Name, codes "NaN") ∷ [])
unfolding not_a_number
always_not_a_number in_lit span = always_then (always_begun_in in_lit span (codes "NaN")) (always_then (always_settled span (codes "NaN")) (always_number_name dummy_span (codes "NaN")))

alike_named : {two : TwoLayouts} (bounded in_lit : Bool) (span : Span) (v : NumberValue) → IsAlike two bounded (named_number in_lit span v)
unfolding named_number
alike_named bounded in_lit span Infinity = alike_always bounded (always_infinity in_lit false span)
alike_named bounded in_lit span NegInfinity = alike_always bounded (always_infinity in_lit true span)
alike_named bounded in_lit span v = alike_always bounded (always_not_a_number in_lit span)

always_number_by : (in_lit : Bool) (span : Span) (t : List ℕ) → Always (number_by in_lit span t) (signed kinds.Number t)
unfolding number_by
always_number_by in_lit span t = always_then (always_begun_in in_lit span t) (always_then (always_settled span t) (always_number t))

alike_spelled : {two : TwoLayouts} (bounded in_lit : Bool) (n : Number) → IsAlike two bounded (spelled_number in_lit n)
unfolding spelled_number
alike_spelled bounded in_lit n =
    alike_literal bounded (spelled_number in_lit n) (λ config. signed kinds.Number (number_text config n)) (λ s t. one_number n)
    (λ env. writes_as (spelled_number in_lit n) (λ rest. step (Remake (makes_number env.config n)) (number_by in_lit n.span (number_text env.config n) rest)) (λ rest. refl)
    ((always_then (always_remake (makes_number env.config n)) (always_number_by in_lit n.span (number_text env.config n))).at env))

pub alike_number : {two : TwoLayouts} (bounded in_lit : Bool) (n : Number) → IsAlike two bounded (number_at in_lit n)
unfolding number_at
alike_number bounded in_lit n = alike_either bounded (is_named n) (alike_named bounded in_lit n.span n.value) (alike_spelled bounded in_lit n)

always_dotted : (t : List ℕ) → Always (dotted_number t) (signed kinds.Number (t ++ codes "."))
unfolding dotted_number
always_dotted t = always_then (always_guard t) (always_then (always_plain (StrLit dummy_span t)) (always_ends (signed kinds.Number (t ++ codes ".")) (Punct None (codes "."))))

always_between_dots : (pos : BytePos) → Always (between_dots pos) []
unfolding between_dots
always_between_dots pos = always_if (nat_lt pos.0 2) always_none (always_leading (record { 0 = pos.0 - 2 }))

by_dot : (b : Bool) (t : List ℕ) (pos : BytePos) → Always (λ rest. if b then dotted_number t (between_dots pos rest) else number t rest) (signed kinds.Number (if b then t ++ codes "." else t))
by_dot true t pos = always_more (always_dotted t) (always_between_dots pos)
by_dot false t pos = always_number t

always_before_property : (t : List ℕ) (pos : BytePos) → Always (before_property t pos) (signed kinds.Number (dotted t))
unfolding before_property
always_before_property t pos = by_dot (takes_dot (chars (size_of t))) t pos

always_object_by : (span : Span) (pos : BytePos) (t : List ℕ) → Always (object_by span pos t) (signed kinds.Number (dotted t))
unfolding object_by
always_object_by span pos t = always_then (always_settled span t) (always_before_property t pos)

alike_spelled_object : {two : TwoLayouts} (bounded : Bool) (n : Number) (pos : BytePos) → IsAlike two bounded (spelled_object n pos)
unfolding spelled_object
alike_spelled_object bounded n pos =
    alike_literal bounded (spelled_object n pos) (λ config. signed kinds.Number (dotted (number_text config n))) (λ s t. number_before_dot n)
    (λ env. writes_as (spelled_object n pos) (λ rest. step (Remake (makes_number env.config n)) (object_by n.span pos (number_text env.config n) rest)) (λ rest. refl)
    ((always_then (always_remake (makes_number env.config n)) (always_object_by n.span pos (number_text env.config n))).at env))

pub alike_number_object : {two : TwoLayouts} (bounded : Bool) (n : Number) (pos : BytePos) → IsAlike two bounded (number_object n pos)
unfolding number_object
alike_number_object bounded n pos = alike_either bounded (is_named n) (alike_named bounded false n.span n.value) (alike_spelled_object bounded n pos)

-- ---- big integers

always_big_digits : (span : Span) (t : List ℕ) → Always (big_digits span t) (signed kinds.BigInt (t ++ codes "n"))
unfolding big_digits
always_big_digits span t = always_then (always_guard t) (always_then (always_plain (Lit span t)) (always_ends (signed kinds.BigInt (t ++ codes "n")) (Lit span (codes "n"))))

always_whole : (span : Span) (t : List ℕ) → Always (whole_big_integer span t) ((kinds.BigInt, t) ∷ [])
unfolding whole_big_integer text_of
always_whole span t = always_guarded t kinds.BigInt (StrLit span t)

always_big_by : (in_lit whole : Bool) (span : Span) (t : List ℕ) → Always (big_int_by in_lit whole span t) (if whole then (kinds.BigInt, t) ∷ [] else signed kinds.BigInt (t ++ codes "n"))
unfolding big_int_by big_int_parts
always_big_by in_lit whole span t = always_then (always_begun_in in_lit span t) (always_then (always_leading span.lo) (always_either whole (always_whole span t) (always_big_digits span t)))

pub alike_big_int : {two : TwoLayouts} (bounded in_lit : Bool) (n : BigInt) → IsAlike two bounded (big_int_at in_lit n)
unfolding big_int_at
alike_big_int bounded in_lit n =
    alike_literal bounded (big_int_at in_lit n) (λ config. big_integer config n) (λ s t. big_int n)
    (λ env. writes_as (big_int_at in_lit n) (λ rest. step (Remake (makes_big_int env.config n)) (big_int_by in_lit (prints_big_raw env.config n) n.span (big_int_text env.config n) rest)) (λ rest. refl)
    ((always_then (always_remake (makes_big_int env.config n)) (always_big_by in_lit (prints_big_raw env.config n) n.span (big_int_text env.config n))).at env))

-- ---- all literals

pub always_bool_node : (n : tree_bool.Bool) → Always (bool_node n) ((kinds.Word, bool_text n.value) ∷ [])
unfolding bool_node
always_bool_node n = always_then (always_leading n.span.lo) (always_keyword (Some n.span) (bool_text n.value))

always_regex : (exp flags : List ℕ) → Always (regex exp flags) ((kinds.Regex, regex_text exp flags) ∷ [])
unfolding regex
always_regex exp flags =
    always_then (always_guard (codes "/")) (always_then (always_plain (Punct None (codes "/"))) (always_then (always_plain (calls.Str exp)) (always_then (always_plain (Punct None (codes "/")))
    (always_ends ((kinds.Regex, regex_text exp flags) ∷ []) (calls.Str flags)))))

pub alike_lit : {two : TwoLayouts} (bounded : Bool) (n : Literal) → IsAlike two bounded (lit n)
unfolding lit bool_lit null_lit regex_lit
alike_lit bounded (tree_lits.Str n) = alike_string bounded true n
alike_lit bounded (tree_lits.Bool n) = alike_always bounded (always_then (always_begun n.span (bool_text n.value)) (always_keyword None (bool_text n.value)))
alike_lit bounded (tree_lits.Null n) = alike_always bounded (always_then (always_begun n.span (codes "null")) (always_keyword None (codes "null")))
alike_lit bounded (tree_lits.Num n) = alike_number bounded true n.value
alike_lit bounded (tree_lits.BigInt n) = alike_big_int bounded true n.value
alike_lit bounded (tree_lits.Regex n) = alike_always bounded (always_then (always_begun n.span (codes "/")) (always_regex (string_bytes n.exp) (string_bytes n.flags)))
alike_lit bounded (tree_lits.JSXText n) = alike_always bounded always_none

-- ---- JSX

always_attribute : (span : Span) (t : List ℕ) → Always (attribute_by span t) ((kinds.JsxString, t) ∷ [])
unfolding attribute_by attribute_token text_of
always_attribute span t = always_then (always_begun span t) (always_then (always_settled span t) (always_guarded t kinds.JsxString (StrLit dummy_span t)))

pub alike_attribute : {two : TwoLayouts} (bounded : Bool) (n : Str) → IsAlike two bounded (attribute_string n)
unfolding attribute_string spelled_string
alike_attribute bounded n = alike_either bounded (has_no_text n) (alike_refuse bounded BadShape) (alike_always bounded (always_then (always_remake (is_none n.raw)) (always_attribute n.span (jsx_spelling n.value n.raw))))

pub always_text_lit : (n : JSXText) → Always (jsx_text_lit n) ((kinds.JsxText, text_spelling n) ∷ [])
unfolding jsx_text_lit
always_text_lit n = always_then (always_begun n.span (text_spelling n)) (always_jsx_text n.span (text_spelling n))

-- ---- parts of templates

always_inside : (tagged : Bool) (t : List ℕ) → Always (inside tagged t) []
unfolding inside
always_inside tagged t = always_if tagged (always_ends [] (StrLit dummy_span t)) (always_plain (StrLit dummy_span t))

always_part : (first : Bool) (part : TemplatePart) (span : Span) (t : List ℕ) → Always (part_by first part span t) ((part_kind first part, part_text first part t) ∷ [])
unfolding part_by opened placed_inside closed
always_part first part span t =
    always_then (always_guard (part_begin first)) (always_then (always_plain (Punct None (part_begin first))) (always_then (always_then (always_position span.lo) (always_then (always_inside part.tagged t) (always_position span.hi)))
    (always_ends ((part_kind first part, part_text first part t) ∷ []) (Punct None (part_end part)))))

alike_cooked : {two : TwoLayouts} (bounded first : Bool) (part : TemplatePart) (n : TplElement) → IsAlike two bounded (cooked_part first part n)
unfolding cooked_part
alike_cooked bounded first part n =
    alike_literal bounded (cooked_part first part n) (λ config. (part_kind first part, part_text first part (cooked_text config (string_bytes n.raw))) ∷ []) (λ s t. template_part first part n)
    (λ env. writes_as (cooked_part first part n) (λ rest. step (Remake (makes_cooked env.config (string_bytes n.raw))) (part_by first part n.span (cooked_text env.config (string_bytes n.raw)) rest)) (λ rest. refl)
    ((always_then (always_remake (makes_cooked env.config (string_bytes n.raw))) (always_part first part n.span (cooked_text env.config (string_bytes n.raw)))).at env))

pub alike_element : {two : TwoLayouts} (bounded first : Bool) (part : TemplatePart) (n : TplElement) → IsAlike two bounded (tpl_element first part n)
unfolding tpl_element
alike_element bounded first part n = alike_either bounded part.tagged (alike_always bounded (always_part first part n.span (string_bytes n.raw))) (alike_cooked bounded first part n)
