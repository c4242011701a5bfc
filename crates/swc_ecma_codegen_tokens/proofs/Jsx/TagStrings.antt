-- What is printed of strings of attributes, and of text between tags.
use Rattle.std.proofs.Common.{◌≡◌, ℕ, ◌<◌, Bool, true, false, cond, not, ◌&&◌, is_none, List, [], ◌∷◌, ◌++◌, Option, Some, None, refl, sym, ap, ◌∙◌, subst, arith, string_bytes, Result}
use Rattle.std.specs.Str.{chars, IsUtf8, is_utf8}
use Rattle.std.specs.declared.string.String.{String}
use Rattle.std.proofs.lemmas.Bool.{true≢false}
use Rattle.std.proofs.lemmas.Str.{chars-nil, is_utf8-from_IsUtf8, IsUtf8-append, IsUtf8-string_bytes}
use Rattle.swc_ecma_codegen_common.specs.declared.errors.Refusal.{Refusal}
use Rattle.swc_ecma_codegen_common.specs.declared.positions.Span.{Span}
use Rattle.swc_ecma_codegen_spans.specs.Spans.{dummy_span}
use Rattle.swc_ecma_codegen_tree.specs.declared.lits.JSXText.{JSXText}
use Rattle.swc_ecma_codegen_tree.specs.declared.lits.Str.{Str}
use Rattle.swc_ecma_codegen_grammar.specs.GapRules.{last_after, allows}
use Rattle.swc_ecma_codegen_grammar.specs.Jsx.{is_jsx_string, is_jsx_text}
use Rattle.swc_ecma_codegen_grammar.specs.JsxPhrases as phrases
use Rattle.swc_ecma_codegen_grammar.specs.JsxPhrases.{holds, jsx_quoted, jsx_spelling, text_spelling}
use Rattle.swc_ecma_codegen_grammar.specs.Phrases.{One}
use Rattle.swc_ecma_codegen_grammar.specs.Reads.{is_child, is_hashbang_kind}
use Rattle.swc_ecma_codegen_grammar.specs.Tokens as lexical
use Rattle.swc_ecma_codegen_grammar.specs.Tokens.{has_shape, token_of, value_of}
use Rattle.swc_ecma_codegen_grammar.specs.declared.kinds.Kind.TheVariants.{JsxString}
use Rattle.swc_ecma_codegen_grammar.proofs.Quotes.{quote_utf8, quoted_string}
use Rattle.swc_ecma_codegen_settings.specs.declared.config.Config.{Config}
use Rattle.swc_ecma_codegen_text_writer.specs.Sheet.{Sheet}
use Rattle.swc_ecma_codegen_tokens.specs.Adds.{AddsOn}
use Rattle.swc_ecma_codegen_tokens.specs.Ascii.{is_tag_kind, is_kept, is_other, is_other_value, keeps_other, keeps_tokens, are_ascii_or_kept}
use Rattle.swc_ecma_codegen_tokens.specs.Attributes.{attribute_token, attribute_by, spelled_string, attribute_string, jsx_text_node}
use Rattle.swc_ecma_codegen_tokens.specs.Escapes.{is_spelled_anew}
use Rattle.swc_ecma_codegen_tokens.specs.Literals as words
use Rattle.swc_ecma_codegen_tokens.specs.Run.{Env, spelling, text_of, refuse}
use Rattle.swc_ecma_codegen_tokens.specs.Scripts.{is_str, is_string_call}
use Rattle.swc_ecma_codegen_tokens.specs.Tags.{text_token}
use Rattle.swc_ecma_codegen_tokens.specs.Written.{Between, InText}
use Rattle.swc_ecma_codegen_tokens.specs.declared.LowerEmitter.{LowerEmitter}
use Rattle.swc_ecma_codegen_tokens.specs.declared.refusals.Unprintable.TheVariants.{BadShape}
use Rattle.swc_ecma_codegen_tokens.proofs.Emission.StepAscii.{has_string}
use Rattle.swc_ecma_codegen_tokens.proofs.LiteralTokens.LiteralParts.{literal_handed, writes_begun, writes_settled_begun}
use Rattle.swc_ecma_codegen_tokens.proofs.Reading.Phrased.{Prints, PrintsOn, no_string, prints_where}
use Rattle.swc_ecma_codegen_tokens.proofs.Reading.Printed.{Writes, writes_then}
use Rattle.swc_ecma_codegen_tokens.proofs.Emission.Remade.{makes_remade, prints_anew}
use Rattle.swc_ecma_codegen_tokens.proofs.Filling.Shapes.{whole}
use Rattle.swc_ecma_codegen_tokens.proofs.Jsx.TagPrints.{hands_kept, is_text_token, prints_jsx_text, prints_where_on}
use Rattle.swc_ecma_codegen_tokens.proofs.Reading.TokenLays.{Spelled}

not_false : (b : Bool) → not b ≡ true → b ≡ false
not_false true h = absurd (true≢false (sym h))
not_false false h = refl

-- so it has a text where it is well-formed
has_text : {Y Z : Type 0} (value : String Y) (raw : Option (String Z)) → is_jsx_string (chars (jsx_spelling value raw)) ≡ true → (is_none raw && (holds 34 (string_bytes value) && holds 39 (string_bytes value))) ≡ false
unfolding jsx_spelling
has_text value None h = not_false _ (sym (quoted_string (string_bytes value) (IsUtf8-string_bytes value)) ∙ h)
has_text value (Some raw) h = refl

quoted_utf8 : (value : List ℕ) → IsUtf8 value → IsUtf8 (jsx_quoted value)
unfolding jsx_quoted
quoted_utf8 value u =
    let round : (q : ℕ) → q < 128 → IsUtf8 (q ∷ (value ++ q ∷ [])) = λ q h. IsUtf8-append (q ∷ []) (value ++ q ∷ []) (quote_utf8 q h) (IsUtf8-append value (q ∷ []) u (quote_utf8 q h)) in
    elim (holds 34 value) as (λ b. IsUtf8 (cond b (39 ∷ (value ++ 39 ∷ [])) (34 ∷ (value ++ 34 ∷ [])))) [ true ↦ round 39 (omega arith) | false ↦ round 34 (omega arith) ]

spelling_utf8 : {Y Z : Type 0} (value : String Y) (raw : Option (String Z)) → IsUtf8 (jsx_spelling value raw)
unfolding jsx_spelling
spelling_utf8 value None = quoted_utf8 (string_bytes value) (IsUtf8-string_bytes value)
spelling_utf8 value (Some raw) = IsUtf8-string_bytes raw

-- ---- strings of attributes

spelled_attribute : (t : List ℕ) → IsUtf8 t → is_jsx_string (chars t) ≡ true → Spelled JsxString t
unfolding spelling has_shape is_child is_hashbang_kind last_after allows is_jsx_string
spelled_attribute t u h = record {
  utf8 = u;
  same = refl;
  shape = h;
  no_child = λ e. true≢false (sym e);
  no_hashbang = λ e. true≢false (sym e);
  allowed = λ k v. refl;
  some = λ e. true≢false (sym h ∙ ap (λ z. is_jsx_string (chars z)) e ∙ ap is_jsx_string chars-nil);
}

writes_attribute : (env : Env) (t : List ℕ) → Spelled JsxString t → Writes env (attribute_token t) (token_of JsxString (spelling JsxString t) ∷ [])
unfolding attribute_token are_ascii_or_kept has_string is_string_call is_str keeps_other is_other is_kept is_tag_kind keeps_tokens is_other_value text_of token_of value_of spelling
writes_attribute env t p = literal_handed env JsxString dummy_span t p (hands_kept env t _ _ p.utf8 refl refl refl refl)

writes_attribute_by : (env : Env) (span : Span) (t : List ℕ) → Spelled JsxString t → Writes env (attribute_by span t) (token_of JsxString (spelling JsxString t) ∷ [])
unfolding attribute_by
writes_attribute_by env span t p =
    writes_then env (words.begun span t) _ [] (token_of JsxString (spelling JsxString t) ∷ []) (writes_begun env span t)
    (writes_then env (words.settled_begun span t) _ [] (token_of JsxString (spelling JsxString t) ∷ []) (writes_settled_begun env span t) (writes_attribute env t p))

prints_spelled : (env : Env) (n : Str) → is_jsx_string (chars (jsx_spelling n.value n.raw)) ≡ true → Prints env (spelled_string n) (One (lexical.jsx_string (chars (jsx_spelling n.value n.raw))))
unfolding spelled_string is_spelled_anew token_of value_of spelling lexical.jsx_string is_str
prints_spelled env n w =
    let t : List ℕ = jsx_spelling n.value n.raw in
    let m = makes_remade (is_none n.raw) (writes_attribute_by env n.span t (spelled_attribute t (spelling_utf8 n.value n.raw) w)) in
    prints_anew (lexical.jsx_string (chars t)) refl m (λ maps. no_string m refl maps)

pub prints_attribute_string : (env : Env) (n : Str) → Prints env (attribute_string n) (phrases.jsx_string n)
unfolding attribute_string phrases.jsx_string
prints_attribute_string env n = prints_where (is_jsx_string (chars (jsx_spelling n.value n.raw))) (λ w.
    subst (λ b. Prints env (λ rest. cond b (refuse BadShape rest) (spelled_string n rest)) (One (lexical.jsx_string (chars (jsx_spelling n.value n.raw))))) (sym (has_text n.value n.raw w)) (prints_spelled env n w))

-- ---- text between tags

text_utf8 : (b : Bool) (n : JSXText) → IsUtf8 (cond b (string_bytes n.value) (string_bytes n.raw))
text_utf8 true n = IsUtf8-string_bytes n.value
text_utf8 false n = IsUtf8-string_bytes n.raw

spelling_utf8_of : (n : JSXText) → is_utf8 (text_spelling n) ≡ true
unfolding text_spelling
spelling_utf8_of n = is_utf8-from_IsUtf8 (text_spelling n) (text_utf8 (is_jsx_text (chars (string_bytes n.value))) n)

-- a text that is that of a node adds its token
pub node_adds : (config : Config) (n : JSXText) (t : List ℕ) (a : Sheet) (e : LowerEmitter) (b : Sheet) (f : LowerEmitter) (r : Result (Unit {0}) Refusal) → t ≡ text_spelling n → (is_utf8 t ≡ true → is_jsx_text (chars t) ≡ true → AddsOn Between InText (text_token t ∷ []) config a e b f r) → is_jsx_text (chars (text_spelling n)) ≡ true → AddsOn Between InText (text_token (text_spelling n) ∷ []) config a e b f r
node_adds config n t a e b f r same h w = subst (λ z. is_utf8 z ≡ true → is_jsx_text (chars z) ≡ true → AddsOn Between InText (text_token z ∷ []) config a e b f r) same h (spelling_utf8_of n) w

-- its value, or its raw
pub prints_text_node : (env : Env) (n : JSXText) → PrintsOn Between InText whole env (jsx_text_node n) (phrases.jsx_text n)
unfolding phrases.jsx_text text_spelling
prints_text_node env n =
    let t : List ℕ = text_spelling n in
    prints_where_on (is_jsx_text (chars t)) (λ e. prints_jsx_text env n.span t (is_text_token t (is_utf8-from_IsUtf8 t (text_utf8 (is_jsx_text (chars (string_bytes n.value))) n)) e))
