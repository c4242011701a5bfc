-- What is written of a part of a template is what it reads as.
use Rattle.std.proofs.Common.{◌≡◌, ℕ, Bool, true, false, cond, not, ◌&&◌, ◌||◌, ◌==◌, List, [], ◌∷◌, ◌++◌, codes, Option, Some, None, refl, sym, ap, ◌∙◌, subst, string_bytes}
use Rattle.std.specs.Option.{is_some}
use Rattle.std.specs.Str.{chars, encode_utf8_all, is_utf8, IsUtf8}
use Rattle.std.proofs.lemmas.Bool.{and_parts, or_parts, true≢false}
use Rattle.std.proofs.lemmas.Str.{chars-append, chars-encodes, scalars-chars, IsUtf8-append, IsUtf8-from_is_utf8, IsUtf8-string_bytes}
use lib.Utf8.{encodes}
use Rattle.swc_ecma_codegen_tree.specs.declared.exprs.TplElement.{TplElement}
use Rattle.swc_ecma_codegen_settings.specs.declared.config.Config.{Config}
use Rattle.swc_ecma_codegen_grammar.specs.declared.kinds.TemplatePart.{TemplatePart}
use Rattle.swc_ecma_codegen_grammar.specs.LitPhrases.{characters}
use Rattle.swc_ecma_codegen_grammar.specs.TemplatePhrases as phrases
use Rattle.swc_ecma_codegen_grammar.specs.TemplatePhrases.{part_kind, part_begin, part_text, part_phrase}
use Rattle.swc_ecma_codegen_grammar.specs.Templates.{part_end, before_end, goes_on_as, ends_template, is_template, is_template_rest, part_units, IsInsidePart}
use Rattle.swc_ecma_codegen_grammar.specs.TemplateValues.{cooked_value}
use Rattle.swc_ecma_codegen_grammar.specs.Tokens as lexical
use Rattle.swc_ecma_codegen_grammar.specs.Tokens.{Value, Characters, Units, has_shape, token_of, value_of, part_value}
use Rattle.swc_ecma_codegen_literals.specs.AsciiNames.{is_ascii_text}
use Rattle.swc_ecma_codegen_literals.specs.TemplateTexts.{template_text}
use Rattle.swc_ecma_codegen_literals.proofs.NameTexts.{ascii_chars}
use Rattle.swc_ecma_codegen_literals.proofs.SpelledTexts.{ascii_from_all}
use Rattle.swc_ecma_codegen_literals.proofs.TemplateChars.{text_ascii, text_scalars}
use Rattle.swc_ecma_codegen_literals.proofs.TemplateCooks.{text_value}
use Rattle.swc_ecma_codegen_literals.proofs.TemplateParts.{text_before, value_inside}
use Rattle.swc_ecma_codegen_tokens.specs.Escapes.{is_spelled_anew}
use Rattle.swc_ecma_codegen_tokens.specs.Run.{Env, Part, Remake, step}
use Rattle.swc_ecma_codegen_tokens.specs.Scripts.{is_str}
use Rattle.swc_ecma_codegen_tokens.specs.Templates as words
use Rattle.swc_ecma_codegen_tokens.specs.Templates.{with_line_feeds, is_respelled, cooked_chars, cooked_text, makes_cooked}
use Rattle.swc_ecma_codegen_tokens.proofs.LiteralTokens.LineFeeds.{feeds_value, feeds_ascii, feeds_scalars}
use Rattle.swc_ecma_codegen_tokens.proofs.LiteralTokens.NumeralTexts.{ascii_by_chars}
use Rattle.swc_ecma_codegen_tokens.proofs.Reading.Phrased.{Prints, no_string, prints_one, prints_same, prints_where}
use Rattle.swc_ecma_codegen_tokens.proofs.Reading.Printed.{Writes}
use Rattle.swc_ecma_codegen_tokens.proofs.LiteralTokens.RawTexts.{ascii_is}
use Rattle.swc_ecma_codegen_tokens.proofs.Emission.Remade.{makes_remade, prints_anew}
use Rattle.swc_ecma_codegen_tokens.proofs.LiteralTokens.TemplateLaws.{part_spelled, part_spelling, writes_part}

-- ---- a part by its characters

mark_utf8 : (first : Bool) → IsUtf8 (part_begin first)
unfolding part_begin chars is_utf8 lib.Utf8.encode
mark_utf8 true = IsUtf8-from_is_utf8 (codes "`") refl
mark_utf8 false = IsUtf8-from_is_utf8 (codes "}") refl

mark_chars : (first : Bool) → chars (part_begin first) ≡ part_begin first
unfolding part_begin chars lib.Utf8.encode
mark_chars true = refl
mark_chars false = refl

end_utf8 : (part : TemplatePart) → IsUtf8 (part_end part)
unfolding part_end chars is_utf8 lib.Utf8.encode
end_utf8 part = elim part.opens as (λ b. IsUtf8 (cond b (codes "${") (codes "`"))) [ true ↦ IsUtf8-from_is_utf8 (codes "${") refl | false ↦ IsUtf8-from_is_utf8 (codes "`") refl ]

end_chars : (part : TemplatePart) → chars (part_end part) ≡ part_end part
unfolding part_end chars lib.Utf8.encode
end_chars part = elim part.opens as (λ b. chars (cond b (codes "${") (codes "`")) ≡ cond b (codes "${") (codes "`")) [ true ↦ refl | false ↦ refl ]

text_chars : (first : Bool) (part : TemplatePart) (t : List ℕ) → IsUtf8 t → chars (part_text first part t) ≡ part_text first part (chars t)
unfolding part_text
text_chars first part t u =
    chars-append (part_begin first) (t ++ part_end part) (mark_utf8 first) ∙ ap (λ z. z ++ chars (t ++ part_end part)) (mark_chars first)
    ∙ ap (λ z. part_begin first ++ z) (chars-append t (part_end part) u ∙ ap (λ z. chars t ++ z) (end_chars part))

text_utf8 : (first : Bool) (part : TemplatePart) (t : List ℕ) → IsUtf8 t → IsUtf8 (part_text first part t)
unfolding part_text
text_utf8 first part t u = IsUtf8-append (part_begin first) _ (mark_utf8 first) (IsUtf8-append t (part_end part) u (end_utf8 part))

text_some : (first : Bool) (part : TemplatePart) (t : List ℕ) → part_text first part t ≡ [] → ⊥
unfolding part_text part_begin
text_some true part t e = cc
text_some false part t e = cc

no_str : (first : Bool) (part : TemplatePart) → is_str (part_kind first part) ≡ false
unfolding part_kind is_str
no_str true part = refl
no_str false part = refl

-- a part by a text of which it has the shape
writes_by : (env : Env) (first : Bool) (part : TemplatePart) (n : TplElement) (t : List ℕ) → IsUtf8 t → has_shape (part_kind first part) (part_text first part (chars t)) ≡ true → (env.config.ascii_only ≡ true → part.tagged ≡ false → is_ascii_text t ≡ true) → Writes env (words.part_by first part n.span t) (token_of (part_kind first part) (part_text first part (chars t)) ∷ [])
writes_by env first part n t u h a =
    let same = text_chars first part t u in
    subst (λ z. Writes env (words.part_by first part n.span t) (token_of (part_kind first part) z ∷ [])) same
    (writes_part env first part n.span t (part_spelled first part (part_text first part t) (text_utf8 first part t u) (ap (has_shape (part_kind first part)) same ∙ h) (text_some first part t)) (part_spelling first part (part_text first part t)) a)

-- ---- without a tag

-- a text that stands for these units
record Cooked (config : Config) (us t : List ℕ) : Type 0 where
  pub utf8 : IsUtf8 t
  pub value : cooked_value (chars t) ≡ Some us
  pub ascii : config.ascii_only ≡ true → is_ascii_text t ≡ true

respelled : (config : Config) (us raw : List ℕ) → IsUtf8 raw → cooked_value (chars raw) ≡ Some us → Cooked config us (encode_utf8_all (template_text config.ascii_only (chars raw)))
respelled config us raw u h =
    let s = scalars-chars raw u in
    let whole = text_scalars config.ascii_only (chars raw) s in
    record {
      utf8 = (template_text config.ascii_only (chars raw), (whole, refl));
      value = ap cooked_value (chars-encodes (template_text config.ascii_only (chars raw)) whole) ∙ text_value config.ascii_only (chars raw) us s h;
      ascii = λ e. sym (ascii_is true _ (text_ascii (chars raw) _ s (ap (λ b. encode_utf8_all (template_text b (chars raw))) e)));
    }

or_right_none : (b c : Bool) → (b || c) ≡ false → c ≡ false
or_right_none b c h = (or_parts b c h).1

ascii_raw : (a b : Bool) → a ≡ true → (a && not b) ≡ false → b ≡ true
ascii_raw true true e h = refl
ascii_raw true false e h = absurd (true≢false h)
ascii_raw false b e h = absurd (true≢false (sym e))

fed : (config : Config) (us raw : List ℕ) → IsUtf8 raw → is_respelled config raw ≡ false → cooked_value (chars raw) ≡ Some us → Cooked config us (encode_utf8_all (with_line_feeds (chars raw)))
unfolding is_respelled
fed config us raw u n h =
    let whole = feeds_scalars (chars raw) (scalars-chars raw u) in
    let text : List ℕ = encode_utf8_all (with_line_feeds (chars raw)) in
    let utf8 : IsUtf8 text = (with_line_feeds (chars raw), (whole, refl)) in
    let same : chars text ≡ with_line_feeds (chars raw) = chars-encodes (with_line_feeds (chars raw)) whole in
    record {
      utf8 = utf8;
      value = ap cooked_value same ∙ feeds_value (chars raw) ∙ h;
      ascii = λ e.
          let low : is_ascii_text raw ≡ true = ascii_raw config.ascii_only (is_ascii_text raw) e (or_right_none config.minify (config.ascii_only && not (is_ascii_text raw)) n) in
          ascii_by_chars text utf8 (ap is_ascii_text same ∙ feeds_ascii (chars raw) (ascii_chars raw (ascii_from_all raw low)).1);
    }

cooked_is : (b : Bool) (config : Config) (us raw : List ℕ) → is_respelled config raw ≡ b → IsUtf8 raw → cooked_value (chars raw) ≡ Some us → Cooked config us (encode_utf8_all (cond b (template_text config.ascii_only (chars raw)) (with_line_feeds (chars raw))))
cooked_is true config us raw e u h = respelled config us raw u h
cooked_is false config us raw e u h = fed config us raw u e h

cooked : (config : Config) (us raw : List ℕ) → IsUtf8 raw → cooked_value (chars raw) ≡ Some us → Cooked config us (cooked_text config raw)
unfolding cooked_chars
cooked config us raw u h = cooked_is (is_respelled config raw) config us raw refl u h

-- ---- the units of a part

part_value_is : (first : Bool) (part : TemplatePart) (cs : List ℕ) → part.tagged ≡ false → value_of (part_kind first part) (part_text first part cs) ≡ Units (cooked_value cs)
unfolding value_of part_value part_kind part_text part_begin part_units
part_value_is true part cs e = ap (λ b. cond b (Characters (96 ∷ (cs ++ part_end part))) (Units (cooked_value (before_end part (cs ++ part_end part))))) e ∙ ap (λ z. Units (cooked_value z)) (text_before part cs)
part_value_is false part cs e = ap (λ b. cond b (Characters (125 ∷ (cs ++ part_end part))) (Units (cooked_value (before_end part (cs ++ part_end part))))) e ∙ ap (λ z. Units (cooked_value z)) (text_before part cs)

goes_cooked : (part : TemplatePart) (cs : List ℕ) → part.tagged ≡ false → goes_on_as part (cs ++ part_end part) ≡ true → is_some (cooked_value cs) ≡ true
unfolding goes_on_as
goes_cooked part cs e h =
    let both = and_parts (ends_template part.opens false (cs ++ part_end part)) (part.tagged || is_some (cooked_value (before_end part (cs ++ part_end part)))) h in
    ap (λ z. is_some (cooked_value z)) (sym (text_before part cs)) ∙ sym (ap (λ b. b || is_some (cooked_value (before_end part (cs ++ part_end part)))) e) ∙ both.1

shape_cooked : (first : Bool) (part : TemplatePart) (cs : List ℕ) → part.tagged ≡ false → has_shape (part_kind first part) (part_text first part cs) ≡ true → is_some (cooked_value cs) ≡ true
unfolding has_shape part_kind part_text part_begin is_template is_template_rest
shape_cooked true part cs e h = goes_cooked part cs e (and_parts (96 == 96) (goes_on_as part (cs ++ part_end part)) h).1
shape_cooked false part cs e h = goes_cooked part cs e (and_parts (125 == 125) (goes_on_as part (cs ++ part_end part)) h).1

inside_shape : (first : Bool) (part : TemplatePart) (cs : List ℕ) → IsInsidePart cs → has_shape (part_kind first part) (part_text first part cs) ≡ true
unfolding has_shape part_kind part_text part_begin
inside_shape true part cs h = (h part).0
inside_shape false part cs h = (h part).1

some_units : (o : Option (List ℕ)) → is_some o ≡ true → (us : List ℕ) × (o ≡ Some us)
some_units None h = absurd (true≢false (sym h))
some_units (Some us) h = (us, refl)

same_token : (first : Bool) (part : TemplatePart) (xs ys : List ℕ) → part.tagged ≡ false → cooked_value xs ≡ cooked_value ys → token_of (part_kind first part) (part_text first part xs) ≡ token_of (part_kind first part) (part_text first part ys)
unfolding token_of
same_token first part xs ys e h =
    let token : Value → lexical.Token = λ v. record { kind = part_kind first part; value = v } in
    ap token (part_value_is first part xs e ∙ ap Units h ∙ sym (part_value_is first part ys e))

anew_kind : (first : Bool) (part : TemplatePart) → part.tagged ≡ false → is_spelled_anew (part_kind first part) ≡ true
unfolding part_kind is_spelled_anew
anew_kind true part e = ap not e
anew_kind false part e = ap not e

writes_cooked : (env : Env) (first : Bool) (part : TemplatePart) (n : TplElement) → part.tagged ≡ false → has_shape (part_kind first part) (part_text first part (characters n.raw)) ≡ true → Writes env (words.part_by first part n.span (cooked_text env.config (string_bytes n.raw))) (token_of (part_kind first part) (part_text first part (characters n.raw)) ∷ [])
writes_cooked env first part n e h =
    let us = some_units (cooked_value (characters n.raw)) (shape_cooked first part (characters n.raw) e h) in
    let t : List ℕ = cooked_text env.config (string_bytes n.raw) in
    let c = cooked env.config us.0 (string_bytes n.raw) (IsUtf8-string_bytes n.raw) us.1 in
    subst (λ z. Writes env (words.part_by first part n.span t) (z ∷ [])) (same_token first part (chars t) (characters n.raw) e (c.value ∙ sym us.1))
    (writes_by env first part n t c.utf8 (inside_shape first part (chars t) (value_inside (chars t) us.0 c.value)) (λ a y. c.ascii a))

cooked_prints : (env : Env) (first : Bool) (part : TemplatePart) (n : TplElement) → part.tagged ≡ false → Prints env (words.cooked_part first part n) (phrases.tpl_element first part n)
unfolding words.cooked_part phrases.tpl_element part_phrase token_of
cooked_prints env first part n e =
    prints_where (has_shape (part_kind first part) (part_text first part (characters n.raw))) (λ h.
    let due : Bool = makes_cooked env.config (string_bytes n.raw) in
    let by : Part = words.part_by first part n.span (cooked_text env.config (string_bytes n.raw)) in
    let m = makes_remade due (writes_cooked env first part n e h) in
    prints_same (words.cooked_part first part n) (λ rest. step (Remake due) (by rest)) (λ maps rest. refl)
    (prints_anew (token_of (part_kind first part) (part_text first part (characters n.raw))) (anew_kind first part e) m (no_string m (no_str first part))))

tagged_prints : (env : Env) (first : Bool) (part : TemplatePart) (n : TplElement) → part.tagged ≡ true → Prints env (words.part_by first part n.span (string_bytes n.raw)) (phrases.tpl_element first part n)
unfolding phrases.tpl_element part_phrase token_of
tagged_prints env first part n e =
    prints_where (has_shape (part_kind first part) (part_text first part (characters n.raw))) (λ h.
    prints_one env (words.part_by first part n.span (string_bytes n.raw)) (token_of (part_kind first part) (part_text first part (characters n.raw)))
    (writes_by env first part n (string_bytes n.raw) (IsUtf8-string_bytes n.raw) h (λ a y. absurd (true≢false (sym e ∙ y)))) (no_str first part))

by_tag : (b : Bool) (env : Env) (first : Bool) (part : TemplatePart) (n : TplElement) → part.tagged ≡ b → Prints env (λ rest. cond b (words.part_by first part n.span (string_bytes n.raw) rest) (words.cooked_part first part n rest)) (phrases.tpl_element first part n)
by_tag true env first part n e = tagged_prints env first part n e
by_tag false env first part n e = cooked_prints env first part n e

-- with a tag or without
pub tpl_element_prints : (env : Env) (first : Bool) (part : TemplatePart) (n : TplElement) → Prints env (words.tpl_element first part n) (phrases.tpl_element first part n)
unfolding words.tpl_element
tpl_element_prints env first part n = by_tag part.tagged env first part n refl
