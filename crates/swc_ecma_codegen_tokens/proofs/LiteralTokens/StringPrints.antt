-- What is written of a string is what it reads as, under any settings.
use Rattle.std.proofs.Common.{◌≡◌, ℕ, Bool, true, false, not, cond, if◌then◌else◌, ◌==◌, ◌||◌, List, [], ◌∷◌, ◌++◌, codes, Option, Some, None, inl, inr, refl, sym, ap, ◌∙◌, subst, string_bytes}
use Rattle.std.specs.Prelude.{bytes_eq}
use Rattle.std.specs.Option.{is_some}
use Rattle.std.specs.Str.{chars, encode_utf8_all, IsAscii, IsUtf8}
use Rattle.std.specs.declared.string.String.{String}
use Rattle.std.proofs.lemmas.Bool.{and_from, and_parts, or_cases, or_left, or_right, true≢false}
use Rattle.std.proofs.lemmas.Slice.Eq.{bytes_eq-Decides}
use Rattle.std.proofs.lemmas.Str.{scalars-chars, IsUtf8-string_bytes}
use lib.Utf8.{scalars}
use Rattle.swc_ecma_codegen_common.specs.declared.positions.BytePos.{BytePos}
use Rattle.swc_ecma_codegen_common.specs.declared.positions.Span.{Span}
use Rattle.swc_ecma_codegen_common.specs.declared.versions.EsVersion.{EsVersion}
use Rattle.swc_ecma_codegen_tree.specs.declared.lits.Str as strs
use Rattle.swc_ecma_codegen_settings.specs.declared.config.Config.{Config}
use Rattle.swc_ecma_codegen_grammar.specs.declared.kinds.Kind.TheVariants.{Str}
use Rattle.swc_ecma_codegen_grammar.specs.CodeUnits.{units, units_after, utf16}
use Rattle.swc_ecma_codegen_grammar.specs.LitPhrases as phrases
use Rattle.swc_ecma_codegen_grammar.specs.LitPhrases.{are_units, characters, raw_passes, spells_units, string_token}
use Rattle.swc_ecma_codegen_grammar.specs.Strings.{is_string}
use Rattle.swc_ecma_codegen_grammar.specs.StringValues.{string_value}
use Rattle.swc_ecma_codegen_grammar.specs.Texts.{is_same}
use Rattle.swc_ecma_codegen_grammar.specs.Tokens as lexical
use Rattle.swc_ecma_codegen_grammar.specs.Tokens.{Units, token_of, value_of}
use Rattle.swc_ecma_codegen_grammar.proofs.Tables.{eq_of_same}
use Rattle.swc_ecma_codegen_text_writer.specs.Sheet.{Position}
use Rattle.swc_ecma_codegen_literals.specs.AsciiNames.{is_ascii_text}
use Rattle.swc_ecma_codegen_literals.specs.InlineScripts.{inline_text, IsInlineSafe}
use Rattle.swc_ecma_codegen_literals.specs.StringTexts.{quoted_text}
use Rattle.swc_ecma_codegen_literals.specs.ValidNames.{has_byte}
use Rattle.swc_ecma_codegen_literals.proofs.InlineMarks.{at_once}
use Rattle.swc_ecma_codegen_literals.proofs.InlineQuoted.{inline_ascii, inline_safe, inline_value}
use Rattle.swc_ecma_codegen_literals.proofs.InlineTexts.{marked_scalars}
use Rattle.swc_ecma_codegen_literals.proofs.QuotedTexts.{literal_ascii, literal_chars, quoted_scalars, quoted_value}
use Rattle.swc_ecma_codegen_literals.proofs.StringTokens.{strict_same}
use Rattle.swc_ecma_codegen_tokens.specs.Ascii.{is_strict, is_kept_directive}
use Rattle.swc_ecma_codegen_tokens.specs.Escapes.{is_spelled_anew}
use Rattle.swc_ecma_codegen_tokens.specs.Lits.{begun_in, raw_is, raw_text, is_directive, takes_raw, prints_raw, value_text, string_text, directive_end, string_by, string_at, str_lit}
use Rattle.swc_ecma_codegen_tokens.specs.Literals as words
use Rattle.swc_ecma_codegen_tokens.specs.Run.{Guard, Part, Step, Steps, at_maps, after_step, Env, Plain, Plan, Remake, nothing, spelling, step, steps_of, text_of}
use Rattle.swc_ecma_codegen_tokens.specs.Scripts.{is_str, is_string_call, string_by_value, strings_after, value_strings, AreSafe}
use Rattle.swc_ecma_codegen_tokens.specs.Words.{take_comments, comments, start_of, commit_pending_semi, end_of, leading_comments, position}
use Rattle.swc_ecma_codegen_grammar.specs.Comments.{Leading, comments_at, taken_out}
use Rattle.swc_ecma_codegen_grammar.specs.CommentMaps.{Maps}
use Rattle.swc_ecma_codegen_grammar.specs.Trivia.{Remark}
use Rattle.swc_ecma_codegen_grammar.specs.declared.comments.Comment.{Comment}
use Rattle.swc_ecma_codegen_tokens.proofs.LiteralTokens.ValueStrings.{anew_after, strings_append, none_by_value}
use Rattle.swc_ecma_codegen_tokens.proofs.LiteralTokens.LitTexts.{spelled_string}
use Rattle.swc_ecma_codegen_tokens.proofs.LiteralTokens.LiteralParts.{writes_settled_begun, writes_string}
use Rattle.swc_ecma_codegen_tokens.proofs.Emission.PartSteps.{IsSafe}
use Rattle.swc_ecma_codegen_tokens.proofs.Reading.Phrased.{Prints, prints_same, prints_where}
use Rattle.swc_ecma_codegen_tokens.proofs.Reading.Printed.{chain, Writes, writes_if, writes_nothing, writes_position, writes_then, Fills}
use Rattle.swc_ecma_codegen_tokens.proofs.Commenting.CommentPrints.{Says, says_comments}
use Rattle.swc_ecma_codegen_tokens.proofs.LiteralTokens.RawTexts.{ascii_is}
use Rattle.swc_ecma_codegen_tokens.proofs.Emission.Remade.{makes_remade, prints_anew, writes_begun_in}

-- A text is one string of these units. Where the settings ask for ASCII it is, save a directive that stands as it is.
record IsStringOf (ascii_only : Bool) (us t : List ℕ) : Type 0 where
  pub utf8 : IsUtf8 t
  pub value : string_value true (chars t) ≡ Some us
  pub ascii : ascii_only ≡ true → (is_ascii_text t || is_kept_directive t) ≡ true

ascii_or_kept : (t : List ℕ) → IsAscii t → (is_ascii_text t || is_kept_directive t) ≡ true
ascii_or_kept t h = or_left (is_ascii_text t) (is_kept_directive t) (sym (ascii_is true t h))

-- ---- a string by its value

inline_string : (a : Bool) (v : EsVersion) (text : List ℕ) → scalars text ≡ true → IsStringOf a (units text) (encode_utf8_all (inline_text (quoted_text a v text)))
inline_string a v text s = record {
  utf8 = (inline_text (quoted_text a v text), (ap scalars (at_once (quoted_text a v text)) ∙ marked_scalars 0 (quoted_text a v text) (quoted_scalars a v text s), refl));
  value = strict_same _ (units text) (inline_value a v text (encode_utf8_all (inline_text (quoted_text a v text))) s refl);
  ascii = λ e. ascii_or_kept _ (inline_ascii v text _ s (ap (λ z. encode_utf8_all (inline_text (quoted_text z v text))) e));
}

quoted_string : (a : Bool) (v : EsVersion) (text : List ℕ) → scalars text ≡ true → IsStringOf a (units text) (encode_utf8_all (quoted_text a v text))
quoted_string a v text s = record {
  utf8 = (quoted_text a v text, (quoted_scalars a v text s, refl));
  value = strict_same _ (units text) (ap (string_value false) (literal_chars a v text (encode_utf8_all (quoted_text a v text)) s refl) ∙ quoted_value a v text s);
  ascii = λ e. ascii_or_kept _ (literal_ascii a v text _ e s refl);
}

value_string : (inline a : Bool) (v : EsVersion) (text : List ℕ) → scalars text ≡ true → IsStringOf a (units text) (encode_utf8_all (cond inline (inline_text (quoted_text a v text)) (quoted_text a v text)))
value_string true a v text s = inline_string a v text s
value_string false a v text s = quoted_string a v text s

-- ---- a string by its raw

units_same : (o : Option (List ℕ)) (us : List ℕ) → are_units o us ≡ true → o ≡ Some us
unfolding are_units
units_same None us h = absurd (true≢false (sym h))
units_same (Some vs) us h = ap Some (eq_of_same vs us h)

-- a text that passes and spells these units is ASCII, or stands as it is
abbrev StandsBy : Bool → (List ℕ → Bool) → List ℕ → Type 0
StandsBy ascii_only test us = (t : List ℕ) → test t ≡ true → string_value true (chars t) ≡ Some us → ascii_only ≡ true → (is_ascii_text t || is_kept_directive t) ≡ true

raw_string : {Z : Type 0} (ascii_only : Bool) (test : List ℕ → Bool) (us : List ℕ) (raw : Option (String Z)) → StandsBy ascii_only test us → raw_is test raw ≡ true → raw_passes (spells_units us) raw ≡ true → IsStringOf ascii_only us (raw_text raw)
unfolding raw_is raw_text raw_passes spells_units
raw_string ascii_only test us None stands given h = absurd (true≢false (sym given))
raw_string ascii_only test us (Some raw) stands given h =
    let value = units_same (string_value true (characters raw)) us h in
    record { utf8 = IsUtf8-string_bytes raw; value = value; ascii = λ e. stands (string_bytes raw) given value e }

-- a directive stands as it is
strict_units : is_strict (Some (units (chars (codes "use strict")))) ≡ true
unfolding is_strict is_same units_after utf16 chars lib.Utf8.encode
strict_units = refl

directive_stands : (ascii_only : Bool) (n : strs.Str) → bytes_eq (string_bytes n.value) (codes "use strict") ≡ true → StandsBy ascii_only (has_byte 92) (units (characters n.value))
unfolding is_kept_directive
directive_stands ascii_only n d t b value e =
    let same : string_bytes n.value ≡ codes "use strict" = (bytes_eq-Decides (string_bytes n.value) (codes "use strict")).0 d in
    or_right (is_ascii_text t) (is_kept_directive t)
    (and_from (has_byte 92 t) (is_strict (string_value true (chars t))) b (ap is_strict value ∙ ap (λ z. is_strict (Some (units (chars z)))) same ∙ strict_units))

taken_stands : (ascii_only : Bool) (us : List ℕ) → StandsBy ascii_only (λ raw. not ascii_only || is_ascii_text raw) us
taken_stands ascii_only us t passes value e = or_left (is_ascii_text t) (is_kept_directive t) (sym (ap (λ b. not b || is_ascii_text t) e) ∙ passes)

-- a raw that is printed is there
printed_raw : (config : Config) (n : strs.Str) → prints_raw config n ≡ true → raw_passes (spells_units (units (characters n.value))) n.raw ≡ true → IsStringOf config.ascii_only (units (characters n.value)) (raw_text n.raw)
unfolding prints_raw is_directive takes_raw
printed_raw config n e h =
    let us : List ℕ = units (characters n.value) in
    let passes : List ℕ → Bool = λ raw. not config.ascii_only || is_ascii_text raw in
    elim (or_cases (is_directive n) (takes_raw config n) e) [
      | inl d ↦ let p = and_parts (bytes_eq (string_bytes n.value) (codes "use strict")) (raw_is (has_byte 92) n.raw) d in raw_string config.ascii_only (has_byte 92) us n.raw (directive_stands config.ascii_only n p.0) p.1 h
      | inr t ↦ raw_string config.ascii_only passes us n.raw (taken_stands config.ascii_only us) (and_parts (not config.minify) (raw_is passes n.raw) t).1 h
    ]

-- ---- what stands between the quotes, whatever the settings

chosen_string : (b : Bool) (config : Config) (n : strs.Str) → prints_raw config n ≡ b → raw_passes (spells_units (units (characters n.value))) n.raw ≡ true → IsStringOf config.ascii_only (units (characters n.value)) (cond b (raw_text n.raw) (value_text config (string_bytes n.value)))
unfolding value_text
chosen_string true config n e h = printed_raw config n e h
chosen_string false config n e h = value_string config.inline_script config.ascii_only config.target (characters n.value) (scalars-chars (string_bytes n.value) (IsUtf8-string_bytes n.value))

written_string : (config : Config) (n : strs.Str) → raw_passes (spells_units (units (characters n.value))) n.raw ≡ true → IsStringOf config.ascii_only (units (characters n.value)) (string_text config n)
unfolding string_text
written_string config n h = chosen_string (prints_raw config n) config n refl h

-- ---- its parts

writes_directive_end : (env : Env) (n : strs.Str) → Fills env (directive_end n)
unfolding directive_end
writes_directive_end env n = writes_if env (is_directive n) (end_of n.span) (λ rest. rest) [] (writes_position env n.span.hi) (writes_nothing env)

units_token : (t us : List ℕ) → string_value true (chars t) ≡ Some us → token_of Str (spelling Str t) ≡ string_token us
unfolding token_of value_of spelling string_token
units_token t us h = let f : Option (List ℕ) → lexical.Token = λ z. record { kind = Str; value = Units z } in ap f h

string_shape : (t us : List ℕ) → string_value true (chars t) ≡ Some us → is_string (chars t) ≡ true
unfolding is_string
string_shape t us h = ap is_some h

writes_string_by : (env : Env) (in_lit : Bool) (n : strs.Str) (us t : List ℕ) → IsStringOf env.config.ascii_only us t → Writes env (string_by in_lit n t) (string_token us ∷ [])
unfolding string_by
writes_string_by env in_lit n us t h =
    let own : Writes env (words.string t) (string_token us ∷ []) = subst (λ z. Writes env (words.string t) (z ∷ [])) (units_token t us h.value) (writes_string env t (spelled_string t h.utf8 (string_shape t us h.value)) h.ascii) in
    writes_then env (begun_in in_lit n.span t) _ [] (string_token us ∷ []) (writes_begun_in env in_lit n.span t)
    (writes_then env (words.settled_begun n.span t) _ [] (string_token us ∷ []) (writes_settled_begun env n.span t)
    (writes_then env (words.string t) (directive_end n) (string_token us ∷ []) [] own (writes_directive_end env n)))

-- ---- its value

-- no string is among the steps of a position, or of the beginning of a literal
position_strings : (anew : Bool) (pos : BytePos) (rest : Plan) (env : Env) → strings_after anew (steps_of (position pos rest env)) ≡ strings_after anew (steps_of (rest env))
unfolding position step steps_of strings_after after_step
position_strings anew pos rest env =
    elim (pos.0 == 0) as (λ b. strings_after anew (steps_of ((cond b rest (step (Plain (Position pos)) rest)) env)) ≡ strings_after anew (steps_of (rest env)))
    [ true ↦ refl | false ↦ refl ]

-- nor among those of comments; what comes after them has other comments to be taken
steps_after : (xs : List Step) (rest : Steps) → steps_of (chain xs rest) ≡ xs ++ steps_of rest
unfolding steps_of chain
steps_after [] rest = refl
steps_after (x ∷ xs) rest = ap (λ z. x ∷ z) (steps_after xs rest)

said_strings : (anew : Bool) (p : Part) (rs : List Remark) (ts : List (List ℕ)) (rest : Plan) (env : Env) → Says env p rs ts → strings_after anew (steps_of (p rest env)) ≡ strings_after anew (steps_of (rest env))
said_strings anew p rs ts rest env h =
    let more : List Step = steps_of (rest env) in
    ap (λ z. strings_after anew (steps_of z)) (h.is_steps rest) ∙ ap (strings_after anew) (steps_after h.steps (rest env)) ∙ strings_append anew h.steps more
    ∙ ap (λ z. z ++ strings_after (anew_after anew h.steps) more) (none_by_value anew h.steps h.strings) ∙ ap (λ b. strings_after b more) (h.anew anew)

taken_strings : (anew : Bool) (at : ℕ) (rest : Plan) (env : Env) (x : List (List ℕ)) → ((maps : Maps) → strings_after anew (steps_of (rest (at_maps maps env))) ≡ x) → strings_after anew (steps_of (take_comments Leading false at rest env)) ≡ x
unfolding take_comments step steps_of strings_after after_step
taken_strings anew at rest env x h =
    let cs : List Comment = comments_at Leading at env.maps in
    let there : Env = at_maps (taken_out Leading at env.maps) env in
    said_strings anew (comments false cs) _ _ rest there (says_comments there false cs) ∙ h (taken_out Leading at env.maps)

leading_strings : (anew : Bool) (pos : BytePos) (rest : Plan) (env : Env) (x : List (List ℕ)) → ((maps : Maps) → strings_after anew (steps_of (rest (at_maps maps env))) ≡ x) → strings_after anew (steps_of (leading_comments pos rest env)) ≡ x
unfolding leading_comments
leading_strings anew pos rest env x h =
    elim (pos.0 == 0) as (λ b. strings_after anew (steps_of ((cond b rest (take_comments Leading false pos.0 rest)) env)) ≡ x)
    [ true ↦ h env.maps | false ↦ taken_strings anew pos.0 rest env x h ]

begun_strings : (anew : Bool) (span : Span) (t : List ℕ) (rest : Plan) (env : Env) (x : List (List ℕ)) → ((maps : Maps) → strings_after anew (steps_of (rest (at_maps maps env))) ≡ x) → strings_after anew (steps_of (words.begun span t rest env)) ≡ x
unfolding words.begun step steps_of strings_after after_step
begun_strings anew span t rest env x h = leading_strings anew span.lo (step (Guard t) (start_of span rest)) env x (λ maps. position_strings anew span.lo rest (at_maps maps env) ∙ h maps)

settled_strings : (anew : Bool) (span : Span) (t : List ℕ) (rest : Plan) (env : Env) (x : List (List ℕ)) → ((maps : Maps) → strings_after anew (steps_of (rest (at_maps maps env))) ≡ x) → strings_after anew (steps_of (words.settled_begun span t rest env)) ≡ x
unfolding words.settled_begun commit_pending_semi step steps_of strings_after after_step
settled_strings anew span t rest env x h = begun_strings anew span t rest env x h

begun_in_strings : (anew in_lit : Bool) (span : Span) (t : List ℕ) (rest : Plan) (env : Env) (x : List (List ℕ)) → ((maps : Maps) → strings_after anew (steps_of (rest (at_maps maps env))) ≡ x) → strings_after anew (steps_of (begun_in in_lit span t rest env)) ≡ x
unfolding begun_in
begun_in_strings anew true span t rest env x h = begun_strings anew span t rest env x h
begun_in_strings anew false span t rest env x h = h env.maps

ends_by : (anew b : Bool) (pos : BytePos) (env : Env) → strings_after anew (steps_of ((cond b (position pos nothing) nothing) env)) ≡ []
unfolding nothing steps_of strings_after
ends_by anew true pos env = position_strings anew pos nothing env
ends_by anew false pos env = refl

own_string : (anew : Bool) (n : strs.Str) (t : List ℕ) (env : Env) → strings_after anew (steps_of (words.string t (directive_end n nothing) env)) ≡ cond anew (t ∷ []) []
unfolding words.string directive_end step steps_of strings_after string_by_value is_string_call is_str text_of after_step
own_string true n t env = ap (λ z. t ∷ z) (ends_by true (is_directive n) n.span.hi env)
own_string false n t env = ends_by false (is_directive n) n.span.hi env

-- a string by a text, which is one by its value where texts are made anew
string_strings : (anew in_lit : Bool) (n : strs.Str) (t : List ℕ) (env : Env) → strings_after anew (steps_of (string_by in_lit n t nothing env)) ≡ cond anew (t ∷ []) []
unfolding string_by
string_strings anew in_lit n t env =
    let x : List (List ℕ) = cond anew (t ∷ []) [] in
    begun_in_strings anew in_lit n.span t (words.settled_begun n.span t (words.string t (directive_end n nothing))) env x (λ m. settled_strings anew n.span t (words.string t (directive_end n nothing)) (at_maps m env) x (λ o. own_string anew n t (at_maps o env)))

told_strings : (by_raw : Bool) (config : Config) (n : strs.Str) → cond (not by_raw) (cond by_raw (raw_text n.raw) (value_text config (string_bytes n.value)) ∷ []) [] ≡ cond by_raw [] (value_text config (string_bytes n.value) ∷ [])
told_strings true config n = refl
told_strings false config n = refl

-- exactly where its raw isn't printed
pub value_strings_told : (env : Env) (in_lit : Bool) (n : strs.Str) → value_strings (steps_of (string_at in_lit n nothing env)) ≡ (if prints_raw env.config n then [] else value_text env.config (string_bytes n.value) ∷ [])
unfolding string_at string_text step steps_of strings_after after_step
value_strings_told env in_lit n = string_strings (not (prints_raw env.config n)) in_lit n (string_text env.config n) env ∙ told_strings (prints_raw env.config n) env.config n

value_safe : (config : Config) (n : strs.Str) → config.inline_script ≡ true → IsInlineSafe (chars (value_text config (string_bytes n.value)))
unfolding value_text
value_safe config n e =
    let quoted : List ℕ = quoted_text config.ascii_only config.target (characters n.value) in
    inline_safe config.ascii_only config.target (characters n.value) _ (scalars-chars (string_bytes n.value) (IsUtf8-string_bytes n.value)) (ap (λ b. encode_utf8_all (cond b (inline_text quoted) quoted)) e)

chosen_safe : (by_raw : Bool) (config : Config) (n : strs.Str) → config.inline_script ≡ true → AreSafe (cond (not by_raw) (cond by_raw (raw_text n.raw) (value_text config (string_bytes n.value)) ∷ []) [])
unfolding AreSafe
chosen_safe true config n e = tt
chosen_safe false config n e = (value_safe config n e, tt)

string_safe : (env : Env) (in_lit : Bool) (n : strs.Str) → IsSafe env (λ rest. step (Remake (not (prints_raw env.config n))) (string_by in_lit n (string_text env.config n) rest))
unfolding IsSafe string_text step steps_of strings_after after_step
string_safe env in_lit n e anew =
    subst AreSafe (sym (string_strings (not (prints_raw env.config n)) in_lit n (string_text env.config n) env)) (chosen_safe (prints_raw env.config n) env.config n e)

pub prints_string_at : (env : Env) (in_lit : Bool) (n : strs.Str) → Prints env (string_at in_lit n) (phrases.str_lit n)
unfolding string_at phrases.str_lit string_token is_spelled_anew
prints_string_at env in_lit n =
    let us : List ℕ = units (characters n.value) in
    prints_where (raw_passes (spells_units us) n.raw) (λ w.
    prints_same (string_at in_lit n) (λ rest. step (Remake (not (prints_raw env.config n))) (string_by in_lit n (string_text env.config n) rest)) (λ maps rest. refl)
    (prints_anew (string_token us) refl (makes_remade (not (prints_raw env.config n)) (writes_string_by env in_lit n us (string_text env.config n) (written_string env.config n w))) (λ maps. string_safe (at_maps maps env) in_lit n)))

-- a string literal
pub prints_str : (env : Env) (n : strs.Str) → Prints env (str_lit n) (phrases.str_lit n)
prints_str env n = prints_string_at env false n
