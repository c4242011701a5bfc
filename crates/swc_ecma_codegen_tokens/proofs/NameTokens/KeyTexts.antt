-- The texts of keys: names, or strings of the same characters.
use Rattle.std.proofs.Common.{◌≡◌, ◌≢◌, ℕ, ◌+◌, ◌-◌, ◌/◌, ◌%◌, Bool, true, false, not, ◌&&◌, ◌||◌, ◌==◌, nat_lt, nat_le, cond, List, [], ◌∷◌, ◌++◌, codes, arith, Some, refl, sym, ap, ◌∙◌, subst, inl, inr}
use Rattle.std.specs.List.{list_any}
use Rattle.std.specs.Str.{chars, is_utf8, IsUtf8}
use Rattle.std.proofs.lemmas.Bool.{and_parts, cases_Bool, or_from, or_parts, ne_eqb, false_from_ne_true, not-true, false≢true, true≢false}
use Rattle.std.proofs.lemmas.Str.{IsUtf8-from_is_utf8, is_utf8-from_IsUtf8, IsUtf8-from_ascii, scalars-chars}
use Rattle.swc_ecma_codegen_common.specs.declared.versions.EsVersion.{EsVersion}
use Rattle.swc_ecma_codegen_common.specs.declared.versions.EsVersion.TheVariants.{Es3, Es5}
use Rattle.swc_ecma_codegen_grammar.specs.declared.kinds.Kind.{Kind}
use Rattle.swc_ecma_codegen_grammar.specs.declared.kinds.Kind.TheVariants.{Name, Str}
use Rattle.swc_ecma_codegen_grammar.specs.Chars.{is_start, is_part, is_letter, is_digit}
use Rattle.swc_ecma_codegen_grammar.specs.CodeUnits.{utf16, all_utf16}
use Rattle.swc_ecma_codegen_grammar.specs.Keys as grammar
use Rattle.swc_ecma_codegen_grammar.specs.Keys.{is_quoted, key_token}
use Rattle.swc_ecma_codegen_grammar.specs.Names.{all_part, is_word, is_name, name_value}
use Rattle.swc_ecma_codegen_grammar.specs.Settings.{Settings, is_up_to_es5}
use Rattle.swc_ecma_codegen_grammar.specs.SpelledNames as names
use Rattle.swc_ecma_codegen_grammar.specs.SpelledNames.{is_well_formed_name}
use Rattle.swc_ecma_codegen_grammar.specs.StringValues.{string_value}
use Rattle.swc_ecma_codegen_grammar.specs.Texts.{is_same}
use Rattle.swc_ecma_codegen_grammar.specs.Tokens as lexical
use Rattle.swc_ecma_codegen_grammar.specs.Tokens.{Units, token_of, value_of}
use Rattle.swc_ecma_codegen_grammar.specs.ValidNames.{turned}
use Rattle.swc_ecma_codegen_grammar.proofs.StrictStrings.{strict_means_the_same}
use Rattle.swc_ecma_codegen_grammar.proofs.Tables.{eq_of_same}
use Rattle.swc_ecma_codegen_settings.specs.declared.config.Config.{Config}
use Rattle.swc_ecma_codegen_literals.specs.AsciiNames.{is_ascii_text, is_quoted_key, is_out_of_target, name_escapes, ascii_name, wants_quotes}
use Rattle.swc_ecma_codegen_literals.specs.StringTexts.{up_to_es5}
use Rattle.swc_ecma_codegen_literals.proofs.NameBridge.{named_word}
use Rattle.swc_ecma_codegen_literals.proofs.NameTexts.{Answer, ascii_chars, not_ascii_chars, quoted_text, escaped_text, quoted_answer, escaped_answer}
use Rattle.swc_ecma_codegen_literals.proofs.SpelledTexts.{ascii_from_all}
use Rattle.swc_ecma_codegen_tokens.specs.Ascii.{is_strict, is_tag_kind, is_other_value, keeps_tokens}
use Rattle.swc_ecma_codegen_tokens.specs.Run.{spelling}
use Rattle.swc_ecma_codegen_tokens.specs.Settings.{settings_of}
use Rattle.swc_ecma_codegen_tokens.specs.Targets.{wants_escapes}
use Rattle.swc_ecma_codegen_tokens.proofs.LiteralTokens.LitTexts.{spelled_string}
use Rattle.swc_ecma_codegen_tokens.proofs.LiteralTokens.RawTexts.{ascii_is}
use Rattle.swc_ecma_codegen_tokens.proofs.NameTokens.Targets.{not_ascii, kept_ascii}
use Rattle.swc_ecma_codegen_tokens.proofs.Reading.TokenLays.{Spelled, spelled_name}

-- ---- a key in quotes is no directive: no blank is in it

abbrev has_blank : List ℕ → Bool
has_blank us = list_any (λ c. c == 32) us

blank_append : (us vs : List ℕ) → has_blank us ≡ false → has_blank vs ≡ false → has_blank (us ++ vs) ≡ false
blank_append [] vs h k = k
blank_append (u ∷ us) vs h k =
    let p = or_parts (u == 32) (has_blank us) h in
    or_from (u == 32) (has_blank (us ++ vs)) p.0 (blank_append us vs p.1 k)

units_unblank : (c : ℕ) → (c == 32) ≡ false → has_blank (utf16 c) ≡ false
unfolding utf16
units_unblank c h = cases (nat_lt c 65536)
  where
    cases : (b : Bool) → has_blank (cond b (c ∷ []) ((55296 + (c - 65536) / 1024) ∷ (56320 + (c - 65536) % 1024) ∷ [])) ≡ false
    cases true = or_from (c == 32) false h refl
    cases false =
        let high : (55296 + (c - 65536) / 1024) ≢ 32 = λ e. omega (arith, e) in
        let low : (56320 + (c - 65536) % 1024) ≢ 32 = λ e. omega (arith, e) in
        or_from _ _ (ne_eqb _ 32 high) (or_from _ false (ne_eqb _ 32 low) refl)

not_blank : (p : ℕ → Bool) (c : ℕ) → p c ≡ true → p 32 ≡ false → (c == 32) ≡ false
not_blank p c h n = ne_eqb c 32 (λ e. false≢true (sym n ∙ (ap p (sym e) ∙ h)))

parts_unblank : (cs : List ℕ) → all_part cs ≡ true → has_blank (all_utf16 cs) ≡ false
unfolding all_part all_utf16 is_part is_letter is_digit
parts_unblank [] h = refl
parts_unblank (c ∷ cs) h =
    let p = and_parts (is_part c) (all_part cs) h in
    blank_append (utf16 c) (all_utf16 cs) (units_unblank c (not_blank is_part c p.0 refl)) (parts_unblank cs p.1)

word_unblank : (cs : List ℕ) → is_word cs ≡ true → has_blank (all_utf16 cs) ≡ false
unfolding is_word all_utf16 is_start is_letter
word_unblank [] h = absurd (false≢true h)
word_unblank (c ∷ cs) h =
    let p = and_parts (is_start c) (all_part cs) h in
    blank_append (utf16 c) (all_utf16 cs) (units_unblank c (not_blank is_start c p.0 refl)) (parts_unblank cs p.1)

directive_blank : has_blank (codes "use strict") ≡ true
directive_blank = refl

word_not_strict : (cs : List ℕ) → is_word cs ≡ true → is_strict (Some (all_utf16 cs)) ≡ false
unfolding is_strict
word_not_strict cs h = false_from_ne_true (is_same (all_utf16 cs) (codes "use strict")) (λ s. true≢false (sym directive_blank ∙ ap has_blank (sym (eq_of_same (all_utf16 cs) (codes "use strict") s)) ∙ word_unblank cs h))

-- so its token isn't one that stands as it is in the tree
pub key_kept : (s : Settings) (bytes : List ℕ) → is_well_formed_name bytes ≡ true → keeps_tokens (key_token s bytes ∷ []) ≡ false
unfolding is_well_formed_name names.spelled_name key_token keeps_tokens is_other_value lexical.name
key_kept s bytes w =
    let t : List ℕ = turned bytes in
    let p = and_parts (is_utf8 t) (is_name (chars t)) w in
    let word : is_word (name_value (chars t)) ≡ true = (named_word (chars t) (scalars-chars t (IsUtf8-from_is_utf8 t p.0)) p.1).1 in
    let quoted : lexical.Token = record { kind = Str; value = Units (Some (all_utf16 (name_value (chars t)))) } in
    elim (is_quoted s (chars t)) as (λ b. keeps_tokens (cond b quoted (lexical.name (name_value (chars t))) ∷ []) ≡ false)
    [ true ↦ or_from (is_strict (Some (all_utf16 (name_value (chars t))))) false (word_not_strict (name_value (chars t)) word) refl | false ↦ refl ]

-- ---- which keys are put in quotes

same_versions : (v : EsVersion) → is_up_to_es5 v ≡ up_to_es5 v
unfolding is_up_to_es5 up_to_es5
same_versions Es3 = refl
same_versions Es5 = refl
same_versions v = refl

same_quotes : (v : EsVersion) (c : ℕ) → grammar.wants_quotes v c ≡ wants_quotes v c
unfolding grammar.wants_quotes wants_quotes
same_quotes v c = ap (λ b. (nat_le 127 c && nat_lt c 256) || (nat_le 65536 c && b)) (same_versions v)

any_same : (p q : ℕ → Bool) → ((c : ℕ) → p c ≡ q c) → (cs : List ℕ) → list_any p cs ≡ list_any q cs
any_same p q h [] = refl
any_same p q h (c ∷ cs) = ap (λ b. b || list_any p cs) (h c) ∙ ap (λ b. q c || b) (any_same p q h cs)

-- some character has a shorter escape in a string, or one there alone
abbrev asks : Config → List ℕ → Bool
asks config t = list_any (wants_quotes config.target) (chars t)

quoted_by : (config : Config) (t : List ℕ) → IsUtf8 t → wants_escapes config t ≡ true → is_quoted (settings_of config) (chars t) ≡ asks config t
unfolding wants_escapes is_quoted
quoted_by config t u e =
    let p = and_parts config.ascii_only (not (is_ascii_text t)) e in
    let none : is_ascii_text (chars t) ≡ false = not_ascii_chars t u (not_ascii t (not-true (is_ascii_text t) p.1)) in
    ap (λ b. b && (not (is_ascii_text (chars t)) && list_any (grammar.wants_quotes config.target) (chars t))) p.0
    ∙ ap (λ b. not b && list_any (grammar.wants_quotes config.target) (chars t)) none
    ∙ any_same (grammar.wants_quotes config.target) (wants_quotes config.target) (same_quotes config.target) (chars t)

-- none that holds no escape that the settings ask for
unquoted : (config : Config) (t : List ℕ) → wants_escapes config t ≡ false → is_quoted (settings_of config) (chars t) ≡ false
unfolding is_quoted
unquoted config t k = elim (cases_Bool config.ascii_only) [
  | inl e ↦
      let a : is_ascii_text (chars t) ≡ true = (ascii_chars t (ascii_from_all t (kept_ascii config t k e))).1 in
      ap (λ b. b && (not (is_ascii_text (chars t)) && list_any (grammar.wants_quotes config.target) (chars t))) e
      ∙ ap (λ b. not b && list_any (grammar.wants_quotes config.target) (chars t)) a
  | inr n ↦ ap (λ b. b && (not (is_ascii_text (chars t)) && list_any (grammar.wants_quotes config.target) (chars t))) n
]

-- ---- their texts

-- A text is the token of a key, in ASCII where the settings ask for that.
pub record SpellsKey (config : Config) (kind : Kind) (bytes u : List ℕ) : Type 0 where
  pub spelled : Spelled kind u
  pub token : token_of kind (spelling kind u) ≡ key_token (settings_of config) bytes
  pub ascii : config.ascii_only ≡ true → is_ascii_text u ≡ true
  pub own : is_tag_kind kind ≡ false

key_token_quoted : (s : Settings) (bytes : List ℕ) → is_quoted s (chars (turned bytes)) ≡ true → key_token s bytes ≡ record { kind = Str; value = Units (Some (all_utf16 (name_value (chars (turned bytes))))) }
unfolding key_token names.spelled_name
key_token_quoted s bytes h =
    let quoted : lexical.Token = record { kind = Str; value = Units (Some (all_utf16 (name_value (chars (turned bytes))))) } in
    ap (λ b. cond b quoted (lexical.name (name_value (chars (turned bytes))))) h

key_token_bare : (s : Settings) (bytes : List ℕ) → is_quoted s (chars (turned bytes)) ≡ false → key_token s bytes ≡ lexical.name (name_value (chars (turned bytes)))
unfolding key_token names.spelled_name
key_token_bare s bytes h =
    let quoted : lexical.Token = record { kind = Str; value = Units (Some (all_utf16 (name_value (chars (turned bytes))))) } in
    ap (λ b. cond b quoted (lexical.name (name_value (chars (turned bytes))))) h

string_token : (u us : List ℕ) → lexical.value_of Str (chars u) ≡ Units (Some us) → token_of Str (spelling Str u) ≡ record { kind = Str; value = Units (Some us) }
unfolding token_of spelling
string_token u us h = let f : lexical.Value → lexical.Token = λ v. record { kind = Str; value = v } in ap f h

quoted_value : (u us : List ℕ) → string_value false (chars u) ≡ Some us → lexical.value_of Str (chars u) ≡ Units (Some us)
unfolding value_of
quoted_value u us h = ap Units (strict_means_the_same (chars u) us h)

in_quotes : (config : Config) (bytes : List ℕ) → is_utf8 (turned bytes) ≡ true → is_name (chars (turned bytes)) ≡ true → wants_escapes config (turned bytes) ≡ true → asks config (turned bytes) ≡ true → SpellsKey config Str bytes (ascii_name true config.target (chars (turned bytes)))
unfolding is_tag_kind wants_escapes
in_quotes config bytes u n e q =
    let t : List ℕ = turned bytes in
    let utf8 = IsUtf8-from_is_utf8 t u in
    let p = and_parts config.ascii_only (not (is_ascii_text t)) e in
    let none = not_ascii t (not-true (is_ascii_text t) p.1) in
    let text : List ℕ = 34 ∷ (name_escapes true config.target (chars t) ++ 34 ∷ []) in
    let h : Answer true config.target (chars t) text = quoted_answer true config.target t text utf8 none q refl in
    let decided : is_quoted_key true config.target (chars t) ≡ true = (quoted_text config.target (chars t) (not_ascii_chars t utf8 none) q).0 in
    let us : List ℕ = all_utf16 (name_value (chars t)) in
    subst (λ z. SpellsKey config Str bytes z) h.exactly
    (record {
      spelled = spelled_string text (IsUtf8-from_ascii text h.ascii) (h.token decided n);
      token = string_token text us (quoted_value text us (h.key_value decided n)) ∙ sym (key_token_quoted (settings_of config) bytes (quoted_by config t utf8 e ∙ q));
      ascii = λ _. sym (ascii_is true text h.ascii);
      own = refl;
    })

name_token : (u t : List ℕ) → name_value (chars u) ≡ name_value (chars t) → token_of Name (spelling Name u) ≡ lexical.name (name_value (chars t))
unfolding token_of value_of spelling lexical.name
name_token u t h = ap lexical.name h

escaped_key : (config : Config) (bytes : List ℕ) → is_utf8 (turned bytes) ≡ true → is_name (chars (turned bytes)) ≡ true → wants_escapes config (turned bytes) ≡ true → asks config (turned bytes) ≡ false → SpellsKey config Name bytes (ascii_name true config.target (chars (turned bytes)))
unfolding is_tag_kind wants_escapes is_out_of_target
escaped_key config bytes u n e q =
    let t : List ℕ = turned bytes in
    let utf8 = IsUtf8-from_is_utf8 t u in
    let p = and_parts config.ascii_only (not (is_ascii_text t)) e in
    let none = not_ascii t (not-true (is_ascii_text t) p.1) in
    let text : List ℕ = name_escapes true config.target (chars t) in
    let h : Answer true config.target (chars t) text = escaped_answer true config.target t text utf8 none q refl refl in
    let decided : is_quoted_key true config.target (chars t) ≡ false = (escaped_text true config.target (chars t) (not_ascii_chars t utf8 none) q).0 in
    subst (λ z. SpellsKey config Name bytes z) h.exactly
    (record {
      spelled = spelled_name text (is_utf8-from_IsUtf8 text (IsUtf8-from_ascii text h.ascii)) (h.name decided ∙ n);
      token = name_token text t (h.value decided n) ∙ sym (key_token_bare (settings_of config) bytes (quoted_by config t utf8 e ∙ q));
      ascii = λ _. sym (ascii_is true text h.ascii);
      own = refl;
    })

-- in ASCII
pub made_key : (config : Config) (bytes : List ℕ) → is_well_formed_name bytes ≡ true → wants_escapes config (turned bytes) ≡ true → SpellsKey config (cond (list_any (wants_quotes config.target) (chars (turned bytes))) Str Name) bytes (ascii_name true config.target (chars (turned bytes)))
unfolding is_well_formed_name names.spelled_name
made_key config bytes w e =
    let p = and_parts (is_utf8 (turned bytes)) (is_name (chars (turned bytes))) w in
    let P : Bool → Type 0 = λ b. SpellsKey config (cond b Str Name) bytes (ascii_name true config.target (chars (turned bytes))) in
    elim (cases_Bool (asks config (turned bytes))) [
      | inl q ↦ subst P (sym q) (in_quotes config bytes p.0 p.1 e q)
      | inr q ↦ subst P (sym q) (escaped_key config bytes p.0 p.1 e q)
    ]

-- as it is
pub kept_key : (config : Config) (bytes : List ℕ) → is_well_formed_name bytes ≡ true → wants_escapes config (turned bytes) ≡ false → SpellsKey config Name bytes (turned bytes)
unfolding is_tag_kind is_well_formed_name names.spelled_name
kept_key config bytes w k =
    let t : List ℕ = turned bytes in
    let p = and_parts (is_utf8 t) (is_name (chars t)) w in
    record {
      spelled = spelled_name t p.0 p.1;
      token = name_token t t refl ∙ sym (key_token_bare (settings_of config) bytes (unquoted config t k));
      ascii = λ e. kept_ascii config t k e;
      own = refl;
    }
