-- Names in ASCII: which are out of a target, and what is written of the others.
use Rattle.std.proofs.Common.{◌≡◌, ℕ, suc, Bool, true, false, not, ◌&&◌, cond, List, [], ◌∷◌, refl, sym, ap, ◌∙◌, subst, inl, inr}
use Rattle.std.specs.Str.{IsNotAscii, chars, is_utf8}
use Rattle.std.proofs.lemmas.Bool.{cases_lt, cases_Bool, lt-ltb, and_from, and_parts, or_from, or_parts, not-true, false≢true, false_from_ne_true}
use Rattle.std.proofs.lemmas.Str.{IsUtf8-from_is_utf8, is_utf8-from_IsUtf8, IsUtf8-from_ascii}
use Rattle.swc_ecma_codegen_grammar.specs.Names.{is_name, name_value}
use Rattle.swc_ecma_codegen_grammar.specs.Phrases.{Phrase, Never, Nothing, One, NameOf, KeyOf, PrivateOf, TagNameOf, Then, CommaBefore, OptionalParentheses, Chosen}
use Rattle.swc_ecma_codegen_grammar.specs.ValidNames.{turned}
use Rattle.swc_ecma_codegen_settings.specs.declared.config.Config.{Config}
use Rattle.swc_ecma_codegen_literals.specs.AsciiNames.{is_ascii_text, is_quoted_key, is_out_of_target, name_escapes, ascii_name}
use Rattle.swc_ecma_codegen_literals.proofs.NameTexts.{escaped_answer, in_target}
use Rattle.swc_ecma_codegen_literals.proofs.SpelledTexts.{ascii_from_all}
use Rattle.swc_ecma_codegen_tokens.specs.Run.{has_backslash}
use Rattle.swc_ecma_codegen_tokens.specs.Targets.{wants_escapes, in_ascii, is_out_name, is_out}
use Rattle.swc_ecma_codegen_tokens.specs.Escapes.{may_make_text}
use Rattle.swc_ecma_codegen_tokens.proofs.LiteralTokens.RawTexts.{ascii_is}

-- some byte isn't ASCII
pub not_ascii : (t : List ℕ) → is_ascii_text t ≡ false → IsNotAscii t
not_ascii [] h = absurd (false≢true (sym h))
not_ascii (c ∷ cs) h = elim (cases_lt c 128) [
  | inl l ↦ let n = not_ascii cs (sym (ap (λ b. b && is_ascii_text cs) (lt-ltb c 128 l)) ∙ h) in (suc n.0, n.1)
  | inr g ↦ (0, g)
]

-- ---- names that can't be written

pub out_wants_escapes : (config : Config) (t : List ℕ) → is_out_name config t ≡ true → wants_escapes config t ≡ true
unfolding is_out_name wants_escapes
out_wants_escapes config t o =
    let p = and_parts config.ascii_only (is_out_of_target false config.target (chars t)) o in
    and_from config.ascii_only (not (is_ascii_text t)) p.0 (ap not (false_from_ne_true (is_ascii_text t) (λ a. false≢true (sym (in_target false config.target t (ascii_from_all t a)) ∙ p.1))))

-- what is written as it is isn't out
pub kept_is_in : (config : Config) (t : List ℕ) → wants_escapes config t ≡ false → is_out_name config t ≡ false
kept_is_in config t k = false_from_ne_true (is_out_name config t) (λ o. false≢true (sym k ∙ out_wants_escapes config t o))

-- where no text is made anew, none is out
pub plain_not_out : (config : Config) (f : Phrase) → may_make_text config f ≡ false → is_out config f ≡ false
unfolding may_make_text is_out
plain_not_out config Never h = refl
plain_not_out config Nothing h = refl
plain_not_out config (One x) h = refl
plain_not_out config (NameOf at bytes) h = kept_is_in config (turned bytes) (or_parts (has_backslash bytes) (wants_escapes config (turned bytes)) h).1
plain_not_out config (KeyOf at bytes) h = refl
plain_not_out config (PrivateOf bytes) h = kept_is_in config (turned bytes) (or_parts (has_backslash bytes) (wants_escapes config (turned bytes)) h).1
plain_not_out config (TagNameOf at bytes) h = refl
plain_not_out config (CommaBefore close) h = refl
plain_not_out config (OptionalParentheses round a) h = plain_not_out config a h
plain_not_out config (Chosen choice) h = refl
plain_not_out config (Then a b) h =
    let p = or_parts (may_make_text config a) (may_make_text config b) h in
    or_from (is_out config a) (is_out config b) (plain_not_out config a p.0) (plain_not_out config b p.1)

-- none is where the settings don't ask for ASCII
pub bare_not_out : (config : Config) (f : Phrase) → config.ascii_only ≡ false → is_out config f ≡ false
unfolding is_out is_out_name
bare_not_out config Never h = refl
bare_not_out config Nothing h = refl
bare_not_out config (One x) h = refl
bare_not_out config (NameOf at bytes) h = ap (λ b. b && is_out_of_target false config.target (chars (turned bytes))) h
bare_not_out config (KeyOf at bytes) h = refl
bare_not_out config (PrivateOf bytes) h = ap (λ b. b && is_out_of_target false config.target (chars (turned bytes))) h
bare_not_out config (TagNameOf at bytes) h = refl
bare_not_out config (CommaBefore close) h = refl
bare_not_out config (OptionalParentheses round a) h = bare_not_out config a h
bare_not_out config (Chosen choice) h = refl
bare_not_out config (Then a b) h = or_from (is_out config a) (is_out config b) (bare_not_out config a h) (bare_not_out config b h)

-- ---- what is written of the others

pub kept_text : (config : Config) (t : List ℕ) → wants_escapes config t ≡ false → in_ascii config t ≡ t
unfolding in_ascii
kept_text config t k = ap (λ b. cond b (ascii_name false config.target (chars t)) t) k

pub escaped_text : (config : Config) (t : List ℕ) → wants_escapes config t ≡ true → in_ascii config t ≡ ascii_name false config.target (chars t)
unfolding in_ascii
escaped_text config t k = ap (λ b. cond b (ascii_name false config.target (chars t)) t) k

pub out_by_settings : (config : Config) (t : List ℕ) → wants_escapes config t ≡ true → is_out_name config t ≡ is_out_of_target false config.target (chars t)
unfolding wants_escapes is_out_name
out_by_settings config t e = ap (λ b. b && is_out_of_target false config.target (chars t)) (and_parts config.ascii_only (not (is_ascii_text t)) e).0

-- A text is a name of the same characters as another, in ASCII where the settings ask for that.
pub record Names (config : Config) (t u : List ℕ) : Type 0 where
  pub utf8 : is_utf8 u ≡ true
  pub shape : is_name (chars u) ≡ true
  pub value : name_value (chars u) ≡ name_value (chars t)
  pub ascii : config.ascii_only ≡ true → is_ascii_text u ≡ true

-- its escapes stand for the characters that they were made of
escaped_names : (config : Config) (t : List ℕ) → is_utf8 t ≡ true → is_name (chars t) ≡ true → wants_escapes config t ≡ true → is_out_name config t ≡ false → Names config t (in_ascii config t)
unfolding wants_escapes is_quoted_key
escaped_names config t u n e o =
    let p = and_parts config.ascii_only (not (is_ascii_text t)) e in
    let h = escaped_answer false config.target t (name_escapes false config.target (chars t)) (IsUtf8-from_is_utf8 t u) (not_ascii t (not-true (is_ascii_text t) p.1)) refl (sym (out_by_settings config t e) ∙ o) refl in
    subst (λ z. Names config t z) (h.exactly ∙ sym (escaped_text config t e))
    (record { utf8 = is_utf8-from_IsUtf8 _ (IsUtf8-from_ascii _ h.ascii); shape = h.name refl ∙ n; value = h.value refl n; ascii = λ _. sym (ascii_is true _ h.ascii) })

not_false : (b : Bool) → not b ≡ false → b ≡ true
not_false true h = refl
not_false false h = absurd (false≢true (sym h))

pub kept_ascii : (config : Config) (t : List ℕ) → wants_escapes config t ≡ false → config.ascii_only ≡ true → is_ascii_text t ≡ true
unfolding wants_escapes
kept_ascii config t k e = not_false (is_ascii_text t) (sym (ap (λ b. b && not (is_ascii_text t)) e) ∙ k)

pub names_in_ascii : (config : Config) (t : List ℕ) → is_utf8 t ≡ true → is_name (chars t) ≡ true → is_out_name config t ≡ false → Names config t (in_ascii config t)
names_in_ascii config t u n o = elim (cases_Bool (wants_escapes config t)) [
  | inl e ↦ escaped_names config t u n e o
  | inr k ↦ subst (λ z. Names config t z) (sym (kept_text config t k)) (record { utf8 = u; shape = n; value = refl; ascii = λ e. kept_ascii config t k e })
]
