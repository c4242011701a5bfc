-- How tokens begin.
use Rattle.std.proofs.Common.{Bool, List, [], codes, false, inl, inr, refl, subst, sym, true, ℕ, ◌&&◌, ◌==◌, ◌||◌, ◌∙◌, ◌∷◌, ◌≡◌}
use Rattle.std.proofs.lemmas.Bool.{and_parts, eqb-true, false_from_ne_true, or_cases, or_left, or_right, true≢false}
use Rattle.swc_ecma_codegen_grammar.proofs.Conditions.{at_eq, same_line_unspelled}
use Rattle.swc_ecma_codegen_grammar.proofs.HashbangShapes.{hashbang_head, some_hashbang}
use Rattle.swc_ecma_codegen_grammar.proofs.JsxShapes.{jsx_name_head, jsx_open_punctuator, jsx_string_head, some_jsx_name, some_jsx_string, some_jsx_text}
use Rattle.swc_ecma_codegen_grammar.proofs.Marks.{ending_punctuator, punctuator_among, some_punctuator}
use Rattle.swc_ecma_codegen_grammar.proofs.NameShapes.{name_head, private_head, some_name, some_private, some_word, starts_name, word_name}
use Rattle.swc_ecma_codegen_grammar.proofs.NumberShapes.{big_numeric, number_head, number_numeric, some_number}
use Rattle.swc_ecma_codegen_grammar.proofs.RegexShapes.{some_regex}
use Rattle.swc_ecma_codegen_grammar.proofs.StringShapes.{some_string, string_head}
use Rattle.swc_ecma_codegen_grammar.proofs.Tables.{blank_ne, eq_of_same}
use Rattle.swc_ecma_codegen_grammar.proofs.TemplateShapes.{some_template, some_template_rest, template_head, template_rest_head}
use Rattle.swc_ecma_codegen_grammar.specs.Chars.{begins_digit, is_blank, is_digit, is_letter, is_quote, is_start}
use Rattle.swc_ecma_codegen_grammar.specs.GapRules.{PreviousToken, last_after, mark_after}
use Rattle.swc_ecma_codegen_grammar.specs.Hashbangs.{is_hashbang}
use Rattle.swc_ecma_codegen_grammar.specs.Jsx.{is_jsx_name, is_jsx_string}
use Rattle.swc_ecma_codegen_grammar.specs.Names.{is_name, is_private_name}
use Rattle.swc_ecma_codegen_grammar.specs.Numbers.{is_numeric}
use Rattle.swc_ecma_codegen_grammar.specs.Punctuators.{punctuators}
use Rattle.swc_ecma_codegen_grammar.specs.RegularExpressions.{is_regex}
use Rattle.swc_ecma_codegen_grammar.specs.Strings.{is_string}
use Rattle.swc_ecma_codegen_grammar.specs.Templates.{is_template, is_template_rest}
use Rattle.swc_ecma_codegen_grammar.specs.Texts.{is_among, is_same}
use Rattle.swc_ecma_codegen_grammar.specs.Tokens.{has_shape}
use Rattle.swc_ecma_codegen_grammar.specs.declared.kinds.Kind.{Kind}
use Rattle.swc_ecma_codegen_grammar.specs.declared.kinds.Kind.TheVariants.{BigInt, Close, Ending, Hashbang, JsxName, JsxOpen, JsxString, JsxText, Name, Number, PrivateName, Punctuator, Regex, Str, Template, TemplateRest, Word, SameLine}
use Rattle.swc_ecma_codegen_grammar.specs.declared.kinds.TemplatePart.{TemplatePart}

-- the first characters of what is no punctuator, regular expression or text between tags
unfoldable pub is_plain : ℕ → Bool
is_plain c = starts_name c || (is_digit c || (is_quote c || ((c == 46) || ((c == 62) || ((c == 96) || ((c == 35) || (c == 125)))))))

pub plain_ne : (c d : ℕ) → is_plain c ≡ false → is_plain d ≡ true → (c == d) ≡ false
plain_ne c d f h = false_from_ne_true _ (λ e. true≢false (sym h ∙ subst (λ z. is_plain z ≡ false) (eqb-true c d e) f))

pub plain_solid : (d : ℕ) → is_plain d ≡ true → is_blank d ≡ false
unfolding is_plain starts_name is_start is_letter is_digit is_quote
plain_solid d h = false_from_ne_true _ (λ b. true≢false (sym h ∙ blank_ne is_plain d b refl refl refl refl))

pub data HasHead (t : List ℕ) : Type 0 where
  has_head : (c : ℕ) (n : List ℕ) → t ≡ c ∷ n → is_plain c ≡ true → HasHead t

start_plain : (c : ℕ) → starts_name c ≡ true → is_plain c ≡ true
unfolding is_plain
start_plain c h = or_left (starts_name c) _ h

quote_plain : (c : ℕ) → is_quote c ≡ true → is_plain c ≡ true
unfolding is_plain
quote_plain c h = or_right (starts_name c) _ (or_right (is_digit c) _ (or_left (is_quote c) _ h))

pub name_plain : (t : List ℕ) → is_name t ≡ true → HasHead t
name_plain [] h = absurd (some_name h)
name_plain (c ∷ n) h = has_head c n refl (start_plain c (name_head c n h))

digit_plain : (c : ℕ) (n : List ℕ) → (is_digit c || ((c == 46) && begins_digit n)) ≡ true → is_plain c ≡ true
unfolding is_plain
digit_plain c n h =
    or_right (starts_name c) _ (elim (or_cases (is_digit c) ((c == 46) && begins_digit n) h) [
      | inl x ↦ or_left (is_digit c) _ x
      | inr x ↦ or_right (is_digit c) _ (or_right (is_quote c) _ (or_left (c == 46) _ (and_parts (c == 46) (begins_digit n) x).0))
    ])

pub number_plain : (t : List ℕ) → is_numeric t ≡ true → HasHead t
number_plain [] h = absurd (some_number h)
number_plain (c ∷ n) h = has_head c n refl (digit_plain c n (number_head c n h))

pub string_plain : (t : List ℕ) → is_string t ≡ true → HasHead t
string_plain [] h = absurd (some_string h)
string_plain (c ∷ n) h = has_head c n refl (quote_plain c (string_head c n h))

plain_35 : is_plain 35 ≡ true
unfolding is_plain starts_name is_start is_letter is_digit is_quote
plain_35 = refl

plain_96 : is_plain 96 ≡ true
unfolding is_plain starts_name is_start is_letter is_digit is_quote
plain_96 = refl

plain_125 : is_plain 125 ≡ true
unfolding is_plain starts_name is_start is_letter is_digit is_quote
plain_125 = refl

pub private_plain : (t : List ℕ) → is_private_name t ≡ true → HasHead t
private_plain [] h = absurd (some_private h)
private_plain (c ∷ n) h = has_head c n refl (at_eq (λ z. is_plain z ≡ true) c 35 (private_head c n h).0 plain_35)

pub template_plain : (o : TemplatePart) (t : List ℕ) → is_template o t ≡ true → HasHead t
template_plain o [] h = absurd (some_template o h)
template_plain o (c ∷ n) h = has_head c n refl (at_eq (λ z. is_plain z ≡ true) c 96 (template_head o c n h) plain_96)

pub rest_plain : (o : TemplatePart) (t : List ℕ) → is_template_rest o t ≡ true → HasHead t
rest_plain o [] h = absurd (some_template_rest o h)
rest_plain o (c ∷ n) h = has_head c n refl (at_eq (λ z. is_plain z ≡ true) c 125 (template_rest_head o c n h) plain_125)

pub jsx_string_plain : (t : List ℕ) → is_jsx_string t ≡ true → HasHead t
jsx_string_plain [] h = absurd (some_jsx_string h)
jsx_string_plain (c ∷ n) h = has_head c n refl (quote_plain c (jsx_string_head c n h))

start_starts : (c : ℕ) → is_start c ≡ true → starts_name c ≡ true
unfolding starts_name
start_starts c h = or_left (is_start c) (c == 92) h

pub jsx_name_plain : (t : List ℕ) → is_jsx_name t ≡ true → HasHead t
jsx_name_plain [] h = absurd (some_jsx_name h)
jsx_name_plain (c ∷ n) h = has_head c n refl (start_plain c (start_starts c (jsx_name_head c n h)))

pub hashbang_plain : (t : List ℕ) → is_hashbang t ≡ true → HasHead t
hashbang_plain [] h = absurd (some_hashbang h)
hashbang_plain (c ∷ n) h = has_head c n refl (at_eq (λ z. is_plain z ≡ true) c 35 (hashbang_head c n h) plain_35)

-- how a token begins: as said, as a punctuator, as a regular expression or as text between tags
pub data Head (x : Kind) (t : List ℕ) : Type 0 where
  Plain : HasHead t → Head x t
  AsMark : is_among t punctuators ≡ true → ((k : PreviousToken) → last_after k x t ≡ mark_after k t) → Head x t
  AsRegex : is_regex t ≡ true → Head x t
  AsText : x ≡ JsxText → Head x t
  AsClose : t ≡ codes ">" → Head x t

pub head_of : (x : Kind) (t : List ℕ) → has_shape x t ≡ true → Head x t
unfolding has_shape last_after
head_of Word t h = Plain (name_plain t (word_name t h))
head_of Name t h = Plain (name_plain t h)
head_of PrivateName t h = Plain (private_plain t h)
head_of Punctuator t h = AsMark (punctuator_among t h) (λ k. refl)
head_of Ending t h = AsMark (punctuator_among t (ending_punctuator t h)) (λ k. refl)
head_of Number t h = Plain (number_plain t (number_numeric t h))
head_of BigInt t h = Plain (number_plain t (big_numeric t h))
head_of Str t h = Plain (string_plain t h)
head_of Regex t h = AsRegex h
head_of (Template o) t h = Plain (template_plain o t h)
head_of (TemplateRest o) t h = Plain (rest_plain o t h)
head_of Close t h = AsClose (eq_of_same t (codes ">") h)
head_of JsxName t h = Plain (jsx_name_plain t h)
head_of JsxString t h = Plain (jsx_string_plain t h)
head_of JsxText t h = AsText refl
head_of JsxOpen t h = AsMark (punctuator_among t (jsx_open_punctuator t h)) (λ k. refl)
head_of Hashbang t h = Plain (hashbang_plain t h)
head_of SameLine t h = absurd (same_line_unspelled t h)

-- a token is spelled by something
pub some_text : (x : Kind) → has_shape x [] ≡ true → ⊥
unfolding has_shape is_same
some_text Word h = some_word h
some_text Name h = some_name h
some_text PrivateName h = some_private h
some_text Punctuator h = some_punctuator h
some_text Ending h = true≢false (sym h)
some_text Number h = some_number (number_numeric [] h)
some_text BigInt h = some_number (big_numeric [] h)
some_text Str h = some_string h
some_text Regex h = some_regex h
some_text (Template o) h = some_template o h
some_text (TemplateRest o) h = some_template_rest o h
some_text Close h = true≢false (sym h)
some_text JsxName h = some_jsx_name h
some_text JsxString h = some_jsx_string h
some_text JsxText h = some_jsx_text h
some_text JsxOpen h = some_punctuator (jsx_open_punctuator [] h)
some_text Hashbang h = some_hashbang h
some_text SameLine h = same_line_unspelled [] h
