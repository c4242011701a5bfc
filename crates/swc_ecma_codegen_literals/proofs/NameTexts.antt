-- A name in ASCII: its text, and each clause of it.
use Rattle.std.proofs.Common.{◌≡◌, ℕ, suc, ◌/◌, ◌%◌, ◌<◌, Bool, true, false, not, ◌&&◌, List, [], ◌∷◌, ◌++◌, nat_lt, nat_le, refl, sym, ap, ◌∙◌, subst, arith, inl, inr, Some, slice_index}
use Rattle.std.specs.Fmt.{digit_glyph}
use Rattle.std.specs.List.{list_all, list_any}
use Rattle.std.specs.Str.{IsAscii, IsNotAscii, IsUtf8, chars}
use Rattle.std.proofs.lemmas.Bool.{cases_lt, cases_Bool, lt-ltb, le-ltb, ltb-true, and_from, and_parts, or_parts, or_from, lt-leb, not_from_false, false≢true, false_from_ne_true}
use Rattle.std.proofs.lemmas.List.Folds.{list_all-append}
use Rattle.std.proofs.lemmas.Str.{chars-IsAscii, encodes-IsAscii, encodes-chars, scalars-chars}
use lib.Utf8.{low_scalar, scalar, scalars}
use Rattle.swc_ecma_codegen_common.specs.declared.versions.EsVersion.{EsVersion}
use Rattle.swc_ecma_codegen_grammar.specs.Names.{is_name, name_value}
use Rattle.swc_ecma_codegen_grammar.specs.Strings.{is_string}
use Rattle.swc_ecma_codegen_grammar.specs.CodeUnits.{all_utf16}
use Rattle.swc_ecma_codegen_literals.specs.StringTexts.{up_to_es5}
use Rattle.swc_ecma_codegen_grammar.specs.declared.units.Place.TheVariants.{Between}
use Rattle.swc_ecma_codegen_grammar.specs.StringValues.{string_value}
use Rattle.swc_ecma_codegen_literals.proofs.NameBridge.{named_word, same_name, same_value}
use Rattle.swc_ecma_codegen_literals.proofs.NameDecoder.{name_characters}
use Rattle.swc_ecma_codegen_literals.specs.AsciiNames.{lower_unit_escape, name_escape, name_escapes, wants_quotes, is_ascii_text, is_quoted_key, is_out_of_target, ascii_name}
use Rattle.swc_ecma_codegen_literals.proofs.EscapeTexts.{is_ascii_char, code_escape_ascii, glyph_hex}
use Rattle.swc_ecma_codegen_literals.proofs.Fronts.{hex_ascii}
use Rattle.swc_ecma_codegen_literals.proofs.SpelledTexts.{ascii_from_all, scalar_bound}
use Rattle.swc_ecma_codegen_literals.proofs.NameReads.{fits, named}
use Rattle.swc_ecma_codegen_literals.proofs.NameStrings.{key_value}
use Rattle.swc_ecma_codegen_grammar.proofs.StrictStrings.{valued_is_string}

-- an ASCII text, by its bytes and by its characters
all_from : (t : List ℕ) → IsAscii t → is_ascii_text t ≡ true
all_from [] h = refl
all_from (c ∷ cs) h = and_from (nat_lt c 128) (is_ascii_text cs) (lt-ltb c 128 (h 0)) (all_from cs (λ i. h (suc i)))

pub ascii_chars : (text : List ℕ) → IsAscii text → (chars text ≡ text) × (is_ascii_text (chars text) ≡ true)
ascii_chars text h = let e = chars-IsAscii text h in (e, ap is_ascii_text e ∙ all_from text h)

pub not_ascii_chars : (text : List ℕ) → IsUtf8 text → IsNotAscii text → is_ascii_text (chars text) ≡ false
not_ascii_chars text u n = false_from_ne_true (is_ascii_text (chars text)) (λ a.
    let i : IsAscii (chars text) = ascii_from_all (chars text) a in
    let e : text ≡ chars text = sym (encodes-chars text u) ∙ encodes-IsAscii (chars text) i in
    let l : slice_index text n.0 < 128 = subst (λ (x : List ℕ). slice_index x n.0 < 128) (sym e) (i n.0) in
    omega (arith, l, n.1))

-- the text, case by case
pub ascii_text : (key : Bool) (v : EsVersion) (text : List ℕ) → is_ascii_text text ≡ true → ascii_name key v text ≡ text
unfolding ascii_name
ascii_text key v text h = rw h refl

pub quoted_text : (v : EsVersion) (text : List ℕ) → is_ascii_text text ≡ false → list_any (wants_quotes v) text ≡ true → (is_quoted_key true v text ≡ true) × (ascii_name true v text ≡ 34 ∷ (name_escapes true v text ++ 34 ∷ []))
unfolding ascii_name is_quoted_key
quoted_text v text n h = (rw (n, h) refl, rw (n, h) refl)

pub escaped_text : (key : Bool) (v : EsVersion) (text : List ℕ) → is_ascii_text text ≡ false → (key && list_any (wants_quotes v) text) ≡ false → (is_quoted_key key v text ≡ false) × (ascii_name key v text ≡ name_escapes key v text)
unfolding ascii_name is_quoted_key
escaped_text key v text n h = (rw (n, h) refl, rw (n, h) refl)

unquoted : (key : Bool) (v : EsVersion) (text : List ℕ) → is_ascii_text text ≡ true → is_quoted_key key v text ≡ false
unfolding is_quoted_key
unquoted true v text h = rw h refl
unquoted false v text h = refl

-- all in ASCII
lower_ascii : (c : ℕ) → c < 256 → list_all is_ascii_char (lower_unit_escape c) ≡ true
unfolding lower_unit_escape
lower_ascii c l = rw (lt-ltb (digit_glyph false (c / 16)) 128 (digit (c / 16) (omega arith)), lt-ltb (digit_glyph false (c % 16)) 128 (digit (c % 16) (omega arith))) refl
  where
    digit : (d : ℕ) → d < 16 → digit_glyph false d < 128
    digit d l = hex_ascii (digit_glyph false d) (glyph_hex false d l)

escape_ascii : (key : Bool) (v : EsVersion) (c : ℕ) → c < 1114112 → list_all is_ascii_char (name_escape key v c) ≡ true
unfolding name_escape
escape_ascii key v c l = elim (cases_lt c 127) [
  | inl s ↦ rw (lt-ltb c 127 s) (and_from (is_ascii_char c) true (lt-ltb c 128 (omega arith)) refl)
  | inr g ↦ rw (le-ltb c 127 g) (elim (cases_Bool (nat_lt c 256 && not key)) [
    | inl y ↦ rw y (lower_ascii c (ltb-true c 256 (and_parts (nat_lt c 256) (not key) y).0))
    | inr n ↦ rw n (code_escape_ascii v c l)
  ])
]

escapes_ascii : (key : Bool) (v : EsVersion) (cs : List ℕ) → scalars cs ≡ true → list_all is_ascii_char (name_escapes key v cs) ≡ true
unfolding name_escapes
escapes_ascii key v [] s = refl
escapes_ascii key v (c ∷ cs) s =
    let p = and_parts (scalar c) (scalars cs) s in
    list_all-append is_ascii_char (name_escape key v c) (name_escapes key v cs) ∙
    and_from (list_all is_ascii_char (name_escape key v c)) (list_all is_ascii_char (name_escapes key v cs)) (escape_ascii key v c (scalar_bound c p.0)) (escapes_ascii key v cs p.1)

ascii_scalars : (cs : List ℕ) → list_all is_ascii_char cs ≡ true → scalars cs ≡ true
ascii_scalars [] h = refl
ascii_scalars (c ∷ cs) h =
    let p = and_parts (is_ascii_char c) (list_all is_ascii_char cs) h in
    let l : c < 128 = ltb-true c 128 p.0 in
    and_from (scalar c) (scalars cs) (low_scalar c (omega (arith, l))) (ascii_scalars cs p.1)

escapes_scalars : (key : Bool) (v : EsVersion) (cs : List ℕ) → scalars cs ≡ true → scalars (name_escapes key v cs) ≡ true
escapes_scalars key v cs s = ascii_scalars (name_escapes key v cs) (escapes_ascii key v cs s)

pub name_ascii : (key : Bool) (v : EsVersion) (text : List ℕ) → scalars text ≡ true → IsAscii (name_escapes key v text)
name_ascii key v text s = ascii_from_all (name_escapes key v text) (escapes_ascii key v text s)

pub key_ascii : (v : EsVersion) (text : List ℕ) → scalars text ≡ true → IsAscii (34 ∷ (name_escapes true v text ++ 34 ∷ []))
key_ascii v text s =
    ascii_from_all (34 ∷ (name_escapes true v text ++ 34 ∷ []))
    (list_all-append is_ascii_char (name_escapes true v text) (34 ∷ []) ∙ and_from (list_all is_ascii_char (name_escapes true v text)) true (escapes_ascii true v text s) refl)

-- where each character has an escape in a name
each_from : (p f : ℕ → Bool) → ((c : ℕ) → p c ≡ false → f c ≡ true) → (cs : List ℕ) → list_any p cs ≡ false → list_all f cs ≡ true
each_from p f g [] h = refl
each_from p f g (c ∷ cs) h = let q = or_parts (p c) (list_any p cs) h in and_from (f c) (list_all f cs) (g c q.0) (each_from p f g cs q.1)

none_any : (cs : List ℕ) → list_any (λ c. false) cs ≡ false
none_any [] = refl
none_any (c ∷ cs) = none_any cs

bare_fits : (v : EsVersion) (text : List ℕ) (old : Bool) → up_to_es5 v ≡ old → (old && list_any (nat_le 65536) text) ≡ false → list_all (fits false v) text ≡ true
bare_fits v text true e h = each_from (nat_le 65536) (fits false v) (λ c n. not_from_false (nat_le 65536 c && up_to_es5 v) (ap (λ b. b && up_to_es5 v) n)) text h
bare_fits v text false e h = each_from (λ c. false) (fits false v) (λ c _. not_from_false (nat_le 65536 c && up_to_es5 v) (ap (λ b. nat_le 65536 c && b) e ∙ no (nat_le 65536 c))) text (none_any text)
  where
    no : (b : Bool) → (b && false) ≡ false
    no true = refl
    no false = refl

all_fit : (key : Bool) (v : EsVersion) (text : List ℕ) → (key && list_any (wants_quotes v) text) ≡ false → is_out_of_target key v text ≡ false → list_all (fits key v) text ≡ true
unfolding is_out_of_target
all_fit true v text h o = each_from (wants_quotes v) (fits true v) (λ c n. not_from_false (wants_quotes v c) n) text h
all_fit false v text h o = bare_fits v text (up_to_es5 v) refl o

same_read : (key : Bool) (v : EsVersion) (text : List ℕ) → scalars text ≡ true → (key && list_any (wants_quotes v) text) ≡ false → is_out_of_target key v text ≡ false → name_characters (name_escapes key v text) ≡ name_characters text
same_read key v text s h o = named key v text s (all_fit key v text h o) Between

-- What an answer ensures: in each case `result` are its bytes.
pub record Answer (key : Bool) (v : EsVersion) (text result : List ℕ) : Type 0 where
  pub exactly : result ≡ ascii_name key v text
  pub name : is_quoted_key key v text ≡ false → is_name (chars result) ≡ is_name text
  pub value : is_quoted_key key v text ≡ false → is_name text ≡ true → name_value (chars result) ≡ name_value text
  pub key_value : is_quoted_key key v text ≡ true → is_name text ≡ true → string_value false (chars result) ≡ Some (all_utf16 (name_value text))
  pub token : is_quoted_key key v text ≡ true → is_name text ≡ true → is_string (chars result) ≡ true
  pub ascii : IsAscii result

pub ascii_answer : (key : Bool) (v : EsVersion) (text result : List ℕ) → IsAscii text → result ≡ text → Answer key v (chars text) result
ascii_answer key v text result i e =
    let p = ascii_chars text i in
    let n = unquoted key v (chars text) p.1 in
    record {
      exactly = e ∙ (sym p.0 ∙ sym (ascii_text key v (chars text) p.1));
      name = λ _. ap (λ x. is_name (chars x)) e;
      value = λ _ _. ap (λ x. name_value (chars x)) e;
      key_value = λ q. absurd (false≢true (sym n ∙ q));
      token = λ q. absurd (false≢true (sym n ∙ q));
      ascii = subst (λ (x : List ℕ). IsAscii x) (sym e) i;
    }

true_answer : (v : EsVersion) (text result : List ℕ) → IsUtf8 text → IsNotAscii text → list_any (wants_quotes v) (chars text) ≡ true → result ≡ 34 ∷ (name_escapes true v (chars text) ++ 34 ∷ []) → Answer true v (chars text) result
true_answer v text result u n h e =
    let s = scalars-chars text u in
    let p = quoted_text v (chars text) (not_ascii_chars text u n) h in
    let i : IsAscii result = subst (λ (x : List ℕ). IsAscii x) (sym e) (key_ascii v (chars text) s) in
    let c : chars result ≡ 34 ∷ (name_escapes true v (chars text) ++ 34 ∷ []) = chars-IsAscii result i ∙ e in
    record {
      exactly = e ∙ sym p.1;
      name = λ q. absurd (false≢true (sym q ∙ p.0));
      value = λ q. absurd (false≢true (sym q ∙ p.0));
      key_value = λ _ n. let w = named_word (chars text) s n in ap (string_value false) c ∙ key_value v (chars text) (name_value (chars text)) s w.0 w.1;
      token = λ _ n. let w = named_word (chars text) s n in ap is_string c ∙ valued_is_string (34 ∷ (name_escapes true v (chars text) ++ 34 ∷ [])) (all_utf16 (name_value (chars text))) (key_value v (chars text) (name_value (chars text)) s w.0 w.1);
      ascii = i;
    }

pub quoted_answer : (key : Bool) (v : EsVersion) (text result : List ℕ) → IsUtf8 text → IsNotAscii text → (key && list_any (wants_quotes v) (chars text)) ≡ true → result ≡ 34 ∷ (name_escapes true v (chars text) ++ 34 ∷ []) → Answer key v (chars text) result
quoted_answer key v text result u n h e =
    let p = and_parts key (list_any (wants_quotes v) (chars text)) h in
    subst (λ k. Answer k v (chars text) result) (sym p.0) (true_answer v text result u n p.1 e)

none_wide : (cs : List ℕ) → is_ascii_text cs ≡ true → list_any (nat_le 65536) cs ≡ false
none_wide [] h = refl
none_wide (c ∷ cs) h =
    let p = and_parts (nat_lt c 128) (is_ascii_text cs) h in
    let l : c < 128 = ltb-true c 128 p.0 in
    or_from (nat_le 65536 c) (list_any (nat_le 65536) cs) (lt-leb 65536 c (omega arith)) (none_wide cs p.1)

-- an ASCII name is in each target
pub in_target : (key : Bool) (v : EsVersion) (text : List ℕ) → IsAscii text → is_out_of_target key v (chars text) ≡ false
unfolding is_out_of_target
in_target key v text i = rw (none_wide (chars text) (ascii_chars text i).1, no (up_to_es5 v), no (not key)) refl
  where
    no : (b : Bool) → (b && false) ≡ false
    no true = refl
    no false = refl

pub escaped_answer : (key : Bool) (v : EsVersion) (text result : List ℕ) → IsUtf8 text → IsNotAscii text → (key && list_any (wants_quotes v) (chars text)) ≡ false → is_out_of_target key v (chars text) ≡ false → result ≡ name_escapes key v (chars text) → Answer key v (chars text) result
escaped_answer key v text result u n h o e =
    let s = scalars-chars text u in
    let p = escaped_text key v (chars text) (not_ascii_chars text u n) h in
    let i : IsAscii result = subst (λ (x : List ℕ). IsAscii x) (sym e) (name_ascii key v (chars text) s) in
    let c : chars result ≡ name_escapes key v (chars text) = chars-IsAscii result i ∙ e in
    record {
      exactly = e ∙ sym p.1;
      name = λ _. ap is_name c ∙ same_name (name_escapes key v (chars text)) (chars text) (escapes_scalars key v (chars text) s) s (same_read key v (chars text) s h o);
      value = λ _ n. ap name_value c ∙ same_value (name_escapes key v (chars text)) (chars text) s (same_read key v (chars text) s h o) n;
      key_value = λ q. absurd (false≢true (sym p.0 ∙ q));
      token = λ q. absurd (false≢true (sym p.0 ∙ q));
      ascii = i;
    }
