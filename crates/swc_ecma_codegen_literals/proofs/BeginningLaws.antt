-- How the spellings of names, strings and numbers begin.
use Rattle.std.proofs.Common.{Bool, List, [], ap, codes, false, inl, inr, not, refl, subst, sym, true, ℕ, nat_lt, ◌&&◌, ◌++◌, ◌==◌, ◌||◌, ◌∙◌, ◌∷◌, ◌≡◌}
use Rattle.std.specs.List.{list_any}
use Rattle.std.specs.Str.{IsAscii, chars}
use Rattle.std.proofs.lemmas.Bool.{and_parts, cases_Bool, cond-false, eqb-true, false≢true, not-true, or_left, or_right}
use Rattle.swc_ecma_codegen_common.specs.declared.versions.EsVersion.{EsVersion}
use Rattle.swc_ecma_codegen_grammar.specs.Chars.{begins_digit, is_digit, is_quote, is_start}
use Rattle.swc_ecma_codegen_grammar.specs.Names.{fits, is_name, name_rest}
use Rattle.swc_ecma_codegen_grammar.specs.Numbers.{is_big_integer, is_number, is_numeric}
use Rattle.swc_ecma_codegen_grammar.specs.Strings.{is_string}
use Rattle.swc_ecma_codegen_grammar.specs.Texts.{begins}
use Rattle.swc_ecma_codegen_grammar.specs.declared.names.Place.TheVariants.{Between, Escaped}
use Rattle.swc_ecma_codegen_grammar.proofs.NumberShapes.{big_numeric, number_head, number_numeric, some_number}
use Rattle.swc_ecma_codegen_grammar.proofs.StringShapes.{some_string, string_head}
use Rattle.swc_ecma_codegen_literals.specs.AsciiNames.{ascii_name, is_ascii_text, is_plain, is_quoted_key, lower_unit_escape, name_escape, name_escapes, wants_quotes}
use Rattle.swc_ecma_codegen_literals.specs.Beginnings.{begins_name, begins_numeric, begins_quoted}
use Rattle.swc_ecma_codegen_literals.specs.StringTexts.{braced_escape, code_escape, hex_escape, pair_escape, unit_escape, up_to_es5}
use Rattle.swc_ecma_codegen_literals.proofs.EscapeTexts.{chosen}
use Rattle.swc_ecma_codegen_literals.proofs.NameTexts.{ascii_chars, ascii_text}

-- a string
pub string_begins : (text : List ℕ) → is_string text ≡ true → begins_quoted text ≡ true
unfolding begins_quoted
string_begins [] h = absurd (some_string h)
string_begins (c ∷ cs) h = string_head c cs h

-- a number
pub numeric_begins : (text : List ℕ) → is_numeric text ≡ true → begins_numeric text ≡ true
unfolding begins_numeric
numeric_begins [] h = absurd (some_number h)
numeric_begins (c ∷ cs) h = number_head c cs h

pub number_begins : (text : List ℕ) → is_number text ≡ true → begins_numeric text ≡ true
number_begins text h = numeric_begins text (number_numeric text h)

pub big_integer_begins : (text : List ℕ) → is_big_integer text ≡ true → begins_numeric text ≡ true
big_integer_begins text h = numeric_begins text (big_numeric text h)

-- which is no sign
pub numeric_unsigned : (text : List ℕ) → begins_numeric text ≡ true → begins (codes "-") text ≡ false
unfolding begins_numeric begins is_digit
numeric_unsigned [] h = refl
numeric_unsigned (c ∷ cs) h = elim (cases_Bool (45 == c)) [
  | inl y ↦ absurd (false≢true (subst (λ x. (is_digit x || ((x == 46) && begins_digit cs)) ≡ true) (sym (eqb-true 45 c y)) h))
  | inr n ↦ ap (λ b. b && true) n
]

-- a name
pub name_begins : (text : List ℕ) → is_name text ≡ true → begins_name text ≡ true
unfolding is_name name_rest fits begins_name
name_begins [] h = absurd (false≢true h)
name_begins (c ∷ cs) h = elim (cases_Bool (c == 92)) [
  | inl y ↦ or_right (is_start c) (c == 92) y
  | inr n ↦ or_left (is_start c) (c == 92) (and_parts (is_start c) (name_rest false Between cs) (sym (cond-false (c == 92) (name_rest true Escaped cs) (is_start c && name_rest false Between cs) n) ∙ h)).0
]

-- ---- a name in ASCII

-- an escape begins with a backslash
code_begins : (v : EsVersion) (c : ℕ) (rest : List ℕ) → begins_name (code_escape v c ++ rest) ≡ true
unfolding code_escape hex_escape unit_escape pair_escape braced_escape begins_name
code_begins v c rest =
    let P : List ℕ → Type 0 = λ t. begins_name (t ++ rest) ≡ true in
    let slash = or_right (is_start 92) true refl in
    chosen P (nat_lt c 256) _ _ (λ _. slash) (λ _. chosen P (nat_lt c 65536) _ _ (λ _. slash) (λ _. chosen P (up_to_es5 v) _ _ (λ _. slash) (λ _. slash)))

first_escape : (key : Bool) (v : EsVersion) (c : ℕ) (rest : List ℕ) → (is_start c || (c == 92)) ≡ true → begins_name (name_escape key v c ++ rest) ≡ true
unfolding name_escape lower_unit_escape begins_name
first_escape key v c rest h =
    let P : List ℕ → Type 0 = λ t. begins_name (t ++ rest) ≡ true in
    let slash = or_right (is_start 92) true refl in
    chosen P (is_plain c) _ _ (λ _. h) (λ _. chosen P (nat_lt c 256 && not key) _ _ (λ _. slash) (λ _. code_begins v c rest))

escapes_begin : (key : Bool) (v : EsVersion) (text : List ℕ) → begins_name text ≡ true → begins_name (name_escapes key v text) ≡ true
unfolding begins_name name_escapes
escapes_begin key v [] h = absurd (false≢true h)
escapes_begin key v (c ∷ cs) h = first_escape key v c (name_escapes key v cs) h

pub ascii_name_begins : (key : Bool) (v : EsVersion) (text : List ℕ) → is_name text ≡ true → is_quoted_key key v text ≡ false → begins_name (ascii_name key v text) ≡ true
unfolding ascii_name
ascii_name_begins key v text h q =
    let P : List ℕ → Type 0 = λ t. begins_name t ≡ true in
    let b = name_begins text h in
    chosen P (is_ascii_text text) text _ (λ _. b) (λ _. chosen P (is_quoted_key key v text) _ _ (λ y. absurd (false≢true (sym q ∙ y))) (λ _. escapes_begin key v text b))

quoted_not_ascii : (key : Bool) (v : EsVersion) (text : List ℕ) → is_quoted_key key v text ≡ true → is_ascii_text text ≡ false
unfolding is_quoted_key
quoted_not_ascii key v text q = not-true (is_ascii_text text) (and_parts (not (is_ascii_text text)) (list_any (wants_quotes v) text) (and_parts key (not (is_ascii_text text) && list_any (wants_quotes v) text) q).1).0

pub quoted_key_begins : (key : Bool) (v : EsVersion) (text : List ℕ) → is_quoted_key key v text ≡ true → begins_quoted (ascii_name key v text) ≡ true
unfolding ascii_name begins_quoted is_quote
quoted_key_begins key v text q =
    let P : List ℕ → Type 0 = λ t. begins_quoted t ≡ true in
    chosen P (is_ascii_text text) text _ (λ y. absurd (false≢true (sym (quoted_not_ascii key v text q) ∙ y))) (λ _. chosen P (is_quoted_key key v text) _ _ (λ _. refl) (λ n. absurd (false≢true (sym n ∙ q))))

-- an ASCII name stays
pub ascii_name_stays : (key : Bool) (v : EsVersion) (text : List ℕ) → IsAscii text → ascii_name key v (chars text) ≡ text
ascii_name_stays key v text i = let p = ascii_chars text i in ascii_text key v (chars text) p.1 ∙ p.0
