-- A quoted text for inline scripts.
use Rattle.std.proofs.Common.{◌≡◌, ℕ, ◌+◌, ◌-◌, ◌/◌, ◌%◌, ◌^◌, ◌<◌, ◌≤◌, Bool, true, false, not, ◌&&◌, ◌||◌, ◌==◌, List, [], ◌∷◌, ◌++◌, nat_lt, nat_le, refl, sym, ap, ◌∙◌, subst, arith, inl, inr, codes, Some, append_assoc}
use Rattle.std.specs.Fmt.{digit_glyph, digits}
use Rattle.std.specs.List.{list_all}
use Rattle.std.specs.Str.{IsAscii, chars}
use Rattle.std.specs.Str.Parse.{digits_value, AllDigits, IsNumeral}
use Rattle.std.proofs.lemmas.Bool.{cases_Bool, and_from, le-leb, leb-true, not_from_false, and_parts, ne_eqb, eqb-true, not-true, or_cases, ltb-true, ltb-false, false≢true, cond-false}
use Rattle.std.proofs.lemmas.Str.{chars-encodes, encodes-IsAscii}
use Rattle.std.proofs.lemmas.List.Folds.{list_all-append}
use Rattle.std.proofs.lemmas.Fmt.{digits_is_IsNumeral}
use lib.Utf8.{scalars, encodes}
use Rattle.swc_ecma_codegen_common.specs.declared.versions.EsVersion.{EsVersion}
use Rattle.swc_ecma_codegen_grammar.specs.Chars.{begins_digit, is_digit}
use Rattle.swc_ecma_codegen_grammar.specs.Strings.{is_string}
use Rattle.swc_ecma_codegen_grammar.specs.Numbers.{is_hex}
use Rattle.swc_ecma_codegen_grammar.proofs.StrictStrings.{valued_is_string}
use Rattle.swc_ecma_codegen_grammar.specs.CodeUnits.{begins_like, escape_length, short_escape, long_escape, four_digits, units}
use Rattle.swc_ecma_codegen_grammar.specs.declared.units.Place.TheVariants.{Between}
use Rattle.swc_ecma_codegen_grammar.specs.StringValues.{string_value}
use Rattle.swc_ecma_codegen_literals.specs.StringTexts.{up_to_es5, below_es5, stands, escape_text, null_escape, backslash_escape, code_escape, hex_escape, unit_escape, pair_escape, braced_escape, spelled, spelled_all, quote_of, quoted_text}
use Rattle.swc_ecma_codegen_literals.specs.InlineScripts.{inline_text, marked, IsInlineSafe}
use Rattle.swc_ecma_codegen_literals.proofs.EscapeTexts.{chosen, glyph_hex}
use Rattle.swc_ecma_codegen_literals.proofs.Fronts.{either_escape}
use Rattle.swc_ecma_codegen_literals.proofs.Numerals.{hex_from_value}
use Rattle.swc_ecma_codegen_literals.proofs.SpelledTexts.{ascii_from_all}
use Rattle.swc_ecma_codegen_literals.proofs.StringReads.{IsQuote, quote_small}
use Rattle.swc_ecma_codegen_literals.proofs.StringUnits.{stands_bare, scalars_rest}
use Rattle.swc_ecma_codegen_literals.proofs.QuotedTexts.{Lone, lone, not_lone, first_bound, quote_is, quote_shape, quoted_value, quoted_scalars, quoted_ascii}
use Rattle.swc_ecma_codegen_literals.proofs.InlineMarks.{at_once}
use Rattle.swc_ecma_codegen_literals.proofs.InlineTexts.{marked_ascii, marked_scalars, marked_bytes, marked_safe}
use Rattle.swc_ecma_codegen_literals.proofs.InlineReads.{fine, all_fine, other_stands, marked_reads}

-- characters inside an escape: letters, digits, braces
abbrev pub inside : ℕ → Bool
inside c = nat_le 48 c && not (c == 92)

pub hex_inside : (c : ℕ) → is_hex c ≡ true → inside c ≡ true
unfolding is_hex is_digit
hex_inside c h =
    elim (or_cases (nat_le 48 c && nat_le c 57) ((nat_le 65 c && nat_le c 70) || (nat_le 97 c && nat_le c 102)) h) [
      | inl d ↦ let p = and_parts (nat_le 48 c) (nat_le c 57) d in let l : c ≤ 57 = leb-true c 57 p.1 in at (leb-true 48 c p.0) (λ e. omega (arith, e, l))
      | inr d ↦ elim (or_cases (nat_le 65 c && nat_le c 70) (nat_le 97 c && nat_le c 102) d) [
        | inl u ↦ let p = and_parts (nat_le 65 c) (nat_le c 70) u in let g : 65 ≤ c = leb-true 65 c p.0 in let l : c ≤ 70 = leb-true c 70 p.1 in at (omega (arith, g)) (λ e. omega (arith, e, l))
        | inr u ↦ let p = and_parts (nat_le 97 c) (nat_le c 102) u in let g : 97 ≤ c = leb-true 97 c p.0 in at (omega (arith, g)) (λ e. omega (arith, e, g))
      ]
    ]
  where
    at : 48 ≤ c → (c ≡ 92 → ⊥) → inside c ≡ true
    at g n = and_from (nat_le 48 c) (not (c == 92)) (le-leb 48 c g) (not_from_false (c == 92) (ne_eqb c 92 n))

-- what holds before an escape where it holds after it
abbrev pub HoldsWithEscape : (List ℕ → Type 0) → Type 0
HoldsWithEscape P = (x : ℕ) (ps t : List ℕ) → fine x ≡ true → list_all inside ps ≡ true → P t → P (92 ∷ x ∷ (ps ++ t))

glyph_inside : (upper : Bool) (d : ℕ) → d < 16 → inside (digit_glyph upper d) ≡ true
glyph_inside upper d l = hex_inside (digit_glyph upper d) (glyph_hex upper d l)

digits_inside : (ds : List ℕ) → AllDigits 16 ds → list_all inside ds ≡ true
digits_inside [] h = refl
digits_inside (d ∷ ds) h = and_from (inside d) (list_all inside ds) (hex_inside d (hex_from_value d h.0)) (digits_inside ds h.1)

pub hex_kept : (P : List ℕ → Type 0) → HoldsWithEscape P → (c : ℕ) (t : List ℕ) → c < 256 → P t → P (hex_escape c ++ t)
unfolding hex_escape
hex_kept P k c t l h =
    k 120 (digit_glyph false (c / 16) ∷ digit_glyph false (c % 16) ∷ []) t refl
    (rw (glyph_inside false (c / 16) (omega arith), glyph_inside false (c % 16) (omega arith)) refl) h

pub unit_kept : (P : List ℕ → Type 0) → HoldsWithEscape P → (c : ℕ) (t : List ℕ) → c < 65536 → P t → P (unit_escape c ++ t)
unfolding unit_escape
unit_kept P k c t l h =
    k 117 (digit_glyph true (c / 4096) ∷ digit_glyph true (c / 256 % 16) ∷ digit_glyph true (c / 16 % 16) ∷ digit_glyph true (c % 16) ∷ []) t refl
    (rw (glyph_inside true (c / 4096) (omega arith), glyph_inside true (c / 256 % 16) (omega arith), glyph_inside true (c / 16 % 16) (omega arith), glyph_inside true (c % 16) (omega arith)) refl) h

pub pair_kept : (P : List ℕ → Type 0) → HoldsWithEscape P → (c : ℕ) (t : List ℕ) → 65536 ≤ c → c < 1114112 → P t → P (pair_escape c ++ t)
unfolding pair_escape
pair_kept P k c t g l h =
    let high = 55296 + (c - 65536) / 1024 in
    let low = 56320 + (c - 65536) % 1024 in
    subst P (sym (append_assoc (unit_escape high) (unit_escape low) t)) (unit_kept P k high (unit_escape low ++ t) (omega arith) (unit_kept P k low t (omega arith) h))

pub braced_kept : (P : List ℕ → Type 0) → HoldsWithEscape P → (c : ℕ) (t : List ℕ) → c < 1114112 → P t → P (braced_escape c ++ t)
unfolding braced_escape
braced_kept P k c t l h =
    let big : c < 16 ^ 64 = omega (arith, l) in
    let ds = digits 16 true c in
    let n : IsNumeral 16 ds × (digits_value 16 ds ≡ c) = digits_is_IsNumeral 16 true (omega arith) (omega arith) c big in
    k 117 (123 ∷ (ds ++ codes "}")) t refl
    (and_from (inside 123) (list_all inside (ds ++ codes "}")) refl
    (list_all-append inside ds (codes "}") ∙ and_from (list_all inside ds) (list_all inside (codes "}")) (digits_inside ds n.0.1) refl)) h

escape_kept : (P : List ℕ → Type 0) → HoldsWithEscape P → (v : EsVersion) (c : ℕ) (next t : List ℕ) → c < 1114112 → ((c == 92) ≡ true → nat_lt 0 (escape_length next) ≡ false) → P t → P (escape_text v c next ++ t)
unfolding escape_text null_escape backslash_escape code_escape
escape_kept P k v c next t l s h =
    let Q : List ℕ → Type 0 = λ x. P (x ++ t) in
    chosen Q (c == 0) _ _ (λ _. chosen Q (below_es5 v || begins_digit next) (codes "\\x00") (codes "\\0") (λ _. k 120 (codes "00") t refl refl h) (λ _. k 48 [] t refl refl h)) (λ _.
    chosen Q (c == 8) _ _ (λ _. k 98 [] t refl refl h) (λ _.
    chosen Q (c == 10) _ _ (λ _. k 110 [] t refl refl h) (λ _.
    chosen Q (c == 11) _ _ (λ _. k 118 [] t refl refl h) (λ _.
    chosen Q (c == 12) _ _ (λ _. k 102 [] t refl refl h) (λ _.
    chosen Q (c == 13) _ _ (λ _. k 114 [] t refl refl h) (λ _.
    chosen Q (c == 92) _ _ (λ e. subst Q (sym (cond-false (nat_lt 0 (escape_length next)) (codes "\\") (codes "\\\\") (s e))) (k 92 [] t refl refl h)) (λ _.
    chosen Q (c == 34) _ _ (λ _. k 34 [] t refl refl h) (λ _.
    chosen Q (c == 39) _ _ (λ _. k 39 [] t refl refl h) (λ _.
    chosen Q (nat_lt c 256) _ _ (λ b. hex_kept P k c t (ltb-true c 256 b) h) (λ b.
    chosen Q (nat_lt c 65536) _ _ (λ b. unit_kept P k c t (ltb-true c 65536 b) h) (λ b.
    chosen Q (up_to_es5 v) _ _ (λ _. pair_kept P k c t (ltb-false c 65536 b) l h) (λ _. braced_kept P k c t l h))))))))))))

-- the escapes of a quoted text are fine
abbrev Fine : List ℕ → Type 0
Fine t = all_fine false t ≡ true

inside_run : (ps t : List ℕ) → list_all inside ps ≡ true → Fine t → Fine (ps ++ t)
unfolding all_fine
inside_run [] t h f = f
inside_run (p ∷ ps) t h f =
    let s = and_parts (inside p) (list_all inside ps) h in
    ap (λ b. all_fine b (ps ++ t)) (not-true (p == 92) (and_parts (nat_le 48 p) (not (p == 92)) s.0).1) ∙ inside_run ps t s.1 f

fine_kept : HoldsWithEscape Fine
unfolding all_fine
fine_kept x ps t f h r = and_from (fine x) (all_fine false (ps ++ t)) f (inside_run ps t h r)

fine_stands : (c : ℕ) (t : List ℕ) → (c == 92) ≡ false → Fine t → Fine (c ∷ t)
unfolding all_fine
fine_stands c t n f = ap (λ b. all_fine b t) n ∙ f

-- a written surrogate escape begins with `u`
begins_u : (cs : List ℕ) → nat_lt 0 (escape_length cs) ≡ true → (rest : List ℕ) × (cs ≡ 117 ∷ rest)
unfolding begins_like short_escape long_escape
begins_u [] h = absurd (false≢true (sym (either_escape []) ∙ h))
begins_u (c ∷ cs) h =
    let p = elim (or_cases (begins_like short_escape (c ∷ cs)) (begins_like long_escape (c ∷ cs)) (sym (either_escape (c ∷ cs)) ∙ h)) as (λ _. (c == 117) ≡ true) [
      | inl y ↦ (and_parts (c == 117) (begins_like (four_digits []) cs) y).0
      | inr y ↦ (and_parts (c == 117) (begins_like ((λ c. c == 123) ∷ four_digits ((λ c. c == 125) ∷ [])) cs) y).0
    ] in
    (cs, ap (λ x. x ∷ cs) (eqb-true c 117 p))

u_stands : (q : ℕ) (a : Bool) (v : EsVersion) (rest : List ℕ) → IsQuote q → spelled_all q a v (117 ∷ rest) ≡ 117 ∷ spelled_all q a v rest
unfolding spelled_all spelled stands
u_stands q a v rest h = let l = quote_small q h in rw (ne_eqb 117 q (λ e. omega arith)) refl

lone_fine : (rest : List ℕ) → Fine (117 ∷ rest) → Fine (92 ∷ 117 ∷ rest)
unfolding all_fine
lone_fine rest f = f

spelled_fine : (q : ℕ) (a : Bool) (v : EsVersion) (cs t : List ℕ) → IsQuote q → scalars cs ≡ true → Fine t → Fine (spelled_all q a v cs ++ t)
unfolding spelled_all spelled
spelled_fine q a v [] t h s f = f
spelled_fine q a v (c ∷ cs) t h s f =
    let r = spelled_fine q a v cs t h (scalars_rest c cs s) f in
    elim (cases_Bool (Lone c cs)) [
      | inl y ↦
          let p = and_parts (c == 92) (nat_lt 0 (escape_length cs)) y in
          let e : spelled q a v c cs ≡ 92 ∷ [] = ap (λ x. spelled q a v x cs) (eqb-true c 92 p.0) ∙ lone q a v cs h p.1 in
          let u = begins_u cs p.1 in
          let w : spelled_all q a v cs ≡ 117 ∷ spelled_all q a v u.0 = ap (spelled_all q a v) u.1 ∙ u_stands q a v u.0 h in
          subst Fine (sym (ap (λ x. (x ++ spelled_all q a v cs) ++ t) e ∙ ap (λ x. 92 ∷ (x ++ t)) w)) (lone_fine (spelled_all q a v u.0 ++ t) (subst (λ x. Fine (x ++ t)) w r))
      | inr n ↦ subst Fine (sym (append_assoc (spelled q a v c cs) (spelled_all q a v cs) t))
          (chosen (λ x. Fine (x ++ (spelled_all q a v cs ++ t))) (stands q a v c) (c ∷ []) (escape_text v c cs)
          (λ y. fine_stands c (spelled_all q a v cs ++ t) (stands_bare q a v c h y).no_backslash r)
          (λ _. escape_kept Fine fine_kept v c cs (spelled_all q a v cs ++ t) (first_bound c cs s) (not_lone c cs n) r))
    ]

quote_fine : (q : ℕ) → IsQuote q → (q == 92) ≡ false
quote_fine q h = let l = quote_small q h in ne_eqb q 92 (λ e. omega arith)

nothing_fine : Fine []
unfolding all_fine
nothing_fine = refl

body_fine : (q : ℕ) (a : Bool) (v : EsVersion) (text : List ℕ) → IsQuote q → scalars text ≡ true → Fine (spelled_all q a v text ++ q ∷ [])
body_fine q a v text h s = spelled_fine q a v text (q ∷ []) h s (fine_stands q [] (quote_fine q h) nothing_fine)

-- so its value stays
quote_stands : (q : ℕ) (cs : List ℕ) → IsQuote q → marked 0 (q ∷ cs) ≡ q ∷ marked 0 cs
unfolding IsQuote
quote_stands q cs h =
    let l = quote_small q h in
    other_stands 0 q cs (ne_eqb q 60 (λ e. omega arith)) (ne_eqb q 62 (λ e. omega arith)) ∙ ap (λ n. q ∷ marked n cs) (chosen (λ n. n ≡ 0) (q == 45) 1 0 (λ e. absurd (no_dash (eqb-true q 45 e))) (λ _. refl))
  where
    no_dash : q ≡ 45 → ⊥
    no_dash e = elim h [ inl i ↦ omega (arith, i, e) | inr i ↦ omega (arith, i, e) ]

value_kept : (q : ℕ) (cs : List ℕ) → IsQuote q → Fine cs → string_value false (marked 0 (q ∷ cs)) ≡ string_value false (q ∷ cs)
unfolding string_value
value_kept q cs h f = ap (string_value false) (quote_stands q cs h) ∙ rw (quote_shape q h) (marked_reads q cs h 0 Between tt f)

marked_value : (a : Bool) (v : EsVersion) (text : List ℕ) → scalars text ≡ true → string_value false (marked 0 (quoted_text a v text)) ≡ Some (units text)
unfolding quoted_text
marked_value a v text s =
    let q = quote_of text in
    let h = quote_is text in
    value_kept (quote_of text) (spelled_all (quote_of text) a v text ++ quote_of text ∷ []) h (body_fine (quote_of text) a v text h s) ∙ quoted_value a v text s

marked_token : (a : Bool) (v : EsVersion) (text : List ℕ) → scalars text ≡ true → is_string (marked 0 (quoted_text a v text)) ≡ true
marked_token a v text s = valued_is_string (marked 0 (quoted_text a v text)) (units text) (marked_value a v text s)

-- What is written for a literal: each clause of it.
pub inline_exactly : (a : Bool) (v : EsVersion) (text literal result : List ℕ) → scalars text ≡ true → literal ≡ encodes (quoted_text a v text) → result ≡ marked 0 literal → result ≡ encodes (inline_text (quoted_text a v text))
inline_exactly a v text literal result s e r =
    r ∙ (ap (marked 0) e ∙ (sym (marked_bytes 0 (quoted_text a v text) (quoted_scalars a v text s)) ∙ ap encodes (sym (at_once (quoted_text a v text)))))

inline_chars : (a : Bool) (v : EsVersion) (text result : List ℕ) → scalars text ≡ true → result ≡ encodes (inline_text (quoted_text a v text)) → chars result ≡ marked 0 (quoted_text a v text)
inline_chars a v text result s e =
    ap chars (e ∙ ap encodes (at_once (quoted_text a v text))) ∙ chars-encodes (marked 0 (quoted_text a v text)) (marked_scalars 0 (quoted_text a v text) (quoted_scalars a v text s))

pub inline_value : (a : Bool) (v : EsVersion) (text result : List ℕ) → scalars text ≡ true → result ≡ encodes (inline_text (quoted_text a v text)) → string_value false (chars result) ≡ Some (units text)
inline_value a v text result s e = ap (string_value false) (inline_chars a v text result s e) ∙ marked_value a v text s

pub inline_token : (a : Bool) (v : EsVersion) (text result : List ℕ) → scalars text ≡ true → result ≡ encodes (inline_text (quoted_text a v text)) → is_string (chars result) ≡ true
inline_token a v text result s e = ap is_string (inline_chars a v text result s e) ∙ marked_token a v text s

pub inline_safe : (a : Bool) (v : EsVersion) (text result : List ℕ) → scalars text ≡ true → result ≡ encodes (inline_text (quoted_text a v text)) → IsInlineSafe (chars result)
inline_safe a v text result s e = subst (λ x. IsInlineSafe x) (sym (inline_chars a v text result s e)) (marked_safe 0 (quoted_text a v text))

pub inline_ascii : (v : EsVersion) (text result : List ℕ) → scalars text ≡ true → result ≡ encodes (inline_text (quoted_text true v text)) → IsAscii result
inline_ascii v text result s e =
    let i = ascii_from_all (marked 0 (quoted_text true v text)) (marked_ascii 0 (quoted_text true v text) (quoted_ascii v text s)) in
    subst (λ x. IsAscii x) (sym (e ∙ (ap encodes (at_once (quoted_text true v text)) ∙ encodes-IsAscii (marked 0 (quoted_text true v text)) i))) i
