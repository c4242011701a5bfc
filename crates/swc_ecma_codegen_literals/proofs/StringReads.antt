-- A spelled string reads back: the escapes, one by one.
use Rattle.std.proofs.Common.{◌≡◌, ℕ, suc, ◌+◌, ◌-◌, ◌*◌, ◌/◌, ◌%◌, ◌^◌, ◌<◌, ◌≤◌, Bool, true, false, ◌||◌, ◌==◌, List, [], ◌∷◌, ◌++◌, length, nat_lt, refl, sym, ap, ◌∙◌, subst, arith, inl, inr, if◌then◌else◌, codes, Option, Some, None, append_assoc, ◌⊎◌}
use Rattle.std.specs.Char.{digit_value}
use Rattle.std.specs.Fmt.{digit_glyph, digits}
use Rattle.std.specs.Str.Parse.{digits_value, digits_value_after, AllDigits, IsNumeral}
use Rattle.std.proofs.lemmas.Fmt.{digits_is_IsNumeral}
use Rattle.std.proofs.lemmas.Bool.{cases_lt, lt-ltb, le-ltb, le-leb, or_right, ne_eqb, eqb-true, false≢true, cond-true, cond-false}
use Rattle.swc_ecma_codegen_common.specs.declared.versions.EsVersion.{EsVersion}
use Rattle.swc_ecma_codegen_grammar.specs.Chars.{is_digit, begins_digit}
use Rattle.swc_ecma_codegen_grammar.specs.Numbers.{is_hex, is_octal, is_either}
use Rattle.swc_ecma_codegen_grammar.specs.CodeUnits.{utf16, escape_length}
use Rattle.swc_ecma_codegen_grammar.specs.declared.units.Place.{Place}
use Rattle.swc_ecma_codegen_grammar.specs.declared.units.Place.TheVariants.{Between, Escaped, Due, Unicode, Braced}
use Rattle.swc_ecma_codegen_grammar.specs.StringValues.{before, single_escape, string_rest}
use Rattle.swc_ecma_codegen_literals.specs.StringTexts.{up_to_es5, below_es5, escape_text, null_escape, backslash_escape, code_escape, hex_escape, unit_escape, pair_escape, braced_escape}
use Rattle.swc_ecma_codegen_literals.proofs.Numerals.{hex_from_value}
use Rattle.swc_ecma_codegen_literals.proofs.EscapeTexts.{glyph_hex, chosen}

-- a quote, which no escape holds but after its backslash
unfoldable pub IsQuote : ℕ → Type 0
IsQuote q = (q ≡ 34) ⊎ (q ≡ 39)

pub quote_small : (q : ℕ) → IsQuote q → q < 48
unfolding IsQuote
quote_small q h = elim h [ inl e ↦ omega arith | inr e ↦ omega arith ]

-- what the reading of a text is, from a place on
abbrev pub Read : ℕ → Place → List ℕ → Option (List ℕ)
Read q place text = string_rest q false place text

pub not_quote : (q c : ℕ) → IsQuote q → 48 ≤ c → (c == q) ≡ false
not_quote q c h l = let s = quote_small q h in ne_eqb c q (λ e. omega arith)

-- a backslash begins an escape
pub escapes : (q : ℕ) (t : List ℕ) → IsQuote q → Read q Between (92 ∷ t) ≡ Read q Escaped t
unfolding string_rest
escapes q t h = rw (not_quote q 92 h (omega arith)) refl

pub digit_low : (c : ℕ) → 48 ≤ c → c < 58 → digit_value c ≡ c - 48
digit_low c l h = rw (le-ltb c 48 l, lt-ltb c 58 h) refl

pub digit_upper : (c : ℕ) → 65 ≤ c → c < 91 → digit_value c ≡ c - 55
digit_upper c l h = rw (le-ltb c 48 (omega arith), le-ltb c 58 (omega arith), le-ltb c 65 l, lt-ltb c 91 h) refl

pub digit_lower : (c : ℕ) → 97 ≤ c → c < 123 → digit_value c ≡ c - 87
digit_lower c l h = rw (le-ltb c 48 (omega arith), le-ltb c 58 (omega arith), le-ltb c 65 (omega arith), le-ltb c 91 (omega arith), le-ltb c 97 l, lt-ltb c 123 h) refl

pub glyph_value : (upper : Bool) (d : ℕ) → d < 16 → digit_value (digit_glyph upper d) ≡ d
glyph_value upper d l = elim (cases_lt d 10) [
  | inl s ↦ ap digit_value (cond-true (nat_lt d 10) (48 + d) (if upper then 55 + d else 87 + d) (lt-ltb d 10 s)) ∙ (digit_low (48 + d) (omega arith) (omega arith) ∙ omega arith)
  | inr b ↦ ap digit_value (cond-false (nat_lt d 10) (48 + d) (if upper then 55 + d else 87 + d) (le-ltb d 10 b)) ∙ letter upper b
]
  where
    letter : (upper : Bool) → 10 ≤ d → digit_value (if upper then 55 + d else 87 + d) ≡ d
    letter true b = digit_upper (55 + d) (omega arith) (omega arith) ∙ omega arith
    letter false b = digit_lower (87 + d) (omega arith) (omega arith) ∙ omega arith

pub hex_not : (c a : ℕ) → is_hex c ≡ true → is_hex a ≡ false → (c == a) ≡ false
hex_not c a h g = ne_eqb c a (λ e. false≢true (sym g ∙ (ap is_hex (sym e) ∙ h)))

pub no_brace : is_hex 123 ≡ false
unfolding is_hex is_digit
no_brace = refl

pub or_no : (b : Bool) → (b || false) ≡ b
or_no true = refl
or_no false = refl

-- digits that are due
due_more : (q n value : ℕ) (t : List ℕ) (upper : Bool) (d : ℕ) → d < 16 → Read q (Due (suc (suc n)) value) (digit_glyph upper d ∷ t) ≡ Read q (Due (suc n) (value * 16 + d)) t
unfolding string_rest
due_more q n value t upper d l = rw (glyph_hex upper d l, glyph_value upper d l) refl

due_last : (q value : ℕ) (t : List ℕ) (upper : Bool) (d : ℕ) → d < 16 → Read q (Due 1 value) (digit_glyph upper d ∷ t) ≡ before ((value * 16 + d) ∷ []) (Read q Between t)
unfolding string_rest
due_last q value t upper d l = rw (glyph_hex upper d l, glyph_value upper d l) refl

hex_opens : (q : ℕ) (t : List ℕ) → Read q Escaped (120 ∷ t) ≡ Read q (Due 2 0) t
unfolding string_rest
hex_opens q t = refl

hex_escape_reads : (q c : ℕ) (t : List ℕ) → IsQuote q → c < 256 → Read q Between (hex_escape c ++ t) ≡ before (c ∷ []) (Read q Between t)
unfolding hex_escape
hex_escape_reads q c t h l =
    let e : (0 * 16 + c / 16) * 16 + c % 16 ≡ c = omega arith in
    escapes q (120 ∷ digit_glyph false (c / 16) ∷ digit_glyph false (c % 16) ∷ t) h ∙
    (hex_opens q (digit_glyph false (c / 16) ∷ digit_glyph false (c % 16) ∷ t) ∙
    (due_more q 0 0 (digit_glyph false (c % 16) ∷ t) false (c / 16) (omega arith) ∙
    (due_last q (0 * 16 + c / 16) t false (c % 16) (omega arith) ∙
    ap (λ u. before (u ∷ []) (Read q Between t)) e)))

pub unit_opens : (q : ℕ) (t : List ℕ) → Read q Escaped (117 ∷ t) ≡ Read q Unicode t
unfolding string_rest
unit_opens q t = refl

unit_starts : (q : ℕ) (t : List ℕ) (upper : Bool) (d : ℕ) → d < 16 → Read q Unicode (digit_glyph upper d ∷ t) ≡ Read q (Due 3 d) t
unfolding string_rest
unit_starts q t upper d l = rw (hex_not (digit_glyph upper d) 123 (glyph_hex upper d l) no_brace, glyph_hex upper d l, glyph_value upper d l) refl

unit_escape_reads : (q c : ℕ) (t : List ℕ) → IsQuote q → c < 65536 → Read q Between (unit_escape c ++ t) ≡ before (c ∷ []) (Read q Between t)
unfolding unit_escape
unit_escape_reads q c t h l =
    let e : ((c / 4096 * 16 + c / 256 % 16) * 16 + c / 16 % 16) * 16 + c % 16 ≡ c = omega arith in
    let d1 = digit_glyph true (c / 256 % 16) in
    let d2 = digit_glyph true (c / 16 % 16) in
    let d3 = digit_glyph true (c % 16) in
    escapes q (117 ∷ digit_glyph true (c / 4096) ∷ d1 ∷ d2 ∷ d3 ∷ t) h ∙
    (unit_opens q (digit_glyph true (c / 4096) ∷ d1 ∷ d2 ∷ d3 ∷ t) ∙
    (unit_starts q (d1 ∷ d2 ∷ d3 ∷ t) true (c / 4096) (omega arith) ∙
    (due_more q 1 (c / 4096) (d2 ∷ d3 ∷ t) true (c / 256 % 16) (omega arith) ∙
    (due_more q 0 (c / 4096 * 16 + c / 256 % 16) (d3 ∷ t) true (c / 16 % 16) (omega arith) ∙
    (due_last q ((c / 4096 * 16 + c / 256 % 16) * 16 + c / 16 % 16) t true (c % 16) (omega arith) ∙
    ap (λ u. before (u ∷ []) (Read q Between t)) e)))))

pub before_twice : (us vs : List ℕ) (o : Option (List ℕ)) → before us (before vs o) ≡ before (us ++ vs) o
unfolding before
before_twice us vs None = refl
before_twice us vs (Some rest) = ap Some (sym (append_assoc us vs rest))

pair_escape_reads : (q c : ℕ) (t : List ℕ) → IsQuote q → 65536 ≤ c → c < 1114112 → Read q Between (pair_escape c ++ t) ≡ before (utf16 c) (Read q Between t)
unfolding pair_escape utf16
pair_escape_reads q c t h g l =
    let high = 55296 + (c - 65536) / 1024 in
    let low = 56320 + (c - 65536) % 1024 in
    ap (λ x. Read q Between x) (append_assoc (unit_escape high) (unit_escape low) t) ∙
    (unit_escape_reads q high (unit_escape low ++ t) h (omega arith) ∙
    (ap (λ o. before (high ∷ []) o) (unit_escape_reads q low t h (omega arith)) ∙
    (before_twice (high ∷ []) (low ∷ []) (Read q Between t) ∙
    rw (le-ltb c 65536 g) refl)))

-- digits in braces
pub braced_run : (q value : ℕ) (some : Bool) (ds t : List ℕ) → AllDigits 16 ds → Read q (Braced some value) (ds ++ t) ≡ Read q (Braced (some || nat_lt 0 (length ds)) (digits_value_after 16 value ds)) t
unfolding string_rest
braced_run q value some [] t h = rw (or_no some) refl
braced_run q value some (d ∷ ds) t h =
    let e : (some || nat_lt 0 (suc (length ds))) ≡ true = or_right some (nat_lt 0 (suc (length ds))) (lt-ltb 0 (suc (length ds)) (omega arith)) in
    rw (hex_from_value d h.0, e) (braced_run q (value * 16 + digit_value d) true ds t h.1)

pub braced_ends : (q value : ℕ) (t : List ℕ) → value ≤ 1114111 → Read q (Braced true value) (125 ∷ t) ≡ before (utf16 value) (Read q Between t)
unfolding string_rest is_hex is_digit
braced_ends q value t l = rw (le-leb value 1114111 l) refl

pub braced_opens : (q : ℕ) (t : List ℕ) → Read q Unicode (123 ∷ t) ≡ Read q (Braced false 0) t
unfolding string_rest
braced_opens q t = refl

braced_escape_reads : (q c : ℕ) (t : List ℕ) → IsQuote q → c < 1114112 → Read q Between (braced_escape c ++ t) ≡ before (utf16 c) (Read q Between t)
unfolding braced_escape
braced_escape_reads q c t h l =
    let big : c < 16 ^ 64 = omega (arith, l) in
    let ds = digits 16 true c in
    let n : IsNumeral 16 ds × (digits_value 16 ds ≡ c) = digits_is_IsNumeral 16 true (omega arith) (omega arith) c big in
    let e : codes "\\u{" ++ (ds ++ codes "}") ++ t ≡ 92 ∷ 117 ∷ 123 ∷ (ds ++ 125 ∷ t) = ap (λ x. 92 ∷ 117 ∷ 123 ∷ x) (append_assoc ds (codes "}") t) in
    ap (λ x. Read q Between x) e ∙
    (escapes q (117 ∷ 123 ∷ (ds ++ 125 ∷ t)) h ∙
    (unit_opens q (123 ∷ (ds ++ 125 ∷ t)) ∙
    (braced_opens q (ds ++ 125 ∷ t) ∙
    (braced_run q 0 false ds (125 ∷ t) n.0.1 ∙
    (ap (λ b. Read q (Braced b (digits_value 16 ds)) (125 ∷ t)) (lt-ltb 0 (length ds) n.0.0) ∙
    (ap (λ v. Read q (Braced true v) (125 ∷ t)) n.1 ∙
    braced_ends q c t (omega arith)))))))

pub utf16_small : (c : ℕ) → c < 65536 → utf16 c ≡ c ∷ []
unfolding utf16
utf16_small c l = rw (lt-ltb c 65536 l) refl

pub code_escape_reads : (q : ℕ) (v : EsVersion) (c : ℕ) (t : List ℕ) → IsQuote q → c < 1114112 → Read q Between (code_escape v c ++ t) ≡ before (utf16 c) (Read q Between t)
unfolding code_escape
code_escape_reads q v c t h l = elim (cases_lt c 256) [
  | inl a ↦ rw (lt-ltb c 256 a) (hex_escape_reads q c t h a ∙ ap (λ u. before u (Read q Between t)) (sym (utf16_small c (omega arith))))
  | inr a ↦ rw (le-ltb c 256 a) (elim (cases_lt c 65536) [
    | inl b ↦ rw (lt-ltb c 65536 b) (unit_escape_reads q c t h b ∙ ap (λ u. before u (Read q Between t)) (sym (utf16_small c b)))
    | inr b ↦ rw (le-ltb c 65536 b) (by_version (up_to_es5 v) b)
  ])
]
  where
    by_version : (old : Bool) → 65536 ≤ c → Read q Between ((if old then pair_escape c else braced_escape c) ++ t) ≡ before (utf16 c) (Read q Between t)
    by_version true b = pair_escape_reads q c t h b l
    by_version false b = braced_escape_reads q c t h l

-- one character that isn't the backslash of a written surrogate escape
null_escape_reads : (q : ℕ) (v : EsVersion) (next t : List ℕ) → IsQuote q → begins_digit t ≡ begins_digit next → Read q Between (null_escape v next ++ t) ≡ before (0 ∷ []) (Read q Between t)
unfolding null_escape string_rest is_hex is_digit is_octal is_either
null_escape_reads q v next t h d = by_test (below_es5 v) (begins_digit next) d
  where
    by_test : (old digit : Bool) → begins_digit t ≡ digit → Read q Between ((if old || digit then codes "\\x00" else codes "\\0") ++ t) ≡ before (0 ∷ []) (Read q Between t)
    by_test true digit e = escapes q (120 ∷ 48 ∷ 48 ∷ t) h
    by_test false true e = escapes q (120 ∷ 48 ∷ 48 ∷ t) h
    by_test false false e = escapes q (48 ∷ t) h ∙ rw e refl

pub escape_reads : (q : ℕ) (v : EsVersion) (c : ℕ) (next t : List ℕ) → IsQuote q → c < 1114112 → begins_digit t ≡ begins_digit next → ((c == 92) ≡ true → nat_lt 0 (escape_length next) ≡ false) →
    Read q Between (escape_text v c next ++ t) ≡ before (utf16 c) (Read q Between t)
unfolding escape_text backslash_escape string_rest is_hex is_digit is_octal is_either single_escape utf16
escape_reads q v c next t h l d s =
    let P : List ℕ → Type 0 = λ x. Read q Between (x ++ t) ≡ before (utf16 c) (Read q Between t) in
    let at : (a : ℕ) (x : List ℕ) → Read q Between (x ++ t) ≡ before (utf16 a) (Read q Between t) → (c == a) ≡ true → P x = λ a x r e. r ∙ ap (λ b. before (utf16 b) (Read q Between t)) (sym (eqb-true c a e)) in
    chosen P (c == 0) _ _ (at 0 (null_escape v next) (null_escape_reads q v next t h d)) (λ _.
    chosen P (c == 8) _ _ (at 8 (codes "\\b") (escapes q (98 ∷ t) h)) (λ _.
    chosen P (c == 10) _ _ (at 10 (codes "\\n") (escapes q (110 ∷ t) h)) (λ _.
    chosen P (c == 11) _ _ (at 11 (codes "\\v") (escapes q (118 ∷ t) h)) (λ _.
    chosen P (c == 12) _ _ (at 12 (codes "\\f") (escapes q (102 ∷ t) h)) (λ _.
    chosen P (c == 13) _ _ (at 13 (codes "\\r") (escapes q (114 ∷ t) h)) (λ _.
    chosen P (c == 92) _ _ (λ e. subst P (sym (cond-false (nat_lt 0 (escape_length next)) (codes "\\") (codes "\\\\") (s e))) (at 92 (codes "\\\\") (escapes q (92 ∷ t) h) e)) (λ _.
    chosen P (c == 34) _ _ (at 34 (codes "\\\"") (escapes q (34 ∷ t) h)) (λ _.
    chosen P (c == 39) _ _ (at 39 (codes "\\'") (escapes q (39 ∷ t) h)) (λ _. code_escape_reads q v c t h l)))))))))
