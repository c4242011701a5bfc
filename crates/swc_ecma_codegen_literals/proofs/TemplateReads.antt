-- What the pieces of a template's text stand for: in its raw text, and as they are spelled.
use Rattle.std.proofs.Common.{◌≡◌, ℕ, suc, ◌+◌, ◌*◌, ◌/◌, ◌%◌, ◌^◌, ◌<◌, ◌≤◌, Bool, true, false, ◌&&◌, ◌||◌, ◌==◌, List, [], ◌∷◌, ◌++◌, length, drop, nat_lt, nat_le, refl, sym, ap, ◌∙◌, subst, arith, inl, inr, if◌then◌else◌, codes, Option, Some, None, is_some, append_assoc}
use Rattle.std.specs.Char.{digit_value}
use Rattle.std.specs.Fmt.{digit_glyph, digits}
use Rattle.std.specs.Str.Parse.{digits_value, digits_value_after, AllDigits, IsNumeral}
use Rattle.std.proofs.lemmas.Fmt.{digits_is_IsNumeral}
use Rattle.std.proofs.lemmas.Bool.{cases_Bool, lt-ltb, le-leb, ltb-true, and_from, and_parts, or_cases, or_parts, or_right, ne_eqb, eqb-true, false≢true}
use Rattle.swc_ecma_codegen_grammar.specs.Chars.{is_digit, begins_digit}
use Rattle.swc_ecma_codegen_grammar.specs.Numbers.{is_hex}
use Rattle.swc_ecma_codegen_grammar.specs.Texts.{begins}
use Rattle.swc_ecma_codegen_grammar.specs.CodeUnits.{utf16}
use Rattle.swc_ecma_codegen_literals.specs.StringTexts.{is_unseen, hex_escape, unit_escape, braced_escape}
use Rattle.swc_ecma_codegen_grammar.specs.declared.units.Place.TheVariants.{Between, Escaped, Due, Unicode, Braced}
use Rattle.swc_ecma_codegen_grammar.specs.StringValues.{before, single_escape}
use Rattle.swc_ecma_codegen_grammar.specs.TemplateValues.{cooked_rest}
use Rattle.swc_ecma_codegen_literals.specs.declared.templates.Piece.{Piece}
use Rattle.swc_ecma_codegen_literals.specs.declared.templates.Piece.TheVariants.{Bare, Backslashed, Hex, Gone}
use Rattle.swc_ecma_codegen_literals.specs.TemplateTexts.{stays_hex, hex_more, hex_value_piece, hex_digits_piece, hex_piece, is_kept, escape_piece, escape_more, first_piece, piece_more, bare_text}
use Rattle.swc_ecma_codegen_literals.proofs.EscapeTexts.{chosen, glyph_hex}
use Rattle.swc_ecma_codegen_literals.proofs.Numerals.{hex_from_value}
use Rattle.swc_ecma_codegen_literals.proofs.StringReads.{glyph_value, hex_not, no_brace, or_no, utf16_small}
use Rattle.swc_ecma_codegen_literals.proofs.TemplatePieces.{unseen_small, hex_value_small}

abbrev pub has : Option (List ℕ) → Bool
has o = is_some o

pub has_before : (us : List ℕ) (o : Option (List ℕ)) → has (before us o) ≡ has o
unfolding before
has_before us None = refl
has_before us (Some rest) = refl

pub rest_has : (us : List ℕ) (o : Option (List ℕ)) → has (before us o) ≡ true → has o ≡ true
rest_has us o h = sym (has_before us o) ∙ h

-- a choice where one side has no value
pub when : (b : Bool) (o : Option (List ℕ)) → has (if b then o else None) ≡ true → (b ≡ true) × (has o ≡ true)
when true o h = (refl, h)
when false o h = absurd (false≢true h)

pub unless : (b : Bool) (o : Option (List ℕ)) → has (if b then None else o) ≡ true → (b ≡ false) × (has o ≡ true)
unless true o h = absurd (false≢true h)
unless false o h = (refl, h)

-- the escapes as they are spelled
pub backslash : (t : List ℕ) → cooked_rest Between (92 ∷ t) ≡ cooked_rest Escaped t
unfolding cooked_rest
backslash t = refl

pub bare_cooks : (c : ℕ) (t : List ℕ) → (c == 96) ≡ false → (c == 92) ≡ false → (c == 13) ≡ false → ((c == 36) && begins (123 ∷ []) t) ≡ false → cooked_rest Between (c ∷ t) ≡ before (utf16 c) (cooked_rest Between t)
unfolding cooked_rest
bare_cooks c t n b r d = rw (n, d, b, r) refl

due_more : (n value : ℕ) (t : List ℕ) (upper : Bool) (d : ℕ) → d < 16 → cooked_rest (Due (suc (suc n)) value) (digit_glyph upper d ∷ t) ≡ cooked_rest (Due (suc n) (value * 16 + d)) t
unfolding cooked_rest
due_more n value t upper d l = rw (glyph_hex upper d l, glyph_value upper d l) refl

due_last : (value : ℕ) (t : List ℕ) (upper : Bool) (d : ℕ) → d < 16 → cooked_rest (Due 1 value) (digit_glyph upper d ∷ t) ≡ before ((value * 16 + d) ∷ []) (cooked_rest Between t)
unfolding cooked_rest
due_last value t upper d l = rw (glyph_hex upper d l, glyph_value upper d l) refl

hex_opens : (t : List ℕ) → cooked_rest Escaped (120 ∷ t) ≡ cooked_rest (Due 2 0) t
unfolding cooked_rest
hex_opens t = refl

pub hex_cooks : (c : ℕ) (t : List ℕ) → c < 256 → cooked_rest Between (hex_escape c ++ t) ≡ before (c ∷ []) (cooked_rest Between t)
unfolding hex_escape
hex_cooks c t l =
    let e : (0 * 16 + c / 16) * 16 + c % 16 ≡ c = omega arith in
    backslash (120 ∷ digit_glyph false (c / 16) ∷ digit_glyph false (c % 16) ∷ t) ∙
    (hex_opens (digit_glyph false (c / 16) ∷ digit_glyph false (c % 16) ∷ t) ∙
    (due_more 0 0 (digit_glyph false (c % 16) ∷ t) false (c / 16) (omega arith) ∙
    (due_last (0 * 16 + c / 16) t false (c % 16) (omega arith) ∙
    ap (λ u. before (u ∷ []) (cooked_rest Between t)) e)))

unit_opens : (t : List ℕ) → cooked_rest Escaped (117 ∷ t) ≡ cooked_rest Unicode t
unfolding cooked_rest
unit_opens t = refl

unit_starts : (t : List ℕ) (upper : Bool) (d : ℕ) → d < 16 → cooked_rest Unicode (digit_glyph upper d ∷ t) ≡ cooked_rest (Due 3 d) t
unfolding cooked_rest
unit_starts t upper d l = rw (hex_not (digit_glyph upper d) 123 (glyph_hex upper d l) no_brace, glyph_hex upper d l, glyph_value upper d l) refl

unit_cooks : (c : ℕ) (t : List ℕ) → c < 65536 → cooked_rest Between (unit_escape c ++ t) ≡ before (c ∷ []) (cooked_rest Between t)
unfolding unit_escape
unit_cooks c t l =
    let e : ((c / 4096 * 16 + c / 256 % 16) * 16 + c / 16 % 16) * 16 + c % 16 ≡ c = omega arith in
    let d1 = digit_glyph true (c / 256 % 16) in
    let d2 = digit_glyph true (c / 16 % 16) in
    let d3 = digit_glyph true (c % 16) in
    backslash (117 ∷ digit_glyph true (c / 4096) ∷ d1 ∷ d2 ∷ d3 ∷ t) ∙
    (unit_opens (digit_glyph true (c / 4096) ∷ d1 ∷ d2 ∷ d3 ∷ t) ∙
    (unit_starts (d1 ∷ d2 ∷ d3 ∷ t) true (c / 4096) (omega arith) ∙
    (due_more 1 (c / 4096) (d2 ∷ d3 ∷ t) true (c / 256 % 16) (omega arith) ∙
    (due_more 0 (c / 4096 * 16 + c / 256 % 16) (d3 ∷ t) true (c / 16 % 16) (omega arith) ∙
    (due_last ((c / 4096 * 16 + c / 256 % 16) * 16 + c / 16 % 16) t true (c % 16) (omega arith) ∙
    ap (λ u. before (u ∷ []) (cooked_rest Between t)) e)))))

braced_run : (value : ℕ) (some : Bool) (ds t : List ℕ) → AllDigits 16 ds → cooked_rest (Braced some value) (ds ++ t) ≡ cooked_rest (Braced (some || nat_lt 0 (length ds)) (digits_value_after 16 value ds)) t
unfolding cooked_rest
braced_run value some [] t h = rw (or_no some) refl
braced_run value some (d ∷ ds) t h =
    let e : (some || nat_lt 0 (suc (length ds))) ≡ true = or_right some (nat_lt 0 (suc (length ds))) (lt-ltb 0 (suc (length ds)) (omega arith)) in
    rw (hex_from_value d h.0, e) (braced_run (value * 16 + digit_value d) true ds t h.1)

braced_ends : (value : ℕ) (t : List ℕ) → value ≤ 1114111 → cooked_rest (Braced true value) (125 ∷ t) ≡ before (utf16 value) (cooked_rest Between t)
unfolding cooked_rest is_hex is_digit
braced_ends value t l = rw (le-leb value 1114111 l) refl

braced_opens : (t : List ℕ) → cooked_rest Unicode (123 ∷ t) ≡ cooked_rest (Braced false 0) t
unfolding cooked_rest
braced_opens t = refl

braced_cooks : (c : ℕ) (t : List ℕ) → c < 1114112 → cooked_rest Between (braced_escape c ++ t) ≡ before (utf16 c) (cooked_rest Between t)
unfolding braced_escape
braced_cooks c t l =
    let big : c < 16 ^ 64 = omega (arith, l) in
    let ds = digits 16 true c in
    let n : IsNumeral 16 ds × (digits_value 16 ds ≡ c) = digits_is_IsNumeral 16 true (omega arith) (omega arith) c big in
    let e : codes "\\u{" ++ (ds ++ codes "}") ++ t ≡ 92 ∷ 117 ∷ 123 ∷ (ds ++ 125 ∷ t) = ap (λ x. 92 ∷ 117 ∷ 123 ∷ x) (append_assoc ds (codes "}") t) in
    ap (λ x. cooked_rest Between x) e ∙
    (backslash (117 ∷ 123 ∷ (ds ++ 125 ∷ t)) ∙
    (unit_opens (123 ∷ (ds ++ 125 ∷ t)) ∙
    (braced_opens (ds ++ 125 ∷ t) ∙
    (braced_run 0 false ds (125 ∷ t) n.0.1 ∙
    (ap (λ b. cooked_rest (Braced b (digits_value 16 ds)) (125 ∷ t)) (lt-ltb 0 (length ds) n.0.0) ∙
    (ap (λ v. cooked_rest (Braced true v) (125 ∷ t)) n.1 ∙
    braced_ends c t (omega arith)))))))

null_cooks : (next t : List ℕ) → begins_digit t ≡ begins_digit next → cooked_rest Between ((if begins_digit next then codes "\\x00" else codes "\\0") ++ t) ≡ before (0 ∷ []) (cooked_rest Between t)
unfolding cooked_rest is_hex is_digit
null_cooks next t d = by_test (begins_digit next) d
  where
    by_test : (digit : Bool) → begins_digit t ≡ digit → cooked_rest Between ((if digit then codes "\\x00" else codes "\\0") ++ t) ≡ before (0 ∷ []) (cooked_rest Between t)
    by_test true e = refl
    by_test false e = rw e refl

b_cooks : (t : List ℕ) → cooked_rest Between (92 ∷ 98 ∷ t) ≡ before (utf16 8) (cooked_rest Between t)
unfolding cooked_rest is_digit single_escape
b_cooks t = refl

v_cooks : (t : List ℕ) → cooked_rest Between (92 ∷ 118 ∷ t) ≡ before (utf16 11) (cooked_rest Between t)
unfolding cooked_rest is_digit single_escape
v_cooks t = refl

f_cooks : (t : List ℕ) → cooked_rest Between (92 ∷ 102 ∷ t) ≡ before (utf16 12) (cooked_rest Between t)
unfolding cooked_rest is_digit single_escape
f_cooks t = refl

brace_cooks : (t : List ℕ) → cooked_rest Between (92 ∷ 123 ∷ t) ≡ before (utf16 123) (cooked_rest Between t)
unfolding cooked_rest is_digit single_escape
brace_cooks t = refl

-- a bare character as it is spelled
pub bare_text_cooks : (d a : Bool) (c : ℕ) (next t : List ℕ) → c < 1114112 → begins_digit t ≡ begins_digit next → (c == 96) ≡ false → (c == 92) ≡ false → (c == 13) ≡ false → ((c == 36) && begins (123 ∷ []) t) ≡ false →
    cooked_rest Between (bare_text d a c next ++ t) ≡ before (utf16 c) (cooked_rest Between t)
unfolding bare_text
bare_text_cooks d a c next t l g n b r s =
    let P : List ℕ → Type 0 = λ x. cooked_rest Between (x ++ t) ≡ before (utf16 c) (cooked_rest Between t) in
    let at : (k : ℕ) (x : List ℕ) → cooked_rest Between (x ++ t) ≡ before (utf16 k) (cooked_rest Between t) → (c == k) ≡ true → P x = λ k x h e. h ∙ ap (λ u. before (utf16 u) (cooked_rest Between t)) (sym (eqb-true c k e)) in
    let null : (c == 0) ≡ true → P (if begins_digit next then codes "\\x00" else codes "\\0") = at 0 (if begins_digit next then codes "\\x00" else codes "\\0") (null_cooks next t g ∙ ap (λ u. before u (cooked_rest Between t)) (sym (utf16_small 0 (omega arith)))) in
    chosen P (c == 0) _ _ null (λ _.
    chosen P (c == 8) _ _ (at 8 (codes "\\b") (b_cooks t)) (λ _.
    chosen P (c == 11) _ _ (at 11 (codes "\\v") (v_cooks t)) (λ _.
    chosen P (c == 12) _ _ (at 12 (codes "\\f") (f_cooks t)) (λ _.
    chosen P ((c == 123) && d) _ _ (λ e. at 123 (codes "\\{") (brace_cooks t) (and_parts (c == 123) d e).0) (λ _.
    chosen P (is_unseen c) _ _ (λ e. unit_cooks c t (unseen_small c e) ∙ ap (λ u. before u (cooked_rest Between t)) (sym (utf16_small c (unseen_small c e)))) (λ _.
    chosen P (nat_lt c 127) _ _ (λ _. bare_cooks c t n b r s) (λ _.
    chosen P (nat_lt c 256) _ _ (λ e. let m = ltb-true c 256 e in hex_cooks c t m ∙ ap (λ u. before u (cooked_rest Between t)) (sym (utf16_small c (omega (arith, m))))) (λ _.
    chosen P a _ _ (λ _. braced_cooks c t l) (λ _. bare_cooks c t n b r s)))))))))

-- what a piece stands for, with what follows it
abbrev pub piece_cooks : Piece → List ℕ → Option (List ℕ)
piece_cooks (Bare c) t = before (utf16 c) (cooked_rest Between t)
piece_cooks (Backslashed c) t = cooked_rest Escaped (c ∷ t)
piece_cooks (Hex v) t = before (v ∷ []) (cooked_rest Between t)
piece_cooks Gone t = cooked_rest Between t

-- a bare character that isn't a back quote, backslash or CR, and an escape that may be copied
pub record Text (c : ℕ) : Type 0 where
  pub no_quote : (c == 96) ≡ false
  pub no_backslash : (c == 92) ≡ false
  pub no_return : (c == 13) ≡ false

pub record Escape (c : ℕ) : Type 0 where
  pub no_zero : (c == 48) ≡ false
  pub no_return : (c == 13) ≡ false

abbrev pub Meant : Piece → Type 0
Meant (Bare c) = Text c
Meant (Backslashed c) = Escape c
Meant (Hex v) = Unit {0}
Meant Gone = Unit {0}

-- a raw text that has a value is read as its first piece and what follows that
pub record Reads (o : Option (List ℕ)) (p : Piece) (rest : List ℕ) : Type 0 where
  pub is_read : o ≡ piece_cooks p rest
  pub meant : Meant p

abbrev EscapeReads : ℕ → List ℕ → Type 0
EscapeReads e ds = has (cooked_rest Escaped (e ∷ ds)) ≡ true → Reads (cooked_rest Escaped (e ∷ ds)) (escape_piece (e ∷ ds)) (drop (escape_more (e ∷ ds)) (e ∷ ds))

newline_reads : (ds : List ℕ) → EscapeReads 110 ds
unfolding cooked_rest is_digit single_escape escape_piece escape_more
newline_reads ds h = record { is_read = refl; meant = record { no_quote = refl; no_backslash = refl; no_return = refl } }

tab_reads : (ds : List ℕ) → EscapeReads 116 ds
unfolding cooked_rest is_digit single_escape escape_piece escape_more
tab_reads ds h = record { is_read = refl; meant = record { no_quote = refl; no_backslash = refl; no_return = refl } }

zero_reads : (ds : List ℕ) → EscapeReads 48 ds
unfolding cooked_rest is_digit escape_piece escape_more utf16
zero_reads ds h = elim (cases_Bool (begins_digit ds)) [
  | inl y ↦ absurd (false≢true (rw y at h))
  | inr n ↦ record { is_read = rw n refl; meant = record { no_quote = refl; no_backslash = refl; no_return = refl } }
]

line_reads : (ds : List ℕ) → EscapeReads 8232 ds
unfolding cooked_rest is_digit escape_piece escape_more
line_reads ds h = record { is_read = refl; meant = tt }

paragraph_reads : (ds : List ℕ) → EscapeReads 8233 ds
unfolding cooked_rest is_digit escape_piece escape_more
paragraph_reads ds h = record { is_read = refl; meant = tt }

return_reads : (ds : List ℕ) → EscapeReads 13 ds
unfolding cooked_rest is_digit begins escape_piece escape_more
return_reads [] h = record { is_read = refl; meant = record { no_zero = refl; no_return = refl } }
return_reads (d ∷ ds) h = elim (cases_Bool (10 == d)) [
  | inl y ↦ rw y (record { is_read = refl; meant = record { no_zero = refl; no_return = refl } })
  | inr n ↦ rw n (record { is_read = refl; meant = record { no_zero = refl; no_return = refl } })
]

-- `\x` and two digits
value_text : (v : ℕ) → stays_hex v ≡ false → ((v == 0) || (nat_le 32 v && nat_le v 126)) ≡ true → Text v
unfolding stays_hex
value_text v n b =
    let p = or_parts (v == 36) ((v == 92) || ((v == 96) || (v == 123))) n in
    let q = or_parts (v == 92) ((v == 96) || (v == 123)) p.1 in
    record {
      no_quote = (or_parts (v == 96) (v == 123) q.1).0;
      no_backslash = q.0;
      no_return = ne_eqb v 13 (λ e. false≢true (ap (λ k. (k == 0) || (nat_le 32 k && nat_le k 126)) (sym e) ∙ b));
    }

hex_value_reads : (v a b : ℕ) (es : List ℕ) → v < 256 → cooked_rest Escaped (120 ∷ a ∷ b ∷ es) ≡ before (v ∷ []) (cooked_rest Between es) →
    Reads (cooked_rest Escaped (120 ∷ a ∷ b ∷ es)) (hex_value_piece v) (drop (hex_more (hex_value_piece v)) (a ∷ b ∷ es))
unfolding hex_value_piece hex_more
hex_value_reads v a b es l e =
    let P : Piece → Type 0 = λ p. Reads (cooked_rest Escaped (120 ∷ a ∷ b ∷ es)) p (drop (hex_more p) (a ∷ b ∷ es)) in
    chosen P (stays_hex v) _ _ (λ _. record { is_read = refl; meant = record { no_zero = refl; no_return = refl } }) (λ n.
    chosen P ((v == 0) || (nat_le 32 v && nat_le v 126)) _ _ (λ y. record { is_read = e ∙ ap (λ u. before u (cooked_rest Between es)) (sym (utf16_small v (omega arith))); meant = value_text v n y }) (λ _. record { is_read = e; meant = tt }))

hex_two : (a b : ℕ) (es : List ℕ) → is_hex a ≡ true → is_hex b ≡ true → cooked_rest Escaped (120 ∷ a ∷ b ∷ es) ≡ before (((0 * 16 + digit_value a) * 16 + digit_value b) ∷ []) (cooked_rest Between es)
unfolding cooked_rest
hex_two a b es x y = rw (x, y) refl

hex_needs : (a b : ℕ) (es : List ℕ) → has (cooked_rest Escaped (120 ∷ a ∷ b ∷ es)) ≡ true → (is_hex a ≡ true) × (is_hex b ≡ true)
unfolding cooked_rest
hex_needs a b es h =
    let p = when (is_hex a) (if is_hex b then before (((0 * 16 + digit_value a) * 16 + digit_value b) ∷ []) (cooked_rest Between es) else None) h in
    (p.0, (when (is_hex b) (before (((0 * 16 + digit_value a) * 16 + digit_value b) ∷ []) (cooked_rest Between es)) p.1).0)

hexes_read : (ds : List ℕ) → EscapeReads 120 ds
unfolding cooked_rest escape_piece escape_more hex_piece hex_digits_piece
hexes_read [] h = absurd (false≢true h)
hexes_read (a ∷ []) h = absurd (false≢true (when (is_hex a) None h).1)
hexes_read (a ∷ b ∷ es) h =
    let p = hex_needs a b es h in
    let e : (0 * 16 + digit_value a) * 16 + digit_value b ≡ digit_value a * 16 + digit_value b = omega arith in
    let m = hex_value_small a p.0 in
    let n = hex_value_small b p.1 in
    let v = digit_value a * 16 + digit_value b in
    rw (and_from (is_hex a) (is_hex b) p.0 p.1) (hex_value_reads (digit_value a * 16 + digit_value b) a b es (omega (arith, m, n)) (hex_two a b es p.0 p.1 ∙ ap (λ u. before (u ∷ []) (cooked_rest Between es)) e))

-- an escape that is copied
kept_reads : (e : ℕ) (ds : List ℕ) → (e == 110) ≡ false → (e == 116) ≡ false → (e == 48) ≡ false → (e == 120) ≡ false → ((e == 8232) || (e == 8233)) ≡ false → (e == 13) ≡ false → is_kept e ds ≡ true → EscapeReads e ds
unfolding escape_piece escape_more
kept_reads e ds n1 n2 n3 n4 n5 n6 y h = rw (n1, n2, n3, n4, n5, n6, y) (record { is_read = refl; meant = record { no_zero = n3; no_return = n6 } })

-- what is copied is none of these
pub record Plainly (e : ℕ) : Type 0 where
  pub n92 : (e == 92) ≡ false
  pub n114 : (e == 114) ≡ false
  pub n118 : (e == 118) ≡ false
  pub n98 : (e == 98) ≡ false
  pub n102 : (e == 102) ≡ false
  pub n117 : (e == 117) ≡ false
  pub n10 : (e == 10) ≡ false
  pub n96 : (e == 96) ≡ false

not_kept : (e : ℕ) (ds : List ℕ) → is_kept e ds ≡ false → Plainly e
unfolding is_kept
not_kept e ds h =
    let p = or_parts ((e == 92) || ((e == 114) || ((e == 118) || ((e == 98) || ((e == 102) || (e == 117)))))) (((e == 10) || (e == 96)) || ((nat_le 49 e && nat_le e 55) || ((e == 36) && begins (123 ∷ []) ds))) h in
    let q = or_parts (e == 92) ((e == 114) || ((e == 118) || ((e == 98) || ((e == 102) || (e == 117))))) p.0 in
    let r = or_parts (e == 114) ((e == 118) || ((e == 98) || ((e == 102) || (e == 117)))) q.1 in
    let s = or_parts (e == 118) ((e == 98) || ((e == 102) || (e == 117))) r.1 in
    let t = or_parts (e == 98) ((e == 102) || (e == 117)) s.1 in
    let u = or_parts (e == 102) (e == 117) t.1 in
    let w = or_parts (e == 10) (e == 96) (or_parts ((e == 10) || (e == 96)) ((nat_le 49 e && nat_le e 55) || ((e == 36) && begins (123 ∷ []) ds)) p.1).0 in
    record { n92 = q.0; n114 = r.0; n118 = s.0; n98 = t.0; n102 = u.0; n117 = u.1; n10 = w.0; n96 = w.1 }

itself : (e : ℕ) → (e == 110) ≡ false → (e == 116) ≡ false → Plainly e → single_escape e ≡ e
unfolding single_escape
itself e n1 n2 k = rw (k.n98, n2, n1, k.n118, k.n102, k.n114) refl

plain_escape : (e : ℕ) (ds : List ℕ) → (e == 48) ≡ false → (e == 120) ≡ false → ((e == 8232) || (e == 8233)) ≡ false → (e == 13) ≡ false → Plainly e →
    cooked_rest Escaped (e ∷ ds) ≡ (if is_digit e then None else before (utf16 (single_escape e)) (cooked_rest Between ds))
unfolding cooked_rest
plain_escape e ds n3 n4 n5 n6 k = rw (n4, k.n117, n3, n6, k.n10, n5) refl

bare_reads : (e : ℕ) (ds : List ℕ) → (e == 110) ≡ false → (e == 116) ≡ false → (e == 48) ≡ false → (e == 120) ≡ false → ((e == 8232) || (e == 8233)) ≡ false → (e == 13) ≡ false → is_kept e ds ≡ false → EscapeReads e ds
unfolding escape_piece escape_more
bare_reads e ds n1 n2 n3 n4 n5 n6 n7 h =
    let k = not_kept e ds n7 in
    let o = before (utf16 (single_escape e)) (cooked_rest Between ds) in
    let f : cooked_rest Escaped (e ∷ ds) ≡ (if is_digit e then None else before (utf16 (single_escape e)) (cooked_rest Between ds)) = plain_escape e ds n3 n4 n5 n6 k in
    let d = (unless (is_digit e) (before (utf16 (single_escape e)) (cooked_rest Between ds)) (ap has (sym f) ∙ h)).0 in
    let g : cooked_rest Escaped (e ∷ ds) ≡ before (utf16 e) (cooked_rest Between ds) = f ∙ (ap (λ b. if b then None else before (utf16 (single_escape e)) (cooked_rest Between ds)) d ∙ ap (λ u. before (utf16 u) (cooked_rest Between ds)) (itself e n1 n2 k)) in
    rw (n1, n2, n3, n4, n5, n6, n7) (record { is_read = g; meant = record { no_quote = k.n96; no_backslash = k.n92; no_return = n6 } })

escape_reads : (e : ℕ) (ds : List ℕ) → EscapeReads e ds
escape_reads e ds = elim (cases_Bool (e == 110)) [
  | inl y ↦ subst (λ x. EscapeReads x ds) (sym (eqb-true e 110 y)) (newline_reads ds)
  | inr n1 ↦ elim (cases_Bool (e == 116)) [
    | inl y ↦ subst (λ x. EscapeReads x ds) (sym (eqb-true e 116 y)) (tab_reads ds)
    | inr n2 ↦ elim (cases_Bool (e == 48)) [
      | inl y ↦ subst (λ x. EscapeReads x ds) (sym (eqb-true e 48 y)) (zero_reads ds)
      | inr n3 ↦ elim (cases_Bool (e == 120)) [
        | inl y ↦ subst (λ x. EscapeReads x ds) (sym (eqb-true e 120 y)) (hexes_read ds)
        | inr n4 ↦ elim (cases_Bool ((e == 8232) || (e == 8233))) [
          | inl y ↦ elim (or_cases (e == 8232) (e == 8233) y) [
            | inl z ↦ subst (λ x. EscapeReads x ds) (sym (eqb-true e 8232 z)) (line_reads ds)
            | inr z ↦ subst (λ x. EscapeReads x ds) (sym (eqb-true e 8233 z)) (paragraph_reads ds)
          ]
          | inr n5 ↦ elim (cases_Bool (e == 13)) [
            | inl y ↦ subst (λ x. EscapeReads x ds) (sym (eqb-true e 13 y)) (return_reads ds)
            | inr n6 ↦ elim (cases_Bool (is_kept e ds)) [
              | inl y ↦ kept_reads e ds n1 n2 n3 n4 n5 n6 y
              | inr n7 ↦ bare_reads e ds n1 n2 n3 n4 n5 n6 n7
            ]
          ]
        ]
      ]
    ]
  ]
]

abbrev RawReads : ℕ → List ℕ → Type 0
RawReads c cs = has (cooked_rest Between (c ∷ cs)) ≡ true → Reads (cooked_rest Between (c ∷ cs)) (first_piece c cs) (drop (piece_more c cs) cs)

slash_reads : (cs : List ℕ) → RawReads 92 cs
unfolding cooked_rest first_piece piece_more
slash_reads [] h = absurd (false≢true h)
slash_reads (e ∷ ds) h = escape_reads e ds h

return_begins : (cs : List ℕ) → RawReads 13 cs
unfolding cooked_rest first_piece piece_more utf16
return_begins cs h = elim (cases_Bool (begins (10 ∷ []) cs)) [
  | inl y ↦ rw y (record { is_read = refl; meant = tt })
  | inr n ↦ rw n (record { is_read = refl; meant = record { no_quote = refl; no_backslash = refl; no_return = refl } })
]

opened : (c : ℕ) (cs : List ℕ) → (c == 92) ≡ false → (c == 13) ≡ false → cooked_rest Between (c ∷ cs) ≡ (if c == 96 then None else if (c == 36) && begins (123 ∷ []) cs then None else before (utf16 c) (cooked_rest Between cs))
unfolding cooked_rest
opened c cs b r = rw (b, r) refl

text_reads : (c : ℕ) (cs : List ℕ) → (c == 92) ≡ false → (c == 13) ≡ false → RawReads c cs
unfolding first_piece piece_more
text_reads c cs b r h =
    let f : cooked_rest Between (c ∷ cs) ≡ (if c == 96 then None else if (c == 36) && begins (123 ∷ []) cs then None else before (utf16 c) (cooked_rest Between cs)) = opened c cs b r in
    let p = unless (c == 96) (if (c == 36) && begins (123 ∷ []) cs then None else before (utf16 c) (cooked_rest Between cs)) (ap has (sym f) ∙ h) in
    let q = unless ((c == 36) && begins (123 ∷ []) cs) (before (utf16 c) (cooked_rest Between cs)) p.1 in
    rw (b, r) (record { is_read = bare_cooks c cs p.0 b r q.0; meant = record { no_quote = p.0; no_backslash = b; no_return = r } })

pub raw_reads : (c : ℕ) (cs : List ℕ) → has (cooked_rest Between (c ∷ cs)) ≡ true → Reads (cooked_rest Between (c ∷ cs)) (first_piece c cs) (drop (piece_more c cs) cs)
raw_reads c cs = elim (cases_Bool (c == 92)) [
  | inl y ↦ subst (λ x. RawReads x cs) (sym (eqb-true c 92 y)) (slash_reads cs)
  | inr b ↦ elim (cases_Bool (c == 13)) [
    | inl y ↦ subst (λ x. RawReads x cs) (sym (eqb-true c 13 y)) (return_begins cs)
    | inr r ↦ text_reads c cs b r
  ]
]
