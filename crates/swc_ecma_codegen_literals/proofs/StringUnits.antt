-- A spelled string has the units of its text.
use Rattle.std.proofs.Common.{◌≡◌, ℕ, suc, ◌+◌, ◌-◌, ◌*◌, ◌<◌, ◌≤◌, Bool, true, false, not, ◌&&◌, ◌||◌, ◌==◌, List, [], ◌∷◌, ◌++◌, length, nat_lt, nat_le, refl, sym, ap, ◌∙◌, subst, arith, inl, inr, codes, append_assoc, ◌⊎◌}
use Rattle.std.specs.Char.{digit_value}
use Rattle.std.specs.List.{list_all}
use Rattle.std.specs.Str.Parse.{digits_value}
use Rattle.std.proofs.lemmas.Bool.{cases_lt, cases_Bool, lt-ltb, le-leb, leb-true, and_from, and_parts, or_cases, or_parts, or_from, ne_eqb, eqb-true, not-true, not_from_false, false≢true, false_from_ne_true}
use lib.Utf8.{scalars, scalar}
use Rattle.swc_ecma_codegen_common.specs.declared.versions.EsVersion.{EsVersion}
use Rattle.swc_ecma_codegen_grammar.specs.Chars.{is_digit, begins_digit}
use Rattle.swc_ecma_codegen_grammar.specs.Numbers.{is_hex, is_either}
use Rattle.swc_ecma_codegen_grammar.specs.CodeUnits.{utf16, begins_like, is_high_digit, short_escape, long_escape, escape_length, escape_unit, units_after}
use Rattle.swc_ecma_codegen_grammar.specs.declared.units.Place.TheVariants.{Between, Due, Unicode, Braced}
use Rattle.swc_ecma_codegen_grammar.specs.StringValues.{before, string_rest}
use Rattle.swc_ecma_codegen_literals.specs.StringTexts.{up_to_es5, below_es5, stands, escape_text, null_escape, backslash_escape, code_escape, hex_escape, unit_escape, pair_escape, braced_escape, spelled, spelled_all}
use Rattle.swc_ecma_codegen_literals.proofs.EscapeTexts.{chosen}
use Rattle.swc_ecma_codegen_literals.proofs.SpelledTexts.{spelled_run}
use Rattle.swc_ecma_codegen_literals.proofs.Fronts.{too_short, either_escape}
use Rattle.swc_ecma_codegen_literals.proofs.StringReads.{IsQuote, quote_small, not_quote, digit_low, digit_upper, digit_lower, braced_run, braced_ends, utf16_small, Read, escapes, unit_opens, braced_opens, hex_not, no_brace, escape_reads}

-- what a character that stands for itself isn't
pub record Bare (q c : ℕ) : Type 0 where
  pub no_quote : (c == q) ≡ false
  pub no_backslash : (c == 92) ≡ false
  pub no_line_end : is_either 10 13 c ≡ false

no_ends : (c : ℕ) → (c ≡ 10 → ⊥) → (c ≡ 13 → ⊥) → is_either 10 13 c ≡ false
unfolding is_either
no_ends c h g = or_from (c == 10) (c == 13) (ne_eqb c 10 h) (ne_eqb c 13 g)

pub stands_bare : (q : ℕ) (a : Bool) (v : EsVersion) (c : ℕ) → IsQuote q → stands q a v c ≡ true → Bare q c
unfolding stands
stands_bare q a v c h s = elim (cases_lt c 127) [
  | inl l ↦ low (rw (lt-ltb c 127 l) at s)
  | inr g ↦ high g
]
  where
    low : ((nat_le 32 c || (c == 9)) && not ((c == q) || (c == 92))) ≡ true → Bare q c
    low e =
        let p = and_parts (nat_le 32 c || (c == 9)) (not ((c == q) || (c == 92))) e in
        let n = or_parts (c == q) (c == 92) (not-true ((c == q) || (c == 92)) p.1) in
        let m : (32 ≤ c) ⊎ (c ≡ 9) = (elim (or_cases (nat_le 32 c) (c == 9) p.0) [ inl x ↦ inl (leb-true 32 c x) | inr x ↦ inr (eqb-true c 9 x) ]) in
        record {
          no_quote = n.0;
          no_backslash = n.1;
          no_line_end = no_ends c (λ x. elim m [ inl y ↦ omega arith | inr y ↦ omega arith ]) (λ x. elim m [ inl y ↦ omega arith | inr y ↦ omega arith ]);
        }

    high : 127 ≤ c → Bare q c
    high g = record { no_quote = not_quote q c h (omega arith); no_backslash = ne_eqb c 92 (λ x. omega arith); no_line_end = no_ends c (λ x. omega arith) (λ x. omega arith) }

pub bare_reads : (q c : ℕ) (t : List ℕ) → Bare q c → Read q Between (c ∷ t) ≡ before (utf16 c) (Read q Between t)
unfolding string_rest
bare_reads q c t b = rw (b.no_quote, b.no_backslash, b.no_line_end) refl

pub spelled_reads : (q : ℕ) (a : Bool) (v : EsVersion) (c : ℕ) (next t : List ℕ) → IsQuote q → c < 1114112 → begins_digit t ≡ begins_digit next → ((c == 92) ≡ true → nat_lt 0 (escape_length next) ≡ false) →
    Read q Between (spelled q a v c next ++ t) ≡ before (utf16 c) (Read q Between t)
unfolding spelled
spelled_reads q a v c next t h l d s = elim (cases_Bool (stands q a v c)) [
  | inl y ↦ rw y (bare_reads q c t (stands_bare q a v c h y))
  | inr n ↦ rw n (escape_reads q v c next t h l d s)
]

-- a spelled text begins with a digit where the text does
digit_stands : (q : ℕ) (a : Bool) (v : EsVersion) (c : ℕ) → IsQuote q → 48 ≤ c → c ≤ 125 → (c ≡ 92 → ⊥) → stands q a v c ≡ true
unfolding stands
digit_stands q a v c h l g n =
    rw (lt-ltb c 127 (omega arith), le-leb 32 c (omega arith)) (not_from_false ((c == q) || (c == 92)) (or_from (c == q) (c == 92) (not_quote q c h l) (ne_eqb c 92 n)))

escape_no_digit : (v : EsVersion) (c : ℕ) (next t : List ℕ) → begins_digit (escape_text v c next ++ t) ≡ false
unfolding escape_text null_escape backslash_escape code_escape hex_escape unit_escape pair_escape braced_escape begins_digit is_digit
escape_no_digit v c next t =
    let P : List ℕ → Type 0 = λ x. begins_digit (x ++ t) ≡ false in
    chosen P (c == 0) _ _ (λ _. chosen P (below_es5 v || begins_digit next) (codes "\\x00") (codes "\\0") (λ _. refl) (λ _. refl)) (λ _.
    chosen P (c == 8) _ _ (λ _. refl) (λ _.
    chosen P (c == 10) _ _ (λ _. refl) (λ _.
    chosen P (c == 11) _ _ (λ _. refl) (λ _.
    chosen P (c == 12) _ _ (λ _. refl) (λ _.
    chosen P (c == 13) _ _ (λ _. refl) (λ _.
    chosen P (c == 92) _ _ (λ _. chosen P (nat_lt 0 (escape_length next)) (codes "\\") (codes "\\\\") (λ _. refl) (λ _. refl)) (λ _.
    chosen P (c == 34) _ _ (λ _. refl) (λ _.
    chosen P (c == 39) _ _ (λ _. refl) (λ _.
    chosen P (nat_lt c 256) _ _ (λ _. refl) (λ _.
    chosen P (nat_lt c 65536) _ _ (λ _. refl) (λ _.
    chosen P (up_to_es5 v) _ _ (λ _. refl) (λ _. refl))))))))))))

digit_range : (c : ℕ) → is_digit c ≡ true → (48 ≤ c) × (c ≤ 57)
unfolding is_digit
digit_range c h = let p = and_parts (nat_le 48 c) (nat_le c 57) h in (leb-true 48 c p.0, leb-true c 57 p.1)

quote_no_digit : (q : ℕ) → IsQuote q → is_digit q ≡ false
quote_no_digit q h = let s = quote_small q h in false_from_ne_true (is_digit q) (λ d. let r = (digit_range q d).0 in omega arith)

pub spelled_digit : (q : ℕ) (a : Bool) (v : EsVersion) (cs : List ℕ) → IsQuote q → begins_digit (spelled_all q a v cs ++ q ∷ []) ≡ begins_digit cs
unfolding spelled_all spelled begins_digit
spelled_digit q a v [] h = quote_no_digit q h
spelled_digit q a v (c ∷ cs) h = elim (cases_Bool (stands q a v c)) [
  | inl y ↦ rw y refl
  | inr n ↦ rw (n, append_assoc) (escape_no_digit v c cs (spelled_all q a v cs ++ q ∷ []) ∙ sym (false_from_ne_true (is_digit c) (λ d. let r = digit_range c d in false≢true (sym n ∙ digit_stands q a v c h r.0 (omega (arith, r.1)) (λ e. omega (arith, e, r.1))))))
]

-- hexadecimal digits: their places and their values
pub data HexRange (c : ℕ) : Type 0 where
  Number : 48 ≤ c → c < 58 → HexRange c
  Upper : 65 ≤ c → c < 71 → HexRange c
  Lower : 97 ≤ c → c < 103 → HexRange c

pub hex_range : (c : ℕ) → is_hex c ≡ true → HexRange c
unfolding is_hex
hex_range c h =
    elim (or_cases (is_digit c) ((nat_le 65 c && nat_le c 70) || (nat_le 97 c && nat_le c 102)) h) [
      | inl d ↦ let r = digit_range c d in Number r.0 (omega (arith, r.1))
      | inr d ↦ elim (or_cases (nat_le 65 c && nat_le c 70) (nat_le 97 c && nat_le c 102) d) [
        | inl u ↦ let p = and_parts (nat_le 65 c) (nat_le c 70) u in let l : c ≤ 70 = leb-true c 70 p.1 in Upper (leb-true 65 c p.0) (omega arith)
        | inr u ↦ let p = and_parts (nat_le 97 c) (nat_le c 102) u in let l : c ≤ 102 = leb-true c 102 p.1 in Lower (leb-true 97 c p.0) (omega arith)
      ]
    ]

pub hex_value_small : (c : ℕ) → is_hex c ≡ true → digit_value c < 16
hex_value_small c h = by_range (hex_range c h)
  where
    by_range : HexRange c → digit_value c < 16
    by_range (Number l g) = let e = digit_low c l g in omega arith
    by_range (Upper l g) = let e = digit_upper c l (omega arith) in omega arith
    by_range (Lower l g) = let e = digit_lower c l (omega arith) in omega arith

hex_stands : (q : ℕ) (a : Bool) (v : EsVersion) (c : ℕ) → IsQuote q → is_hex c ≡ true → stands q a v c ≡ true
hex_stands q a v c h x = by_range (hex_range c x)
  where
    by_range : HexRange c → stands q a v c ≡ true
    by_range (Number l g) = digit_stands q a v c h l (omega arith) (λ e. omega arith)
    by_range (Upper l g) = digit_stands q a v c h (omega arith) (omega arith) (λ e. omega arith)
    by_range (Lower l g) = digit_stands q a v c h (omega arith) (omega arith) (λ e. omega arith)

letter_d_hex : (c : ℕ) → is_either 68 100 c ≡ true → is_hex c ≡ true
unfolding is_either is_hex is_digit
letter_d_hex c h = elim (or_cases (c == 68) (c == 100) h) [ inl e ↦ rw (eqb-true c 68 e) refl | inr e ↦ rw (eqb-true c 100 e) refl ]

high_hex : (c : ℕ) → is_high_digit c ≡ true → is_hex c ≡ true
unfolding is_high_digit
high_hex c h = (and_parts (is_hex c) (nat_le 56 c) h).0

-- four digits of a surrogate
pub record FourHex (a b c d : ℕ) : Type 0 where
  pub first : is_hex a ≡ true
  pub second : is_hex b ≡ true
  pub third : is_hex c ≡ true
  pub fourth : is_hex d ≡ true

four_hex : (a b c d : ℕ) (more : Bool) → (is_either 68 100 a && (is_high_digit b && (is_hex c && (is_hex d && more)))) ≡ true → FourHex a b c d × (more ≡ true)
four_hex a b c d more h =
    let p = and_parts (is_either 68 100 a) (is_high_digit b && (is_hex c && (is_hex d && more))) h in
    let r = and_parts (is_high_digit b) (is_hex c && (is_hex d && more)) p.1 in
    let s = and_parts (is_hex c) (is_hex d && more) r.1 in
    let t = and_parts (is_hex d) more s.1 in
    (record { first = letter_d_hex a p.0; second = high_hex b r.0; third = s.0; fourth = t.0 }, t.1)

due_hex : (q n value c : ℕ) (t : List ℕ) → is_hex c ≡ true → Read q (Due (suc (suc n)) value) (c ∷ t) ≡ Read q (Due (suc n) (value * 16 + digit_value c)) t
unfolding string_rest
due_hex q n value c t h = rw h refl

due_hex_last : (q value c : ℕ) (t : List ℕ) → is_hex c ≡ true → Read q (Due 1 value) (c ∷ t) ≡ before ((value * 16 + digit_value c) ∷ []) (Read q Between t)
unfolding string_rest
due_hex_last q value c t h = rw h refl

unit_hex : (q c : ℕ) (t : List ℕ) → is_hex c ≡ true → Read q Unicode (c ∷ t) ≡ Read q (Due 3 (digit_value c)) t
unfolding string_rest
unit_hex q c t h = rw (hex_not c 123 h no_brace, h) refl

short_reads : (q a b c d : ℕ) (t : List ℕ) → IsQuote q → FourHex a b c d → Read q Between (92 ∷ 117 ∷ a ∷ b ∷ c ∷ d ∷ t) ≡ before (digits_value 16 (a ∷ b ∷ c ∷ d ∷ []) ∷ []) (Read q Between t)
short_reads q a b c d t h f =
    let e : 0 * 16 + digit_value a ≡ digit_value a = omega arith in
    escapes q (117 ∷ a ∷ b ∷ c ∷ d ∷ t) h ∙
    (unit_opens q (a ∷ b ∷ c ∷ d ∷ t) ∙
    (unit_hex q a (b ∷ c ∷ d ∷ t) f.first ∙
    (ap (λ n. Read q (Due 3 n) (b ∷ c ∷ d ∷ t)) (sym e) ∙
    (due_hex q 1 (0 * 16 + digit_value a) b (c ∷ d ∷ t) f.second ∙
    (due_hex q 0 ((0 * 16 + digit_value a) * 16 + digit_value b) c (d ∷ t) f.third ∙
    due_hex_last q (((0 * 16 + digit_value a) * 16 + digit_value b) * 16 + digit_value c) d t f.fourth)))))

long_reads : (q a b c d : ℕ) (t : List ℕ) → IsQuote q → FourHex a b c d → Read q Between (92 ∷ 117 ∷ 123 ∷ a ∷ b ∷ c ∷ d ∷ 125 ∷ t) ≡ before (digits_value 16 (a ∷ b ∷ c ∷ d ∷ []) ∷ []) (Read q Between t)
long_reads q a b c d t h f =
    let ds = a ∷ b ∷ c ∷ d ∷ [] in
    let l1 = hex_value_small a f.first in
    let l2 = hex_value_small b f.second in
    let l3 = hex_value_small c f.third in
    let l4 = hex_value_small d f.fourth in
    let small : digits_value 16 ds < 65536 = omega arith in
    escapes q (117 ∷ 123 ∷ a ∷ b ∷ c ∷ d ∷ 125 ∷ t) h ∙
    (unit_opens q (123 ∷ a ∷ b ∷ c ∷ d ∷ 125 ∷ t) ∙
    (braced_opens q (a ∷ b ∷ c ∷ d ∷ 125 ∷ t) ∙
    (braced_run q 0 false ds (125 ∷ t) (l1, (l2, (l3, (l4, tt)))) ∙
    (ap (λ s. Read q (Braced s (digits_value 16 ds)) (125 ∷ t)) four ∙
    (braced_ends q (digits_value 16 ds) t (omega arith) ∙
    ap (λ u. before u (Read q Between t)) (utf16_small (digits_value 16 ds) small))))))
  where
    four : (false || nat_lt 0 (length (a ∷ b ∷ c ∷ d ∷ []))) ≡ true
    four = lt-ltb 0 (length (a ∷ b ∷ c ∷ d ∷ [])) (omega arith)

-- the rest of a text after a written surrogate escape, as it is read and in units
pub record Skips (q : ℕ) (a : Bool) (v : EsVersion) (cs : List ℕ) : Type 0 where
  pub rest : List ℕ
  pub shorter : length rest < length cs
  pub chars : scalars cs ≡ true → scalars rest ≡ true
  pub reads : (t : List ℕ) → Read q Between (92 ∷ (spelled_all q a v cs ++ t)) ≡ before (escape_unit cs ∷ []) (Read q Between (spelled_all q a v rest ++ t))
  pub has_units : units_after (escape_length cs) cs ≡ units_after 0 rest

stand_spelled : (q : ℕ) (a : Bool) (v : EsVersion) (run rest t : List ℕ) → list_all (stands q a v) run ≡ true → spelled_all q a v (run ++ rest) ++ t ≡ run ++ (spelled_all q a v rest ++ t)
stand_spelled q a v run rest t h = ap (λ x. x ++ t) (spelled_run q a v run rest h) ∙ append_assoc run (spelled_all q a v rest) t

all_two : (p : ℕ → Bool) (c : ℕ) (cs : List ℕ) → p c ≡ true → list_all p cs ≡ true → list_all p (c ∷ cs) ≡ true
all_two p c cs h g = and_from (p c) (list_all p cs) h g

pub scalars_rest : (c : ℕ) (cs : List ℕ) → scalars (c ∷ cs) ≡ true → scalars cs ≡ true
scalars_rest c cs h = (and_parts (scalar c) (scalars cs) h).1

unit_of_short : (u w x y z : ℕ) (more : List ℕ) → begins_like short_escape (u ∷ w ∷ x ∷ y ∷ z ∷ more) ≡ true → escape_unit (u ∷ w ∷ x ∷ y ∷ z ∷ more) ≡ digits_value 16 (w ∷ x ∷ y ∷ z ∷ [])
unfolding escape_unit
unit_of_short u w x y z more e = rw e refl

units_of_short : (u w x y z : ℕ) (more : List ℕ) → begins_like short_escape (u ∷ w ∷ x ∷ y ∷ z ∷ more) ≡ true → units_after (escape_length (u ∷ w ∷ x ∷ y ∷ z ∷ more)) (u ∷ w ∷ x ∷ y ∷ z ∷ more) ≡ units_after 0 more
unfolding escape_length units_after
units_of_short u w x y z more e = rw e refl

short_skips : (q : ℕ) (a : Bool) (v : EsVersion) (cs : List ℕ) → IsQuote q → begins_like short_escape cs ≡ true → Skips q a v cs
unfolding begins_like short_escape
short_skips q a v [] h e = absurd (false≢true e)
short_skips q a v (u ∷ []) h e = absurd (false≢true (and_parts (u == 117) false e).1)
short_skips q a v (u ∷ w ∷ []) h e = absurd (false≢true (and_parts (is_either 68 100 w) false (and_parts (u == 117) (is_either 68 100 w && false) e).1).1)
short_skips q a v (u ∷ w ∷ x ∷ []) h e = absurd (false≢true (and_parts (is_high_digit x) false (and_parts (is_either 68 100 w) (is_high_digit x && false) (and_parts (u == 117) (is_either 68 100 w && (is_high_digit x && false)) e).1).1).1)
short_skips q a v (u ∷ w ∷ x ∷ y ∷ []) h e = absurd (false≢true (and_parts (is_hex y) false (and_parts (is_high_digit x) (is_hex y && false) (and_parts (is_either 68 100 w) (is_high_digit x && (is_hex y && false)) (and_parts (u == 117) (is_either 68 100 w && (is_high_digit x && (is_hex y && false))) e).1).1).1).1)
short_skips q a v (u ∷ w ∷ x ∷ y ∷ z ∷ more) h e =
    let p = and_parts (u == 117) (is_either 68 100 w && (is_high_digit x && (is_hex y && (is_hex z && true)))) e in
    let f : FourHex w x y z = (four_hex w x y z true p.1).0 in
    let u_is : u ≡ 117 = eqb-true u 117 p.0 in
    let S : ℕ → Bool = stands q a v in
    let u_stands : stands q a v u ≡ true = subst (λ k. stands q a v k ≡ true) (sym u_is) (digit_stands q a v 117 h (omega arith) (omega arith) (λ k. omega (arith, k))) in
    let all : list_all (stands q a v) (u ∷ w ∷ x ∷ y ∷ z ∷ []) ≡ true =
    all_two S u (w ∷ x ∷ y ∷ z ∷ []) u_stands (all_two S w (x ∷ y ∷ z ∷ []) (hex_stands q a v w h f.first) (all_two S x (y ∷ z ∷ []) (hex_stands q a v x h f.second) (all_two S y (z ∷ []) (hex_stands q a v y h f.third) (all_two S z [] (hex_stands q a v z h f.fourth) refl)))) in
    record {
      rest = more;
      shorter = omega arith;
      chars = λ k. scalars_rest z more (scalars_rest y (z ∷ more) (scalars_rest x (y ∷ z ∷ more) (scalars_rest w (x ∷ y ∷ z ∷ more) (scalars_rest u (w ∷ x ∷ y ∷ z ∷ more) k))));
      reads = λ t.
          ap (λ r. Read q Between (92 ∷ r)) (stand_spelled q a v (u ∷ w ∷ x ∷ y ∷ z ∷ []) more t all) ∙
          (ap (λ k. Read q Between (92 ∷ k ∷ w ∷ x ∷ y ∷ z ∷ (spelled_all q a v more ++ t))) u_is ∙
          (short_reads q w x y z (spelled_all q a v more ++ t) h f ∙
          ap (λ k. before (k ∷ []) (Read q Between (spelled_all q a v more ++ t))) (sym (unit_of_short u w x y z more e))));
      has_units = units_of_short u w x y z more e;
    }

seven : (t : List ℕ) → 7 ≤ length t → (a : ℕ) × (b : ℕ) × (c : ℕ) × (d : ℕ) × (e : ℕ) × (f : ℕ) × (g : ℕ) × (more : List ℕ) × (t ≡ a ∷ b ∷ c ∷ d ∷ e ∷ f ∷ g ∷ more)
seven [] l = absurd (omega (arith, l))
seven (a ∷ []) l = absurd (omega (arith, l))
seven (a ∷ b ∷ []) l = absurd (omega (arith, l))
seven (a ∷ b ∷ c ∷ []) l = absurd (omega (arith, l))
seven (a ∷ b ∷ c ∷ d ∷ []) l = absurd (omega (arith, l))
seven (a ∷ b ∷ c ∷ d ∷ e ∷ []) l = absurd (omega (arith, l))
seven (a ∷ b ∷ c ∷ d ∷ e ∷ f ∷ []) l = absurd (omega (arith, l))
seven (a ∷ b ∷ c ∷ d ∷ e ∷ f ∷ g ∷ more) l = (a, b, c, d, e, f, g, more, refl)

unit_of_long : (u o w x y z e : ℕ) (more : List ℕ) → begins_like short_escape (u ∷ o ∷ w ∷ x ∷ y ∷ z ∷ e ∷ more) ≡ false → escape_unit (u ∷ o ∷ w ∷ x ∷ y ∷ z ∷ e ∷ more) ≡ digits_value 16 (w ∷ x ∷ y ∷ z ∷ [])
unfolding escape_unit
unit_of_long u o w x y z e more s = rw s refl

units_of_long : (u o w x y z e : ℕ) (more : List ℕ) → begins_like short_escape (u ∷ o ∷ w ∷ x ∷ y ∷ z ∷ e ∷ more) ≡ false → begins_like long_escape (u ∷ o ∷ w ∷ x ∷ y ∷ z ∷ e ∷ more) ≡ true → units_after (escape_length (u ∷ o ∷ w ∷ x ∷ y ∷ z ∷ e ∷ more)) (u ∷ o ∷ w ∷ x ∷ y ∷ z ∷ e ∷ more) ≡ units_after 0 more
unfolding escape_length units_after
units_of_long u o w x y z e more s l = rw (s, l) refl

long_parts : (u o w x y z e : ℕ) (more : List ℕ) → begins_like long_escape (u ∷ o ∷ w ∷ x ∷ y ∷ z ∷ e ∷ more) ≡ true → (u ≡ 117) × (o ≡ 123) × (e ≡ 125) × FourHex w x y z
unfolding begins_like long_escape
long_parts u o w x y z e more h =
    let p = and_parts (u == 117) ((o == 123) && (is_either 68 100 w && (is_high_digit x && (is_hex y && (is_hex z && ((e == 125) && true)))))) h in
    let r = and_parts (o == 123) (is_either 68 100 w && (is_high_digit x && (is_hex y && (is_hex z && ((e == 125) && true))))) p.1 in
    let f = four_hex w x y z ((e == 125) && true) r.1 in
    (eqb-true u 117 p.0, eqb-true o 123 r.0, eqb-true e 125 (and_parts (e == 125) true f.1).0, f.0)

not_92_117 : ◌≡◌ {A = ℕ} 117 92 → ⊥
not_92_117 e = omega (arith, e)

not_92_123 : ◌≡◌ {A = ℕ} 123 92 → ⊥
not_92_123 e = omega (arith, e)

not_92_125 : ◌≡◌ {A = ℕ} 125 92 → ⊥
not_92_125 e = omega (arith, e)

seven_shorter : (u o w x y z e : ℕ) (more : List ℕ) → length more < length (u ∷ o ∷ w ∷ x ∷ y ∷ z ∷ e ∷ more)
seven_shorter u o w x y z e more = omega arith

like_length : (ps : List (ℕ → Bool)) (t : List ℕ) → begins_like ps t ≡ true → length ps ≤ length t
like_length ps t h = elim (cases_lt (length t) (length ps)) [ inl l ↦ absurd (false≢true (sym (too_short ps t l) ∙ h)) | inr g ↦ g ]

long_from : (cs : List ℕ) → begins_like short_escape cs ≡ false → nat_lt 0 (escape_length cs) ≡ true → begins_like long_escape cs ≡ true
long_from cs n e = sym (ap (λ b. b || begins_like long_escape cs) n) ∙ (sym (either_escape cs) ∙ e)

long_skips_at : (q : ℕ) (a : Bool) (v : EsVersion) (u o w x y z e : ℕ) (more : List ℕ) → IsQuote q → begins_like short_escape (u ∷ o ∷ w ∷ x ∷ y ∷ z ∷ e ∷ more) ≡ false → begins_like long_escape (u ∷ o ∷ w ∷ x ∷ y ∷ z ∷ e ∷ more) ≡ true → Skips q a v (u ∷ o ∷ w ∷ x ∷ y ∷ z ∷ e ∷ more)
long_skips_at q a v u o w x y z e more h s l =
    let p = long_parts u o w x y z e more l in
    let f : FourHex w x y z = p.3 in
    let S : ℕ → Bool = stands q a v in
    let one : (k n : ℕ) → k ≡ n → 48 ≤ n → n ≤ 125 → (n ≡ 92 → ⊥) → stands q a v k ≡ true = λ k n i g m b. subst (λ j. stands q a v j ≡ true) (sym i) (digit_stands q a v n h g m b) in
    let run = u ∷ o ∷ w ∷ x ∷ y ∷ z ∷ e ∷ [] in
    let all : list_all (stands q a v) (u ∷ o ∷ w ∷ x ∷ y ∷ z ∷ e ∷ []) ≡ true =
    all_two S u (o ∷ w ∷ x ∷ y ∷ z ∷ e ∷ []) (one u 117 p.0 (omega arith) (omega arith) not_92_117) (all_two S o (w ∷ x ∷ y ∷ z ∷ e ∷ []) (one o 123 p.1 (omega arith) (omega arith) not_92_123) (all_two S w (x ∷ y ∷ z ∷ e ∷ []) (hex_stands q a v w h f.first) (all_two S x (y ∷ z ∷ e ∷ []) (hex_stands q a v x h f.second) (all_two S y (z ∷ e ∷ []) (hex_stands q a v y h f.third) (all_two S z (e ∷ []) (hex_stands q a v z h f.fourth) (all_two S e [] (one e 125 p.2 (omega arith) (omega arith) not_92_125) refl)))))) in
    record {
      rest = more;
      shorter = seven_shorter u o w x y z e more;
      chars = λ k. scalars_rest e more (scalars_rest z (e ∷ more) (scalars_rest y (z ∷ e ∷ more) (scalars_rest x (y ∷ z ∷ e ∷ more) (scalars_rest w (x ∷ y ∷ z ∷ e ∷ more) (scalars_rest o (w ∷ x ∷ y ∷ z ∷ e ∷ more) (scalars_rest u (o ∷ w ∷ x ∷ y ∷ z ∷ e ∷ more) k))))));
      reads = λ t.
          let X = spelled_all q a v more ++ t in
          ap (λ r. Read q Between (92 ∷ r)) (stand_spelled q a v (u ∷ o ∷ w ∷ x ∷ y ∷ z ∷ e ∷ []) more t all) ∙
          (ap (λ k. Read q Between (92 ∷ k ∷ o ∷ w ∷ x ∷ y ∷ z ∷ e ∷ X)) p.0 ∙
          (ap (λ k. Read q Between (92 ∷ 117 ∷ k ∷ w ∷ x ∷ y ∷ z ∷ e ∷ X)) p.1 ∙
          (ap (λ k. Read q Between (92 ∷ 117 ∷ 123 ∷ w ∷ x ∷ y ∷ z ∷ k ∷ X)) p.2 ∙
          (long_reads q w x y z X h f ∙
          ap (λ k. before (k ∷ []) (Read q Between X)) (sym (unit_of_long u o w x y z e more s))))));
      has_units = units_of_long u o w x y z e more s l;
    }

pub skips : (q : ℕ) (a : Bool) (v : EsVersion) (cs : List ℕ) → IsQuote q → nat_lt 0 (escape_length cs) ≡ true → Skips q a v cs
unfolding long_escape
skips q a v cs h e = elim (cases_Bool (begins_like short_escape cs)) [
  | inl y ↦ short_skips q a v cs h y
  | inr n ↦
      let l : begins_like long_escape cs ≡ true = long_from cs n e in
      let p = seven cs (like_length long_escape cs l) in
      subst (λ x. Skips q a v x) (sym p.8) (long_skips_at q a v p.0 p.1 p.2 p.3 p.4 p.5 p.6 p.7 h (ap (begins_like short_escape) (sym p.8) ∙ n) (ap (begins_like long_escape) (sym p.8) ∙ l))
]
