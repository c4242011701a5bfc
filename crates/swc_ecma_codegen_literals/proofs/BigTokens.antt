-- A sign, the prefix of a radix, its digits and `n` are a punctuator and a big integer.
use Rattle.std.proofs.Common.{Bool, List, [], ap, append_assoc, arith, codes, drop, false, if◌then◌else◌, inl, inr, nat_le, not, refl, subst, sym, true, ℕ, ◌&&◌, ◌++◌, ◌==◌, ◌||◌, ◌∙◌, ◌∷◌, ◌≡◌, ◌≤◌}
use Rattle.std.specs.List.{list_all}
use Rattle.std.specs.Str.{IsAscii, IsUtf8, chars}
use Rattle.std.specs.String.{string_bytes}
use Rattle.std.proofs.lemmas.Bool.{and_from, and_parts, cases_Bool, cond-false, eqb-true, false≢true, le-leb, leb-true, lt-ltb, ne_eqb, not-true, or_cases, or_from}
use Rattle.std.proofs.lemmas.Str.{IsAscii-append, IsUtf8-string_bytes, chars-IsAscii, encodes-IsAscii, encodes-chars}
use Rattle.swc_ecma_codegen_tree.specs.declared.lits.BigInt.{BigInt}
use Rattle.swc_ecma_codegen_tree.specs.declared.lits.Radix.{Radix}
use Rattle.swc_ecma_codegen_tree.specs.declared.lits.Radix.TheVariants.{Binary, Octal, Decimal as Ten, Hex}
use Rattle.swc_ecma_codegen_grammar.specs.Chars.{begins_digit, is_digit}
use Rattle.swc_ecma_codegen_grammar.specs.Texts.{is_empty}
use Rattle.swc_ecma_codegen_grammar.specs.Numbers.{after_zero, big_digits, digits_in, has_suffix, integer, is_big_integer, is_binary, is_either, is_hex, is_numeric, is_octal, radix, radix_of}
use Rattle.swc_ecma_codegen_grammar.proofs.Conditions.{else_so, then_so}
use Rattle.swc_ecma_codegen_grammar.specs.LitPhrases.{are_digits, has_no_leading_zero, is_digit_of, radix_number}
use Rattle.swc_ecma_codegen_literals.specs.BigIntegers.{IsBigInteger, IsSignedInteger, big_part, big_text, radix_prefix}
use Rattle.swc_ecma_codegen_literals.specs.NumberTexts.{sign_text}
use Rattle.swc_ecma_codegen_literals.specs.Separators.{without_underscores}
use Rattle.swc_ecma_codegen_literals.proofs.DecimalTexts.{sign_ascii}
use Rattle.swc_ecma_codegen_literals.proofs.EscapeTexts.{is_ascii_char}
use Rattle.swc_ecma_codegen_literals.proofs.Fronts.{hex_ascii}
use Rattle.swc_ecma_codegen_literals.proofs.NumberLiterals.{all_weaker}
use Rattle.swc_ecma_codegen_literals.proofs.Numerals.{integer_run}
use Rattle.swc_ecma_codegen_literals.proofs.SeparatedNumbers.{kept}
use Rattle.swc_ecma_codegen_literals.proofs.SeparatedTexts.{ascii_without}
use Rattle.swc_ecma_codegen_literals.proofs.SpelledTexts.{ascii_from_all}

-- the suffix
abbrev suffix : List ℕ
suffix = codes "n"

-- ---- what every digit is: in ASCII, no `_` and no `n`

-- a digit of some radix
abbrev pub Digit : (ℕ → Bool) → Type 0
Digit among = (c : ℕ) → among c ≡ true → is_hex c ≡ true

binary_digit : Digit is_binary
unfolding is_binary is_hex is_digit
binary_digit c h = elim (or_cases (c == 48) (c == 49) h) [
  | inl x ↦ ap is_hex (eqb-true c 48 x)
  | inr x ↦ ap is_hex (eqb-true c 49 x)
]

decimal_digit : Digit is_digit
unfolding is_hex
decimal_digit c h = ap (λ b. b || ((nat_le 65 c && nat_le c 70) || (nat_le 97 c && nat_le c 102))) h

octal_digit : Digit is_octal
unfolding is_octal is_digit
octal_digit c h =
    let p = and_parts (nat_le 48 c) (nat_le c 55) h in
    let l : c ≤ 55 = leb-true c 55 p.1 in
    decimal_digit c (and_from (nat_le 48 c) (nat_le c 57) p.0 (le-leb c 57 (omega arith)))

all_hex : (among : ℕ → Bool) → Digit among → (ds : List ℕ) → list_all among ds ≡ true → list_all is_hex ds ≡ true
all_hex among d ds h = all_weaker among is_hex d ds h

other_than : (c a : ℕ) → is_hex a ≡ false → is_hex c ≡ true → (c == a) ≡ false
other_than c a n h = ne_eqb c a (λ e. false≢true (sym n ∙ (ap is_hex (sym e) ∙ h)))

-- digits without `_` are these digits
hex_without : (ds : List ℕ) → list_all is_hex ds ≡ true → without_underscores ds ≡ ds
unfolding is_hex is_digit
hex_without [] h = refl
hex_without (d ∷ ds) h =
    let p = and_parts (is_hex d) (list_all is_hex ds) h in
    kept d ds (other_than d 95 refl p.0) ∙ ap (λ x. d ∷ x) (hex_without ds p.1)

-- and so they are where they stand before the suffix
digits_before : (ds : List ℕ) → list_all is_hex ds ≡ true → digits_in (ds ++ suffix) ≡ ds
unfolding digits_in is_hex is_digit
digits_before [] h = refl
digits_before (d ∷ ds) h =
    let p = and_parts (is_hex d) (list_all is_hex ds) h in
    cond-false ((d == 95) || (d == 110)) _ _ (or_from (d == 95) (d == 110) (other_than d 95 refl p.0) (other_than d 110 refl p.0)) ∙ ap (λ x. d ∷ x) (digits_before ds p.1)

ends : (ds : List ℕ) → has_suffix (ds ++ suffix) ≡ true
unfolding has_suffix
ends [] = refl
ends (d ∷ []) = refl
ends (d ∷ e ∷ ds) = ends (e ∷ ds)

-- ---- after a prefix

radix_more : (among : ℕ → Bool) → among 110 ≡ false → (ds : List ℕ) → list_all among ds ≡ true → radix among false (ds ++ suffix) ≡ true
unfolding radix is_empty
radix_more among n [] h = else_so (among 110) (radix among false []) true n refl
radix_more among n (d ∷ ds) h =
    let p = and_parts (among d) (list_all among ds) h in
    then_so (among d) (radix among false (ds ++ suffix)) _ p.0 (radix_more among n ds p.1)

radix_starts : (among : ℕ → Bool) → among 110 ≡ false → (ds : List ℕ) → is_empty ds ≡ false → list_all among ds ≡ true → radix among true (ds ++ suffix) ≡ true
unfolding radix is_empty
radix_starts among n [] s h = absurd (false≢true (sym s))
radix_starts among n (d ∷ ds) s h =
    let p = and_parts (among d) (list_all among ds) h in
    then_so (among d) (radix among false (ds ++ suffix)) _ p.0 (radix_more among n ds p.1)

hex_token : (ds : List ℕ) → is_empty ds ≡ false → list_all is_hex ds ≡ true → IsBigInteger Hex ds (codes "0x" ++ (ds ++ suffix))
unfolding is_big_integer is_numeric after_zero radix_of radix_number big_digits is_hex is_digit is_either
hex_token ds s h = record { shape = and_from _ _ (radix_starts is_hex refl ds s h) (ends (codes "0x" ++ ds)); base = refl; value = digits_before ds h }

octal_token : (ds : List ℕ) → is_empty ds ≡ false → list_all is_octal ds ≡ true → IsBigInteger Octal ds (codes "0o" ++ (ds ++ suffix))
unfolding is_big_integer is_numeric after_zero radix_of radix_number big_digits is_octal is_digit is_either
octal_token ds s h = record { shape = and_from _ _ (radix_starts is_octal refl ds s h) (ends (codes "0o" ++ ds)); base = refl; value = digits_before ds (all_hex is_octal octal_digit ds h) }

binary_token : (ds : List ℕ) → is_empty ds ≡ false → list_all is_binary ds ≡ true → IsBigInteger Binary ds (codes "0b" ++ (ds ++ suffix))
unfolding is_big_integer is_numeric after_zero radix_of radix_number big_digits is_binary is_digit is_either
binary_token ds s h = record { shape = and_from _ _ (radix_starts is_binary refl ds s h) (ends (codes "0b" ++ ds)); base = refl; value = digits_before ds (all_hex is_binary binary_digit ds h) }

-- ---- in decimal

zero_alone : (cs : List ℕ) → is_empty cs ≡ true → after_zero (cs ++ suffix) ≡ true
unfolding after_zero is_empty is_digit is_either
zero_alone [] h = refl
zero_alone (d ∷ ds) h = absurd (false≢true h)

suffix_alone : integer false suffix ≡ true
unfolding integer is_empty is_digit is_either
suffix_alone = refl

decimal_numeric : (c : ℕ) (cs : List ℕ) → list_all is_digit (c ∷ cs) ≡ true → (not (c == 48) || is_empty cs) ≡ true → is_numeric (c ∷ (cs ++ suffix)) ≡ true
unfolding is_numeric
decimal_numeric c cs h z =
    let p = and_parts (is_digit c) (list_all is_digit cs) h in
    elim (cases_Bool (c == 48)) [
      | inl y ↦ then_so (c == 48) (after_zero (cs ++ suffix)) _ y (zero_alone cs (sym (ap (λ b. not b || is_empty cs) y) ∙ z))
      | inr n ↦ else_so (c == 48) _ _ n (then_so (is_digit c) (integer false (cs ++ suffix)) _ p.0 (integer_run cs suffix p.1 ∙ suffix_alone))
    ]

-- the second character is a digit or `n`, and no letter of a prefix
second_tens : (c d : ℕ) (ds : List ℕ) → is_digit d ≡ true → radix_of (c ∷ d ∷ ds) ≡ 10
unfolding radix_of is_either is_digit
second_tens c d ds h =
    let n : (a : ℕ) → is_digit a ≡ false → (d == a) ≡ false = λ a m. ne_eqb d a (λ e. false≢true (sym m ∙ (ap is_digit (sym e) ∙ h))) in
    cond-false ((d == 120) || (d == 88)) _ _ (or_from (d == 120) (d == 88) (n 120 refl) (n 88 refl))
    ∙ (cond-false ((d == 111) || (d == 79)) _ _ (or_from (d == 111) (d == 79) (n 111 refl) (n 79 refl))
    ∙ cond-false ((d == 98) || (d == 66)) _ _ (or_from (d == 98) (d == 66) (n 98 refl) (n 66 refl)))

decimal_base : (c : ℕ) (cs : List ℕ) → list_all is_digit cs ≡ true → radix_of (c ∷ (cs ++ suffix)) ≡ 10
unfolding radix_of is_either
decimal_base c [] h = refl
decimal_base c (d ∷ ds) h = second_tens c d (ds ++ suffix) (and_parts (is_digit d) (list_all is_digit ds) h).0

decimal_value : (text : List ℕ) → radix_of text ≡ 10 → big_digits text ≡ digits_in text
unfolding big_digits
decimal_value text h = ap (λ r. digits_in (if r == 10 then text else drop 2 text)) h

decimal_token : (ds : List ℕ) → is_empty ds ≡ false → list_all is_digit ds ≡ true → has_no_leading_zero ds ≡ true → IsBigInteger Ten ds (ds ++ suffix)
unfolding is_big_integer radix_number has_no_leading_zero is_empty
decimal_token [] s h z = absurd (false≢true (sym s))
decimal_token (c ∷ cs) s h z =
    let b = decimal_base c cs (and_parts (is_digit c) (list_all is_digit cs) h).1 in
    record {
      shape = and_from (is_numeric (c ∷ (cs ++ suffix))) _ (decimal_numeric c cs h z) (ends (c ∷ cs));
      base = b;
      value = decimal_value (c ∷ (cs ++ suffix)) b ∙ digits_before (c ∷ cs) (all_hex is_digit decimal_digit (c ∷ cs) h);
    }

-- ---- in any radix

-- what well-formed digits are
pub record Formed (r : Radix) (ds : List ℕ) : Type 0 where
  pub some : is_empty ds ≡ false
  pub each : list_all is_hex ds ≡ true
  pub first : begins_digit (radix_prefix r ++ ds) ≡ true
  pub token : IsBigInteger r ds (radix_prefix r ++ (ds ++ suffix))

decimal_first : (ds : List ℕ) → is_empty ds ≡ false → list_all is_digit ds ≡ true → begins_digit ds ≡ true
unfolding is_empty begins_digit
decimal_first [] s h = absurd (false≢true (sym s))
decimal_first (d ∷ ds) s h = (and_parts (is_digit d) (list_all is_digit ds) h).0

formed : (r : Radix) (ds : List ℕ) → are_digits r ds ≡ true → Formed r ds
unfolding are_digits is_digit_of radix_prefix begins_digit is_digit
formed Ten ds h =
    let p = and_parts (not (is_empty ds)) (list_all is_digit ds && has_no_leading_zero ds) h in
    let q = and_parts (list_all is_digit ds) (has_no_leading_zero ds) p.1 in
    let s = not-true (is_empty ds) p.0 in
    record { some = s; each = all_hex is_digit decimal_digit ds q.0; first = decimal_first ds s q.0; token = decimal_token ds s q.0 q.1 }
formed Binary ds h =
    let p = and_parts (not (is_empty ds)) (list_all is_binary ds) h in
    let s = not-true (is_empty ds) p.0 in
    record { some = s; each = all_hex is_binary binary_digit ds p.1; first = refl; token = binary_token ds s p.1 }
formed Octal ds h =
    let p = and_parts (not (is_empty ds)) (list_all is_octal ds) h in
    let s = not-true (is_empty ds) p.0 in
    record { some = s; each = all_hex is_octal octal_digit ds p.1; first = refl; token = octal_token ds s p.1 }
formed Hex ds h =
    let p = and_parts (not (is_empty ds)) (list_all is_hex ds) h in
    let s = not-true (is_empty ds) p.0 in
    record { some = s; each = p.1; first = refl; token = hex_token ds s p.1 }

-- ---- bytes

hex_is_ascii : (c : ℕ) → is_hex c ≡ true → is_ascii_char c ≡ true
hex_is_ascii c h = lt-ltb c 128 (hex_ascii c h)

-- hexadecimal digits are their own bytes
hex_bytes : (bs : List ℕ) → IsUtf8 bs → list_all is_hex (chars bs) ≡ true → chars bs ≡ bs
hex_bytes bs u h =
    let i : IsAscii (chars bs) = ascii_from_all (chars bs) (all_weaker is_hex is_ascii_char hex_is_ascii (chars bs) h) in
    sym (encodes-IsAscii (chars bs) i) ∙ encodes-chars bs u

prefix_ascii : (r : Radix) → IsAscii (radix_prefix r)
unfolding radix_prefix
prefix_ascii Binary = ascii_from_all (codes "0b") refl
prefix_ascii Octal = ascii_from_all (codes "0o") refl
prefix_ascii Ten = ascii_from_all [] refl
prefix_ascii Hex = ascii_from_all (codes "0x") refl

pub big_ascii : (n : BigInt) → IsAscii (string_bytes n.digits) → IsAscii (big_text n)
unfolding big_text
big_ascii n h = IsAscii-append (sign_text n.negative) (big_part n) (sign_ascii n.negative) (IsAscii-append (radix_prefix n.radix) (without_underscores (string_bytes n.digits)) (prefix_ascii n.radix) (ascii_without (string_bytes n.digits) h))

pub big_signed : (n : BigInt) → are_digits n.radix (chars (string_bytes n.digits)) ≡ true → IsSignedInteger n (big_text n) (big_part n)
unfolding big_text
big_signed n h =
    let bs = string_bytes n.digits in
    let f = formed n.radix (chars bs) h in
    let same : chars bs ≡ bs = hex_bytes bs (IsUtf8-string_bytes n.digits) f.each in
    let each : list_all is_hex bs ≡ true = sym (ap (list_all is_hex) same) ∙ f.each in
    let digits : IsAscii bs = ascii_from_all bs (all_weaker is_hex is_ascii_char hex_is_ascii bs each) in
    let bare : without_underscores bs ≡ chars bs = hex_without bs each ∙ sym same in
    let size : IsAscii (big_part n) = IsAscii-append (radix_prefix n.radix) (without_underscores bs) (prefix_ascii n.radix) (ascii_without bs digits) in
    let read : chars (big_part n) ≡ radix_prefix n.radix ++ chars bs = chars-IsAscii (big_part n) size ∙ ap (λ x. radix_prefix n.radix ++ x) bare in
    record {
      parts = refl;
      ascii = big_ascii n digits;
      characters = chars-IsAscii (big_text n) (big_ascii n digits) ∙ ap (λ x. sign_text n.negative ++ x) (sym (chars-IsAscii (big_part n) size));
      front = ap begins_digit read ∙ f.first;
      token = subst (λ x. IsBigInteger n.radix (chars bs) x) (sym (ap (λ x. x ++ suffix) read ∙ append_assoc (radix_prefix n.radix) (chars bs) suffix)) f.token;
    }

-- three texts that were written in turn
pub three_written : (start first second third sign prefix digits : List ℕ) → start ≡ [] → first ≡ start ++ sign → second ≡ first ++ prefix → third ≡ second ++ digits → third ≡ sign ++ (prefix ++ digits)
three_written start first second third sign prefix digits s f g h = rw (h, g, f, s) (append_assoc sign prefix digits)
