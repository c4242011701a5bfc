-- The whole texts of a decimal number, with its sign.
use Rattle.std.proofs.Common.{◌≡◌, ℕ, ◌+◌, ◌*◌, ◌^◌, ◌<◌, ◌≤◌, ℤ, pos, negsuc, Bool, true, false, not, List, [], ◌∷◌, ◌++◌, nat_le, nat_lt, length, replicate, refl, sym, ap, ◌∙◌, arith, inl, inr, Option, Some, None, length-append, codes, if◌then◌else◌, Result, Ok, Err, MatchResult, int_le}
use Rattle.std.specs.Result.{OkIff}
use Rattle.std.specs.List.{list_all}
use Rattle.std.specs.Char.{digit_value}
use Rattle.std.specs.Str.{IsAscii}
use Rattle.std.specs.Str.Parse.{digits_value, AllDigits, ParsesUnsigned}
use Rattle.std.specs.Option.{option_map}
use Rattle.std.proofs.lemmas.Bool.{and_from, and_parts, not_from_false, cases_Bool, ltb-true, ltb-false, lt-ltb, le-ltb, leb-true, lt-leb, cond-false, cases_lt, false≢true}
use Rattle.std.proofs.lemmas.Str.{IsAscii-append}
use Rattle.swc_ecma_codegen_grammar.specs.Chars.{is_digit}
use Rattle.swc_ecma_codegen_grammar.specs.Numbers.{is_number, is_numeric, has_suffix}
use Rattle.swc_ecma_codegen_common.specs.declared.decimals.Decimal.{Decimal}
use Rattle.swc_ecma_codegen_common.specs.DecimalParts.{is_decimal}
use Rattle.swc_ecma_codegen_grammar.specs.DecimalValues.{size_value, decimal_digits}
use Rattle.swc_ecma_codegen_literals.specs.NumberTexts.{plain_size, whole_size, shorter_size, minified_size, sign_text, plain_text, minified_text, SpellsDecimal}
use Rattle.swc_ecma_codegen_literals.proofs.NumberLiterals.{Spells, fine_suffix, fine_ascii, digits_fine, digits_append, decimal_all, decimal_some, plain_spells, minified_spells}
use Rattle.swc_ecma_codegen_literals.proofs.Numerals.{zeros_are_digits, zeros_value, value_append}
use Rattle.std.proofs.lemmas.Str.Parse.{IsNumeralModel, numerals_by_value, tells_digits, parse_digits}
use Rattle.std.proofs.lemmas.Str.{digit_value_digit}

signed_spells : (number : Decimal) (size : List ℕ) → Spells size (size_value (decimal_digits number) number.exponent) → SpellsDecimal number (sign_text number.negative ++ size)
unfolding is_number
signed_spells number size s = record {
  literal = size;
  signed = refl;
  shape = and_from (is_numeric size) (not (has_suffix size)) s.numeric (not_from_false (has_suffix size) (fine_suffix size s.fine));
  value = s.same;
}

pub sign_ascii : (negative : Bool) → IsAscii (sign_text negative)
unfolding sign_text
sign_ascii true = fine_ascii (codes "-") refl
sign_ascii false = fine_ascii [] refl

pub plain_text_spells : (number : Decimal) → is_decimal (decimal_digits number) number.exponent ≡ true → SpellsDecimal number (plain_text number)
unfolding plain_text
plain_text_spells number d = signed_spells number _ (plain_spells (decimal_digits number) number.exponent d)

pub minified_text_spells : (number : Decimal) → is_decimal (decimal_digits number) number.exponent ≡ true → SpellsDecimal number (minified_text number)
unfolding minified_text
minified_text_spells number d = signed_spells number _ (minified_spells number.negative (decimal_digits number) number.exponent d)

pub plain_text_ascii : (number : Decimal) → is_decimal (decimal_digits number) number.exponent ≡ true → IsAscii (plain_text number)
unfolding plain_text
plain_text_ascii number d =
    let s = plain_spells (decimal_digits number) number.exponent d in
    IsAscii-append (sign_text number.negative) (plain_size (decimal_digits number) number.exponent) (sign_ascii number.negative) (fine_ascii _ s.fine)

pub minified_text_ascii : (number : Decimal) → is_decimal (decimal_digits number) number.exponent ≡ true → IsAscii (minified_text number)
unfolding minified_text
minified_text_ascii number d =
    let s = minified_spells number.negative (decimal_digits number) number.exponent d in
    IsAscii-append (sign_text number.negative) (minified_size number.negative (decimal_digits number) number.exponent) (sign_ascii number.negative) (fine_ascii _ s.fine)

-- a sign before both texts doesn't change which is shorter
pub shorter_signed : (sign other : List ℕ) (text : Option (List ℕ)) → shorter_size (option_map (λ size. sign ++ size) text) (sign ++ other) ≡ sign ++ shorter_size text other
unfolding shorter_size
shorter_signed sign other None = refl
shorter_signed sign other (Some text) =
    elim (cases_Bool (nat_lt (length text) (length other))) [
      | inl t ↦ let l : length text < length other = ltb-true _ _ t in rw (t, longer (omega (arith, l))) refl
      | inr f ↦ let l : length other ≤ length text = ltb-false _ _ f in rw (f, not_longer (omega (arith, l))) refl
    ]
  where
    longer : length sign + length text < length sign + length other → nat_lt (length (sign ++ text)) (length (sign ++ other)) ≡ true
    longer l = rw (length-append, length-append) (lt-ltb _ _ l)

    not_longer : length sign + length other ≤ length sign + length text → nat_lt (length (sign ++ text)) (length (sign ++ other)) ≡ false
    not_longer l = rw (length-append, length-append) (le-ltb _ _ l)

-- the digits of a decimal number are ASCII
pub decimal_ascii : (ds : List ℕ) (e : ℤ) → is_decimal ds e ≡ true → IsAscii ds
decimal_ascii ds e d = fine_ascii ds (digits_fine ds (decimal_all ds e d))

own : IsNumeralModel (AllDigits 10) (digits_value 10)
own = numerals_by_value (AllDigits 10) tells_digits

all_digits : (ds : List ℕ) → list_all is_digit ds ≡ true → AllDigits 10 ds
unfolding is_digit
all_digits [] h = tt
all_digits (d ∷ ds) h =
    let p = and_parts (is_digit d) (list_all is_digit ds) h in
    let q = and_parts (nat_le 48 d) (nat_le d 57) p.0 in
    let v : digit_value d + 48 ≡ d = digit_value_digit d (leb-true 48 d q.0, leb-true d 57 q.1) in
    let l : d ≤ 57 = leb-true d 57 q.1 in
    (omega arith, all_digits ds p.1)

whole_digits : (ds : List ℕ) (n : ℕ) → is_decimal ds (pos n) ≡ true → AllDigits 10 (plain_size ds (pos n))
unfolding plain_size
whole_digits ds n d = all_digits (ds ++ replicate n 48) (digits_append ds (replicate n 48) (decimal_all ds (pos n) d) (zeros_are_digits n))

whole_value : (ds : List ℕ) (n : ℕ) → digits_value 10 (plain_size ds (pos n)) ≡ digits_value 10 ds * 10 ^ n
unfolding plain_size
whole_value ds n = value_append 10 0 ds (replicate n 48) ∙ zeros_value (digits_value 10 ds) n

whole_some : (ds : List ℕ) (n : ℕ) → is_decimal ds (pos n) ≡ true → 0 < length (plain_size ds (pos n))
unfolding plain_size
whole_some ds n d = rw length-append (let h = decimal_some ds (pos n) d in omega (arith, h))

-- what `parse` gives for all digits of a whole number
abbrev pub small : ℕ → Option ℕ
small size = if nat_le size (2 ^ 63) then Some size else None

pub parsed_whole : {E : Type 0} (ds : List ℕ) (e : ℤ) (bs : List ℕ) (r : Result ℕ E) → is_decimal ds e ≡ true → int_le (pos 0) e ≡ true → bs ≡ plain_size ds e → ParsesUnsigned 64 10 bs r → MatchResult r (λ size. whole_size ds e ≡ small size) (λ _. whole_size ds e ≡ None)
unfolding whole_size
parsed_whole {E = E} ds (negsuc n) bs r d l e h = absurd (false≢true l)
parsed_whole {E = E} ds (pos n) bs r d l e h = told r (parse_digits own 64 bs r h (rw e (whole_digits ds n d)))
  where
    value : digits_value 10 bs ≡ digits_value 10 ds * 10 ^ n
    value = rw e (whole_value ds n)

    told : (r : Result ℕ E) → OkIff r ((0 < length bs) × (digits_value 10 bs < 2 ^ 64)) (digits_value 10 bs) → MatchResult r (λ size. small (digits_value 10 ds * 10 ^ n) ≡ small size) (λ _. small (digits_value 10 ds * 10 ^ n) ≡ None)
    told (Ok size) k = ap small (sym value ∙ sym k.1)
    told (Err x) k = rw (← value) (cond-false (nat_le (digits_value 10 bs) (2 ^ 63)) (Some (digits_value 10 bs)) None (lt-leb (digits_value 10 bs) (2 ^ 63) (elim (cases_lt (digits_value 10 bs) (2 ^ 64)) [ inl m ↦ absurd (k (rw e (whole_some ds n d), m)) | inr m ↦ omega (arith, m) ])))
