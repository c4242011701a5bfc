-- Literals: one production a node, with the conditions under which it is well-formed.
use Rattle.std.specs.Prelude.{ℕ, ◌^◌, Bool, true, false, not, List, [], ◌∷◌, ◌++◌, ◌&&◌, ◌||◌, ◌==◌, nat_lt, Option, Some, None, if◌then◌else◌, is_none, codes, string_bytes}
use Rattle.std.specs.List.{list_all}
use Rattle.std.specs.Str.{chars}
use Rattle.std.specs.declared.string.String.{String}
use Rattle.swc_ecma_codegen_common.specs.declared.decimals.Decimal.{Decimal}
use Rattle.swc_ecma_codegen_tree.specs.declared.lits.Lit.{Lit}
use Rattle.swc_ecma_codegen_tree.specs.declared.lits.Lit.TheVariants as lits
use Rattle.swc_ecma_codegen_tree.specs.declared.lits.Str.{Str}
use Rattle.swc_ecma_codegen_tree.specs.declared.lits.Bool as tree_bool
use Rattle.swc_ecma_codegen_tree.specs.declared.lits.Null.{Null}
use Rattle.swc_ecma_codegen_tree.specs.declared.lits.Number.{Number}
use Rattle.swc_ecma_codegen_tree.specs.declared.lits.NumberValue.{NumberValue}
use Rattle.swc_ecma_codegen_tree.specs.declared.lits.NumberValue.TheVariants.{Finite, Infinity, NegInfinity, NaN}
use Rattle.swc_ecma_codegen_tree.specs.declared.lits.BigInt.{BigInt}
use Rattle.swc_ecma_codegen_tree.specs.declared.lits.Radix.{Radix}
use Rattle.swc_ecma_codegen_tree.specs.declared.lits.Radix.TheVariants.{Binary, Octal, Decimal as Ten, Hex}
use Rattle.swc_ecma_codegen_tree.specs.declared.lits.Regex.{Regex}
use Rattle.swc_ecma_codegen_grammar.specs.declared.kinds.Kind.TheVariants as kinds
use Rattle.swc_ecma_codegen_grammar.specs.Chars.{is_digit}
use Rattle.swc_ecma_codegen_grammar.specs.CodeUnits.{units}
use Rattle.swc_ecma_codegen_grammar.specs.DecimalValues.{exact_size}
use Rattle.swc_ecma_codegen_grammar.specs.Numbers.{is_hex, is_octal, is_binary, is_either, is_number, is_big_integer, radix_of, big_digits}
use Rattle.swc_ecma_codegen_grammar.specs.NumberValues.{DecimalFraction, numeric_value, exact_value, all_octal}
use Rattle.swc_ecma_codegen_grammar.specs.Phrases.{Phrase, Never, One, ◌>◌, where_, word, mark}
use Rattle.swc_ecma_codegen_grammar.specs.RegularExpressions.{is_regex}
use Rattle.swc_ecma_codegen_grammar.specs.StringValues.{string_value}
use Rattle.swc_ecma_codegen_grammar.specs.Texts.{is_empty, is_same}
use Rattle.swc_ecma_codegen_grammar.specs.Tokens.{Token, Units, Exactly, Digits, token_of}
use Rattle.swc_ecma_codegen_grammar.specs.Tokens as tokens

-- the characters of a text in the tree
abbrev pub characters : {Z : Type 0} → String Z → List ℕ
characters text = chars (string_bytes text)

-- A raw passes, or there is none.
unfoldable pub raw_passes : {Z : Type 0} → (List ℕ → Bool) → Option (String Z) → Bool
raw_passes test None = true
raw_passes test (Some raw) = test (characters raw)

-- `-` before a literal that is below zero
unfoldable pub after_sign : Bool → Phrase → Phrase
after_sign negative size = if negative then mark (codes "-") > size else size

-- ---- strings. ECMA-262, section 12.9.4.

-- there are units, and they are these
unfoldable pub are_units : Option (List ℕ) → List ℕ → Bool
are_units None us = false
are_units (Some vs) us = is_same vs us

-- a text is one string token of these units: `'\x41'` of the unit 65
unfoldable pub spells_units : List ℕ → List ℕ → Bool
spells_units us text = are_units (string_value true text) us

unfoldable pub string_token : List ℕ → Token
string_token us = record { kind = kinds.Str; value = Units (Some us) }

-- `"a"`: with the raw `'\x61'` for the value `a` too, but not with `"b"`
unfoldable pub str_lit : Str → Phrase
str_lit n = where_ (raw_passes (spells_units (units (characters n.value))) n.raw) (One (string_token (units (characters n.value))))

-- ---- `true`, `false` and `null`. Sections 12.9.1 and 12.9.2.

unfoldable pub bool_lit : tree_bool.Bool → Phrase
bool_lit n = word (if n.value then codes "true" else codes "false")

unfoldable pub null_lit : Null → Phrase
null_lit n = word (codes "null")

-- ---- numbers. Sections 12.9.3 and B.1.1.

unfoldable pub is_same_number : DecimalFraction → DecimalFraction → Bool
is_same_number a b = (a.digits == b.digits) && (a.places == b.places)

-- after a zero: hexadecimal, octal, binary or legacy octal, as `xA`, `o12`, `b1010` or `12`
unfoldable pub is_in_radix : List ℕ → Bool
is_in_radix [] = true
is_in_radix (c ∷ cs) = (is_either 120 88 c || (is_either 111 79 c || is_either 98 66 c)) || all_octal (c ∷ cs)

unfoldable pub is_in_decimal : List ℕ → Bool
is_in_decimal [] = true
is_in_decimal (c ∷ cs) = not ((c == 48) && is_in_radix cs)

-- a number that is compared: a decimal one, or one below 2^128
unfoldable pub is_compared : List ℕ → Bool
is_compared text = is_in_decimal text || nat_lt (numeric_value text).whole (2 ^ 128)

-- a text is one numeric token of this size: `1e1`, `10.0` and `0xA` of ten
unfoldable pub spells_size : DecimalFraction → List ℕ → Bool
spells_size size text = is_number text && (is_compared text && is_same_number (exact_value (numeric_value text)) size)

unfoldable pub number_token : DecimalFraction → Token
number_token size = record { kind = kinds.Number; value = Exactly size }

-- the name `Infinity`, or `NaN`
abbrev pub name_of_number : List ℕ → Phrase
name_of_number name = One (tokens.name name)

-- `2.5`, of which a raw spells the size: so none has a sign
unfoldable pub finite : {Z : Type 0} → Decimal → Option (String Z) → Phrase
finite d None = after_sign d.negative (One (number_token (exact_size d)))
finite d (Some raw) = where_ (not d.negative && spells_size (exact_size d) (characters raw)) (One (number_token (exact_size d)))

-- `Infinity` as a name; with a raw, as `1e999`, the number that this one spells
unfoldable pub infinity : {Z : Type 0} → Option (String Z) → Phrase
infinity None = name_of_number (codes "Infinity")
infinity (Some raw) = where_ (is_number (characters raw)) (One (token_of kinds.Number (characters raw)))

-- what has no raw
unfoldable pub without_raw : {Z : Type 0} → Option (String Z) → Phrase → Phrase
without_raw None phrase = phrase
without_raw (Some raw) phrase = Never

-- `2.5`, `Infinity`, `-Infinity` and `NaN`
unfoldable pub number_of : {Z : Type 0} → NumberValue → Option (String Z) → Phrase
number_of (Finite d) raw = finite d raw
number_of Infinity raw = infinity raw
number_of NegInfinity raw = without_raw raw (after_sign true (name_of_number (codes "Infinity")))
number_of NaN raw = without_raw raw (name_of_number (codes "NaN"))

unfoldable pub number : Number → Phrase
number n = number_of n.value n.raw

-- ---- big integers. Section 12.9.3.

unfoldable pub radix_number : Radix → ℕ
radix_number Binary = 2
radix_number Octal = 8
radix_number Ten = 10
radix_number Hex = 16

unfoldable pub is_digit_of : Radix → ℕ → Bool
is_digit_of Binary c = is_binary c
is_digit_of Octal c = is_octal c
is_digit_of Ten c = is_digit c
is_digit_of Hex c = is_hex c

-- `0` or no zero first
unfoldable pub has_no_leading_zero : List ℕ → Bool
has_no_leading_zero [] = true
has_no_leading_zero (c ∷ cs) = not (c == 48) || is_empty cs

-- `FF` in hexadecimal, but not `08` in decimal
unfoldable pub are_digits : Radix → List ℕ → Bool
are_digits Ten digits = not (is_empty digits) && (list_all (is_digit_of Ten) digits && has_no_leading_zero digits)
are_digits radix digits = not (is_empty digits) && list_all (is_digit_of radix) digits

-- a text is one big integer token of this radix and of these digits without `_`: `0xF_Fn` of `FF`
unfoldable pub spells_digits : Radix → List ℕ → List ℕ → Bool
spells_digits radix digits text = is_big_integer text && ((radix_of text == radix_number radix) && is_same (big_digits text) digits)

unfoldable pub big_int_token : Radix → List ℕ → Token
big_int_token radix digits = record { kind = kinds.BigInt; value = Digits (radix_number radix) digits }

-- the digits, and the raw where there is one, which has no sign
unfoldable pub is_big_int : BigInt → Bool
is_big_int n = are_digits n.radix (characters n.digits) && (raw_passes (spells_digits n.radix (characters n.digits)) n.raw && (is_none n.raw || not n.negative))

-- `0xFFn`
unfoldable pub big_int : BigInt → Phrase
big_int n = where_ (is_big_int n) (after_sign n.negative (One (big_int_token n.radix (characters n.digits))))

-- ---- regular expressions. Section 12.9.5.

-- between slashes, and then the flags
unfoldable pub regex_text : List ℕ → List ℕ → List ℕ
regex_text body flags = codes "/" ++ (body ++ (codes "/" ++ flags))

-- It is one token, and so it is without its flags: the slash after the body is the one that ends it. `/a/b/c` is one with
-- the body `a`, and so none with the body `a/b`, since `/a/b/` is none.
unfoldable pub is_regex_of : List ℕ → List ℕ → Bool
is_regex_of body flags = is_regex (regex_text body []) && is_regex (regex_text body flags)

-- `/a/g`
unfoldable pub regex : Regex → Phrase
regex n = where_ (is_regex_of (characters n.exp) (characters n.flags)) (One (token_of kinds.Regex (regex_text (characters n.exp) (characters n.flags))))

-- ---- a literal. JSX text is no expression.

unfoldable pub lit : Lit → Phrase
lit (lits.Str n) = str_lit n
lit (lits.Bool n) = bool_lit n
lit (lits.Null n) = null_lit n
lit (lits.Num n) = number n.value
lit (lits.BigInt n) = big_int n.value
lit (lits.Regex n) = regex n
lit (lits.JSXText n) = Never
