-- How a decimal number is spelled.
use Rattle.std.specs.Prelude.{◌≡◌, ℕ, suc, ◌-◌, ◌*◌, ◌^◌, ℤ, pos, negsuc, Bool, true, false, not, ◌&&◌, nat_le, nat_lt, List, [], ◌++◌, length, replicate, take, drop, Option, Some, None, if◌then◌else◌, codes, decimal}
use Rattle.std.specs.Option.{option_map}
use Rattle.std.specs.Fmt.{digits}
use Rattle.std.specs.String.{string_bytes}
use Rattle.std.specs.declared.string.String.{String}
use Rattle.std.specs.Str.{IsAscii, chars}
use Rattle.std.specs.Str.Parse.{digits_value}
use Rattle.swc_ecma_codegen_grammar.specs.DecimalValues.{decimal_digits, exact_size, size_value}
use Rattle.swc_ecma_codegen_grammar.specs.Numbers.{is_number}
use Rattle.swc_ecma_codegen_grammar.specs.NumberValues.{SameValue, exact_value, numeric_value}
use Rattle.swc_ecma_codegen_common.specs.declared.decimals.Decimal.{Decimal}
use Rattle.swc_ecma_codegen_grammar.specs.Texts.{begins}
use Rattle.swc_ecma_codegen_literals.specs.Beginnings.{begins_numeric}

-- `12` with the point before its last n digits: `1.2` for 1, `0.12` for 2, `0.0012` for 4
unfoldable pub with_point : List ℕ → ℕ → List ℕ
with_point ds n =
    if nat_lt n (length ds) then take (length ds - n) ds ++ (codes "." ++ drop (length ds - n) ds)
    else codes "0." ++ (replicate (n - length ds) 48 ++ ds)

-- all digits, without an exponent: `12000`, `1.2`
unfoldable pub plain_size : List ℕ → ℤ → List ℕ
plain_size ds (pos n) = ds ++ replicate n 48
plain_size ds (negsuc n) = with_point ds (suc n)

-- three zeros or more at the end become an exponent: `12e3`
unfoldable pub short_whole : List ℕ → ℕ → Option (List ℕ)
short_whole ds n = if nat_le 3 n then Some (ds ++ (codes "e" ++ decimal n)) else None

-- a fraction without the zero before its point, `.012`; after the point three zeros or more become an exponent, `12e-6`, but not of a negative number
unfoldable pub short_fraction : Bool → List ℕ → ℕ → Option (List ℕ)
short_fraction negative ds n =
    if nat_lt n (length ds) then None
    else if not negative && nat_le 3 (n - length ds) then Some (ds ++ (codes "e-" ++ decimal n))
    else Some (codes "." ++ (replicate (n - length ds) 48 ++ ds))

unfoldable pub short_size : Bool → List ℕ → ℤ → Option (List ℕ)
short_size negative ds (pos n) = short_whole ds n
short_size negative ds (negsuc n) = short_fraction negative ds (suc n)

-- a whole number of at most 2 to the 63
unfoldable pub whole_size : List ℕ → ℤ → Option ℕ
whole_size ds (pos n) = let size = digits_value 10 ds * 10 ^ n in if nat_le size (2 ^ 63) then Some size else None
whole_size ds (negsuc n) = None

-- `0xff` for 255
unfoldable pub hexadecimal_size : List ℕ → ℤ → Option (List ℕ)
hexadecimal_size ds e = option_map (λ size. codes "0x" ++ digits 16 false size) (whole_size ds e)

-- the shorter of two texts, and the second where they are alike
unfoldable pub shorter_size : Option (List ℕ) → List ℕ → List ℕ
shorter_size None other = other
shorter_size (Some text) other = if nat_lt (length text) (length other) then text else other

unfoldable pub minified_size : Bool → List ℕ → ℤ → List ℕ
minified_size negative ds e = shorter_size (short_size negative ds e) (shorter_size (hexadecimal_size ds e) (plain_size ds e))

unfoldable pub sign_text : Bool → List ℕ
sign_text negative = if negative then codes "-" else []

-- the number without its sign, by all digits and by the shortest of these
abbrev pub plain_part : Decimal → List ℕ
plain_part number = plain_size (decimal_digits number) number.exponent

abbrev pub minified_part : Decimal → List ℕ
minified_part number = minified_size number.negative (decimal_digits number) number.exponent

-- the sign, and then that
unfoldable pub plain_text : Decimal → List ℕ
plain_text number = sign_text number.negative ++ plain_part number

unfoldable pub minified_text : Decimal → List ℕ
minified_text number = sign_text number.negative ++ minified_part number

-- the bytes of a text, where there is one
abbrev pub option_text : {Z : Type 0} → Option (String Z) → Option (List ℕ)
option_text None = None
option_text (Some text) = Some (string_bytes text)

-- A text is the sign of a number, and then one numeric literal of its size.
pub record SpellsDecimal (number : Decimal) (text : List ℕ) : Type 0 where
  pub literal : List ℕ
  pub signed : text ≡ sign_text number.negative ++ literal
  pub shape : is_number literal ≡ true
  pub value : SameValue (numeric_value literal) (size_value (decimal_digits number) number.exponent)

-- A text is one token for the size of a number: `5` for -5. Its characters are its bytes.
pub record IsSizeOf (number : Decimal) (size : List ℕ) : Type 0 where
  pub ascii : IsAscii size
  pub characters : chars size ≡ size
  pub front : begins_numeric size ≡ true
  pub unsigned : begins (codes "-") size ≡ false
  pub shape : is_number (chars size) ≡ true
  pub value : exact_value (numeric_value (chars size)) ≡ exact_size number

-- A text is the punctuator `-` where the number is below zero, and then such a token.
pub record IsSignedSize (number : Decimal) (text size : List ℕ) : Type 0 where
  pub parts : text ≡ sign_text number.negative ++ size
  pub characters : chars text ≡ sign_text number.negative ++ chars size
  pub token : IsSizeOf number size
