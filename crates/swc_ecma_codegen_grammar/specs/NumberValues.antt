-- What numeric literals stand for. ECMA-262, sections 12.9.3 and B.1.1, "MV" and "NumericValue".
use Rattle.std.specs.Prelude.{◌≡◌, ℕ, zero, suc, ◌+◌, ◌*◌, ◌/◌, ◌%◌, ◌^◌, Bool, true, List, [], ◌∷◌, ◌&&◌, ◌==◌, if◌then◌else◌}
use Rattle.std.specs.Char.{digit_value}
use Rattle.swc_ecma_codegen_grammar.specs.Chars.{is_digit}
use Rattle.swc_ecma_codegen_grammar.specs.Numbers.{is_hex, is_octal, is_either}

-- a whole number times ten to one power, and divided by ten to another
pub record MathValue : Type 0 where
  pub whole : ℕ
  pub tens : ℕ
  pub tenths : ℕ

unfoldable pub times_ten : ℕ → ℕ → MathValue
times_ten whole tens = record { whole = whole; tens = tens; tenths = 0 }

unfoldable pub over_ten : ℕ → ℕ → MathValue
over_ten whole tenths = record { whole = whole; tens = 0; tenths = tenths }

-- They are one number: by cross multiplication.
unfoldable pub SameValue : MathValue → MathValue → Type 0
SameValue a b = a.whole * 10 ^ (a.tens + b.tenths) ≡ b.whole * 10 ^ (b.tens + a.tenths)

-- a number as a decimal fraction: 2.5 is 25 with one place after the dot
pub record DecimalFraction : Type 0 where
  pub digits : ℕ
  pub places : ℕ

-- No zero stands at its end: 2.50 is 2.5, and 5.0 is 5.
unfoldable pub lowest : ℕ → ℕ → DecimalFraction
lowest digits zero = record { digits = digits; places = 0 }
lowest digits (suc places) =
    if digits % 10 == 0 then lowest (digits / 10) places else record { digits = digits; places = suc places }

-- The one form of a number: 25e-1, 2.5 and 2.50 have the same. Section 5.2.5, "mathematical values".
unfoldable pub exact_value : MathValue → DecimalFraction
exact_value v = lowest (v.whole * 10 ^ v.tens) v.tenths

-- Digits that follow those of n, with any `_` between and `n` after them: DecimalDigits, SignedInteger.
unfoldable pub digits_after : ℕ → ℕ → List ℕ → ℕ
digits_after radix n [] = n
digits_after radix n (c ∷ cs) = if is_hex c then digits_after radix (n * radix + digit_value c) cs else digits_after radix n cs

-- after `e`: ExponentPart, that a number of so many decimal places is taken by
unfoldable pub exponent_value : ℕ → ℕ → List ℕ → MathValue
exponent_value n places [] = over_ten n places
exponent_value n places (c ∷ cs) =
    if c == 45 then over_ten n (places + digits_after 10 0 cs)
    else record { whole = n; tens = digits_after 10 0 (c ∷ cs); tenths = places }

-- after the dot: `n` are the digits so far, `places` of which stand after the dot
unfoldable pub fraction_value : ℕ → ℕ → List ℕ → MathValue
fraction_value n places [] = over_ten n places
fraction_value n places (c ∷ cs) =
    if is_digit c then fraction_value (n * 10 + digit_value c) (places + 1) cs
    else if is_either 101 69 c then exponent_value n places cs
    else fraction_value n places cs

-- DecimalLiteral, DecimalBigIntegerLiteral, NonOctalDecimalIntegerLiteral: `n` are the digits so far
unfoldable pub decimal_value : ℕ → List ℕ → MathValue
decimal_value n [] = times_ten n 0
decimal_value n (c ∷ cs) =
    if is_digit c then decimal_value (n * 10 + digit_value c) cs
    else if c == 46 then fraction_value n 0 cs
    else if is_either 101 69 c then exponent_value n 0 cs
    else decimal_value n cs

unfoldable pub all_octal : List ℕ → Bool
all_octal [] = true
all_octal (c ∷ cs) = is_octal c && all_octal cs

-- after a zero: HexIntegerLiteral, OctalIntegerLiteral, BinaryIntegerLiteral, LegacyOctalIntegerLiteral, or a decimal
unfoldable pub zero_value : List ℕ → MathValue
zero_value [] = times_ten 0 0
zero_value (c ∷ cs) =
    if is_either 120 88 c then times_ten (digits_after 16 0 cs) 0
    else if is_either 111 79 c then times_ten (digits_after 8 0 cs) 0
    else if is_either 98 66 c then times_ten (digits_after 2 0 cs) 0
    else if all_octal (c ∷ cs) then times_ten (digits_after 8 0 (c ∷ cs)) 0
    else decimal_value 0 (c ∷ cs)

-- NumericLiteral
unfoldable pub numeric_value : List ℕ → MathValue
numeric_value [] = times_ten 0 0
numeric_value (c ∷ cs) = if c == 48 then zero_value cs else decimal_value 0 (c ∷ cs)
