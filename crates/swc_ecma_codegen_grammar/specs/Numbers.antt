-- Numeric literals. ECMA-262, sections 12.9.3 and B.1.1.
use Rattle.std.specs.Prelude.{ℕ, Bool, true, false, not, List, [], ◌∷◌, ◌++◌, ◌&&◌, ◌||◌, ◌==◌, nat_le, if◌then◌else◌, drop}
use Rattle.swc_ecma_codegen_grammar.specs.Chars.{is_digit}
use Rattle.swc_ecma_codegen_grammar.specs.Texts.{is_empty}

-- OctalDigit
unfoldable pub is_octal : ℕ → Bool
is_octal c = nat_le 48 c && nat_le c 55

-- HexDigit
unfoldable pub is_hex : ℕ → Bool
is_hex c = is_digit c || ((nat_le 65 c && nat_le c 70) || (nat_le 97 c && nat_le c 102))

-- BinaryDigit
unfoldable pub is_binary : ℕ → Bool
is_binary c = (c == 48) || (c == 49)

unfoldable pub is_either : ℕ → ℕ → ℕ → Bool
is_either a b c = (c == a) || (c == b)

-- The digits of an exponent: `due` says that a digit must come.
unfoldable pub power : Bool → List ℕ → Bool
power due [] = not due
power due (c ∷ cs) = if is_digit c then power false cs else ((c == 95) && (not due && power true cs))

-- after `e` or `E`: ExponentPart
unfoldable pub exponent : List ℕ → Bool
exponent [] = false
exponent (c ∷ cs) = if is_either 43 45 c then power true cs else (is_digit c && power false cs)

-- After the dot: `joins` says that an underscore may come, `due` that a digit must.
unfoldable pub fraction : Bool → Bool → List ℕ → Bool
fraction joins due [] = not due
fraction joins due (c ∷ cs) =
    if is_digit c then fraction true false cs
    else if is_either 101 69 c then (not due && exponent cs)
    else ((c == 95) && (joins && fraction false true cs))

-- the digits of a decimal integer, and what may come after them: DecimalLiteral, DecimalBigIntegerLiteral
unfoldable pub integer : Bool → List ℕ → Bool
integer due [] = not due
integer due (c ∷ cs) =
    if is_digit c then integer false cs
    else if c == 95 then (not due && integer true cs)
    else if c == 46 then (not due && fraction false false cs)
    else if is_either 101 69 c then (not due && exponent cs)
    else ((c == 110) && (not due && is_empty cs))

-- the digits after `0x`, `0o` or `0b`: NonDecimalIntegerLiteral
unfoldable pub radix : (ℕ → Bool) → Bool → List ℕ → Bool
radix among due [] = not due
radix among due (c ∷ cs) =
    if among c then radix among false cs
    else if c == 95 then (not due && radix among true cs)
    else ((c == 110) && (not due && is_empty cs))

-- The digits after a leading zero: LegacyOctalIntegerLiteral where all are `octal`, else NonOctalDecimalIntegerLiteral.
unfoldable pub legacy : Bool → List ℕ → Bool
legacy octal [] = true
legacy octal (c ∷ cs) =
    if is_digit c then legacy (octal && is_octal c) cs
    else if c == 46 then (not octal && fraction false false cs)
    else (is_either 101 69 c && (not octal && exponent cs))

-- what may stand after a leading zero
unfoldable pub after_zero : List ℕ → Bool
after_zero [] = true
after_zero (c ∷ cs) =
    if is_digit c then legacy (is_octal c) cs
    else if c == 46 then fraction false false cs
    else if is_either 101 69 c then exponent cs
    else if is_either 120 88 c then radix is_hex true cs
    else if is_either 111 79 c then radix is_octal true cs
    else if is_either 98 66 c then radix is_binary true cs
    else ((c == 110) && is_empty cs)

-- NumericLiteral
unfoldable pub is_numeric : List ℕ → Bool
is_numeric [] = false
is_numeric (c ∷ cs) =
    if c == 48 then after_zero cs
    else if is_digit c then integer false cs
    else ((c == 46) && fraction false true cs)

-- a number that is still one with a dot right behind it: `12`, since `12.` is one; not `1.2`, `1e2`, `1n` or `017`
unfoldable pub takes_dot : List ℕ → Bool
takes_dot text = is_numeric (text ++ 46 ∷ [])

-- a text ends with `n`: BigIntLiteralSuffix
unfoldable pub has_suffix : List ℕ → Bool
has_suffix [] = false
has_suffix (c ∷ []) = c == 110
has_suffix (c ∷ d ∷ cs) = has_suffix (d ∷ cs)

unfoldable pub is_number : List ℕ → Bool
is_number text = is_numeric text && not (has_suffix text)

unfoldable pub is_big_integer : List ℕ → Bool
is_big_integer text = is_numeric text && has_suffix text

-- 16, 8 or 2 after `0x`, `0o` or `0b`, else 10
unfoldable pub radix_of : List ℕ → ℕ
radix_of [] = 10
radix_of (c ∷ []) = 10
radix_of (c ∷ d ∷ cs) = if is_either 120 88 d then 16 else (if is_either 111 79 d then 8 else (if is_either 98 66 d then 2 else 10))

-- the characters but `_` and the suffix
unfoldable pub digits_in : List ℕ → List ℕ
digits_in [] = []
digits_in (c ∷ cs) = if (c == 95) || (c == 110) then digits_in cs else (c ∷ digits_in cs)

-- the digits of a big integer, without prefix and suffix
unfoldable pub big_digits : List ℕ → List ℕ
big_digits text = digits_in (if radix_of text == 10 then text else drop 2 text)
