-- The UTF-16 code units of a text. ECMA-262, section 11.1.1; surrogate escapes that are written in plain characters stand for their units, as in swc.
use Rattle.std.specs.Prelude.{ℕ, zero, suc, ◌+◌, ◌-◌, ◌/◌, ◌%◌, Bool, true, false, List, [], ◌∷◌, ◌++◌, ◌&&◌, ◌==◌, nat_lt, nat_le, take, drop, if◌then◌else◌}
use Rattle.std.specs.Str.Parse.{digits_value}
use Rattle.swc_ecma_codegen_grammar.specs.Numbers.{is_hex, is_either}

-- one character: above U+FFFF a pair of surrogates, UTF16EncodeCodePoint
unfoldable pub utf16 : ℕ → List ℕ
utf16 c = if nat_lt c 65536 then c ∷ [] else ((55296 + (c - 65536) / 1024) ∷ (56320 + (c - 65536) % 1024) ∷ [])

unfoldable pub all_utf16 : List ℕ → List ℕ
all_utf16 [] = []
all_utf16 (c ∷ cs) = utf16 c ++ all_utf16 cs

-- a text begins with characters that pass these tests in turn
unfoldable pub begins_like : List (ℕ → Bool) → List ℕ → Bool
begins_like [] text = true
begins_like (p ∷ ps) [] = false
begins_like (p ∷ ps) (c ∷ cs) = p c && begins_like ps cs

-- four hexadecimal digits from D800 to DFFF
unfoldable pub is_high_digit : ℕ → Bool
is_high_digit c = is_hex c && nat_le 56 c

abbrev pub four_digits : List (ℕ → Bool) → List (ℕ → Bool)
four_digits more = is_either 68 100 ∷ is_high_digit ∷ is_hex ∷ is_hex ∷ more

-- what a written surrogate escape is after its backslash: `ud83d`, `u{d83d}`
unfoldable pub short_escape : List (ℕ → Bool)
short_escape = (λ c. c == 117) ∷ four_digits []

unfoldable pub long_escape : List (ℕ → Bool)
long_escape = (λ c. c == 117) ∷ (λ c. c == 123) ∷ four_digits ((λ c. c == 125) ∷ [])

-- how many characters a complete written surrogate escape has after its backslash, which `text` follows; 0 where there is none
unfoldable pub escape_length : List ℕ → ℕ
escape_length text = if begins_like short_escape text then 5 else if begins_like long_escape text then 7 else 0

-- the unit that it stands for
unfoldable pub escape_unit : List ℕ → ℕ
escape_unit text = digits_value 16 (take 4 (drop (if begins_like short_escape text then 1 else 2) text))

-- the units of a text, after `skip` characters that stand for nothing more
unfoldable pub units_after : ℕ → List ℕ → List ℕ
units_after skip [] = []
units_after (suc skip) (c ∷ cs) = units_after skip cs
units_after zero (c ∷ cs) =
    if (c == 92) && nat_lt 0 (escape_length cs) then escape_unit cs ∷ units_after (escape_length cs) cs
    else utf16 c ++ units_after 0 cs

abbrev pub units : List ℕ → List ℕ
units text = units_after 0 text
