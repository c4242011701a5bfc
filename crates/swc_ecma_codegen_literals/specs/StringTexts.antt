-- How a string is spelled.
use Rattle.std.specs.Prelude.{ℕ, ◌+◌, ◌-◌, ◌/◌, ◌%◌, Bool, true, false, not, List, [], ◌∷◌, ◌++◌, ◌&&◌, ◌||◌, ◌==◌, nat_lt, nat_le, if◌then◌else◌, codes, count_by}
use Rattle.std.specs.Fmt.{digit_glyph, digits}
use Rattle.swc_ecma_codegen_common.specs.declared.versions.EsVersion.{EsVersion}
use Rattle.swc_ecma_codegen_common.specs.declared.versions.EsVersion.TheVariants.{Es3, Es5}
use Rattle.swc_ecma_codegen_grammar.specs.Chars.{begins_digit}
use Rattle.swc_ecma_codegen_grammar.specs.CodeUnits.{escape_length}

-- a version before 2015
unfoldable pub up_to_es5 : EsVersion → Bool
up_to_es5 Es3 = true
up_to_es5 Es5 = true
up_to_es5 v = false

unfoldable pub below_es5 : EsVersion → Bool
below_es5 Es3 = true
below_es5 v = false

-- `\x1b`
unfoldable pub hex_escape : ℕ → List ℕ
hex_escape c = codes "\\x" ++ (digit_glyph false (c / 16) ∷ digit_glyph false (c % 16) ∷ [])

-- `\u2028`
unfoldable pub unit_escape : ℕ → List ℕ
unit_escape c = codes "\\u" ++ (digit_glyph true (c / 4096) ∷ digit_glyph true (c / 256 % 16) ∷ digit_glyph true (c / 16 % 16) ∷ digit_glyph true (c % 16) ∷ [])

-- `\u{1F600}`
unfoldable pub braced_escape : ℕ → List ℕ
braced_escape c = codes "\\u{" ++ (digits 16 true c ++ codes "}")

-- `\uD83D\uDE00`
unfoldable pub pair_escape : ℕ → List ℕ
pair_escape c = unit_escape (55296 + (c - 65536) / 1024) ++ unit_escape (56320 + (c - 65536) % 1024)

-- U+2028 and U+2029, which end lines, and U+FEFF, which editors drop
unfoldable pub is_unseen : ℕ → Bool
is_unseen c = (c == 8232) || ((c == 8233) || (c == 65279))

-- a character that stands for itself in a string with this quote
unfoldable pub stands : ℕ → Bool → EsVersion → ℕ → Bool
stands q ascii v c =
    if nat_lt c 127 then (nat_le 32 c || (c == 9)) && not ((c == q) || (c == 92))
    else if nat_lt c 256 then not (ascii || up_to_es5 v)
    else if nat_lt c 65536 then not (ascii || is_unseen c)
    else not (ascii || up_to_es5 v)

-- a printable ASCII character but `"` and the backslash: it stands for itself between `"` in each style
unfoldable pub is_plain_ascii : ℕ → Bool
is_plain_ascii c = nat_le 32 c && (nat_lt c 127 && not ((c == 34) || (c == 92)))

-- U+0000: `\0`, but not before a digit, where it would be an octal escape, nor for ECMAScript 3
unfoldable pub null_escape : EsVersion → List ℕ → List ℕ
null_escape v next = if below_es5 v || begins_digit next then codes "\\x00" else codes "\\0"

-- a backslash: alone where it begins a surrogate escape that is written in plain characters
unfoldable pub backslash_escape : List ℕ → List ℕ
backslash_escape next = if nat_lt 0 (escape_length next) then codes "\\" else codes "\\\\"

-- the escape of a character by its code
unfoldable pub code_escape : EsVersion → ℕ → List ℕ
code_escape v c =
    if nat_lt c 256 then hex_escape c
    else if nat_lt c 65536 then unit_escape c
    else if up_to_es5 v then pair_escape c
    else braced_escape c

-- the escape of another character, which `next` follows
unfoldable pub escape_text : EsVersion → ℕ → List ℕ → List ℕ
escape_text v c next =
    if c == 0 then null_escape v next
    else if c == 8 then codes "\\b"
    else if c == 10 then codes "\\n"
    else if c == 11 then codes "\\v"
    else if c == 12 then codes "\\f"
    else if c == 13 then codes "\\r"
    else if c == 92 then backslash_escape next
    else if c == 34 then codes "\\\""
    else if c == 39 then codes "\\'"
    else code_escape v c

unfoldable pub spelled : ℕ → Bool → EsVersion → ℕ → List ℕ → List ℕ
spelled q ascii v c next = if stands q ascii v c then c ∷ [] else escape_text v c next

unfoldable pub spelled_all : ℕ → Bool → EsVersion → List ℕ → List ℕ
spelled_all q ascii v [] = []
spelled_all q ascii v (c ∷ cs) = spelled q ascii v c cs ++ spelled_all q ascii v cs

-- `'` where the text has more `"` than `'`, else `"`
unfoldable pub quote_of : List ℕ → ℕ
quote_of text = if nat_lt (count_by (λ c. c == 39) text) (count_by (λ c. c == 34) text) then 39 else 34

unfoldable pub quoted_text : Bool → EsVersion → List ℕ → List ℕ
quoted_text ascii v text = quote_of text ∷ (spelled_all (quote_of text) ascii v text ++ quote_of text ∷ [])

-- the escape of the first character of a text, where it has one
unfoldable pub first_escape : EsVersion → List ℕ → List ℕ
first_escape v [] = []
first_escape v (c ∷ cs) = escape_text v c cs
