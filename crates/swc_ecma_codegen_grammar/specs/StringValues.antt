-- What string literals stand for: "SV". ECMA-262, sections 12.9.4 and B.1.2.
use Rattle.std.specs.Prelude.{ℕ, zero, suc, ◌+◌, ◌-◌, ◌*◌, Bool, true, false, not, List, [], ◌∷◌, ◌++◌, ◌&&◌, ◌||◌, ◌==◌, nat_lt, nat_le, Option, Some, None, if◌then◌else◌}
use Rattle.std.specs.Char.{digit_value}
use Rattle.swc_ecma_codegen_grammar.specs.declared.units.Place.{Place}
use Rattle.swc_ecma_codegen_grammar.specs.declared.units.Place.TheVariants.{Between, Escaped, Due, Unicode, Braced, Octal, Continued}
use Rattle.swc_ecma_codegen_grammar.specs.Chars.{is_digit, is_quote, begins_digit}
use Rattle.swc_ecma_codegen_grammar.specs.Numbers.{is_hex, is_octal, is_either}
use Rattle.swc_ecma_codegen_grammar.specs.Texts.{is_empty, begins}
use Rattle.swc_ecma_codegen_grammar.specs.CodeUnits.{utf16}

-- units before those of the rest, where it has a value
unfoldable pub before : List ℕ → Option (List ℕ) → Option (List ℕ)
before units None = None
before units (Some rest) = Some (units ++ rest)

-- SingleEscapeCharacter, and any other character that stands for itself
unfoldable pub single_escape : ℕ → ℕ
single_escape c =
    if c == 98 then 8
    else if c == 116 then 9
    else if c == 110 then 10
    else if c == 118 then 11
    else if c == 102 then 12
    else if c == 114 then 13
    else c

unfoldable pub begins_octal : List ℕ → Bool
begins_octal [] = false
begins_octal (c ∷ cs) = is_octal c

-- The units of the rest of a string with this quote. `sloppy` says that it may have the octal escapes of section B.1.2.
unfoldable pub string_rest : ℕ → Bool → Place → List ℕ → Option (List ℕ)
string_rest q sloppy place [] = None
string_rest q sloppy Between (c ∷ cs) =
    if c == q then (if is_empty cs then Some [] else None)
    else if c == 92 then string_rest q sloppy Escaped cs
    else if is_either 10 13 c then None
    else before (utf16 c) (string_rest q sloppy Between cs)
string_rest q sloppy Escaped (c ∷ cs) =
    if c == 120 then string_rest q sloppy (Due 2 0) cs
    else if c == 117 then string_rest q sloppy Unicode cs
    else if (c == 48) && not (begins_digit cs) then before (0 ∷ []) (string_rest q sloppy Between cs)
    else if is_octal c then (if not sloppy then None
    else if begins_octal cs then string_rest q sloppy (Octal (if nat_le c 51 then 1 else 0) (c - 48)) cs
    else before ((c - 48) ∷ []) (string_rest q sloppy Between cs))
    else if is_digit c then (if sloppy then before (c ∷ []) (string_rest q sloppy Between cs) else None)
    else if c == 13 then string_rest q sloppy (if begins (10 ∷ []) cs then Continued else Between) cs
    else if (c == 10) || ((c == 8232) || (c == 8233)) then string_rest q sloppy Between cs
    else before (utf16 (single_escape c)) (string_rest q sloppy Between cs)
string_rest q sloppy (Due zero value) (c ∷ cs) = None
string_rest q sloppy (Due (suc zero) value) (c ∷ cs) =
    if is_hex c then before ((value * 16 + digit_value c) ∷ []) (string_rest q sloppy Between cs) else None
string_rest q sloppy (Due (suc (suc n)) value) (c ∷ cs) =
    if is_hex c then string_rest q sloppy (Due (suc n) (value * 16 + digit_value c)) cs else None
string_rest q sloppy Unicode (c ∷ cs) =
    if c == 123 then string_rest q sloppy (Braced false 0) cs
    else if is_hex c then string_rest q sloppy (Due 3 (digit_value c)) cs
    else None
string_rest q sloppy (Braced some value) (c ∷ cs) =
    if is_hex c then string_rest q sloppy (Braced true (value * 16 + digit_value c)) cs
    else if (c == 125) && (some && nat_le value 1114111) then before (utf16 value) (string_rest q sloppy Between cs)
    else None
string_rest q sloppy (Octal more value) (c ∷ cs) =
    if nat_lt 0 more && begins_octal cs then string_rest q sloppy (Octal (more - 1) (value * 8 + (c - 48))) cs
    else before ((value * 8 + (c - 48)) ∷ []) (string_rest q sloppy Between cs)
string_rest q sloppy Continued (c ∷ cs) = string_rest q sloppy Between cs

-- the units of a string literal, where it has no malformed escape
unfoldable pub string_value : Bool → List ℕ → Option (List ℕ)
string_value sloppy [] = None
string_value sloppy (q ∷ cs) = if is_quote q then string_rest q sloppy Between cs else None
