-- What the text of a template stands for: "TV". ECMA-262, section 12.9.6.
use Rattle.std.specs.Prelude.{ℕ, zero, suc, ◌+◌, ◌*◌, true, false, not, List, [], ◌∷◌, ◌&&◌, ◌||◌, ◌==◌, nat_le, Option, Some, None, if◌then◌else◌}
use Rattle.std.specs.Char.{digit_value}
use Rattle.swc_ecma_codegen_grammar.specs.Chars.{is_digit, begins_digit}
use Rattle.swc_ecma_codegen_grammar.specs.Numbers.{is_hex}
use Rattle.swc_ecma_codegen_grammar.specs.Texts.{begins}
use Rattle.swc_ecma_codegen_grammar.specs.CodeUnits.{utf16}
use Rattle.swc_ecma_codegen_grammar.specs.declared.units.Place.{Place}
use Rattle.swc_ecma_codegen_grammar.specs.declared.units.Place.TheVariants.{Between, Escaped, Due, Unicode, Braced, Octal, Continued}
use Rattle.swc_ecma_codegen_grammar.specs.StringValues.{before, single_escape}

-- The units of the rest of a template's text, where it has no malformed escape: no octal one, neither `\8` nor `\9`. CR LF
-- and CR are LF. A bare back quote and a bare `${` aren't text.
unfoldable pub cooked_rest : Place → List ℕ → Option (List ℕ)
cooked_rest Between [] = Some []
cooked_rest place [] = None
cooked_rest Between (c ∷ cs) =
    if c == 96 then None
    else if (c == 36) && begins (123 ∷ []) cs then None
    else if c == 92 then cooked_rest Escaped cs
    else if c == 13 then (if begins (10 ∷ []) cs then cooked_rest Between cs else before (10 ∷ []) (cooked_rest Between cs))
    else before (utf16 c) (cooked_rest Between cs)
cooked_rest Escaped (c ∷ cs) =
    if c == 120 then cooked_rest (Due 2 0) cs
    else if c == 117 then cooked_rest Unicode cs
    else if (c == 48) && not (begins_digit cs) then before (0 ∷ []) (cooked_rest Between cs)
    else if is_digit c then None
    else if c == 13 then cooked_rest (if begins (10 ∷ []) cs then Continued else Between) cs
    else if (c == 10) || ((c == 8232) || (c == 8233)) then cooked_rest Between cs
    else before (utf16 (single_escape c)) (cooked_rest Between cs)
cooked_rest (Due zero value) (c ∷ cs) = None
cooked_rest (Due (suc zero) value) (c ∷ cs) =
    if is_hex c then before ((value * 16 + digit_value c) ∷ []) (cooked_rest Between cs) else None
cooked_rest (Due (suc (suc n)) value) (c ∷ cs) =
    if is_hex c then cooked_rest (Due (suc n) (value * 16 + digit_value c)) cs else None
cooked_rest Unicode (c ∷ cs) =
    if c == 123 then cooked_rest (Braced false 0) cs
    else if is_hex c then cooked_rest (Due 3 (digit_value c)) cs
    else None
cooked_rest (Braced some value) (c ∷ cs) =
    if is_hex c then cooked_rest (Braced true (value * 16 + digit_value c)) cs
    else if (c == 125) && (some && nat_le value 1114111) then before (utf16 value) (cooked_rest Between cs)
    else None
cooked_rest (Octal more value) (c ∷ cs) = None
cooked_rest Continued (c ∷ cs) = cooked_rest Between cs

-- the units of a template's text, where it has a cooked value
abbrev pub cooked_value : List ℕ → Option (List ℕ)
cooked_value text = cooked_rest Between text
