-- A decoder of names with the places of strings, so that a name in quotes is decoded step by step beside it.
use Rattle.std.specs.Prelude.{ℕ, zero, suc, ◌+◌, ◌*◌, true, false, List, [], ◌∷◌, ◌&&◌, ◌==◌, nat_le, Option, Some, None, if◌then◌else◌}
use Rattle.std.specs.Char.{digit_value}
use Rattle.swc_ecma_codegen_grammar.specs.Numbers.{is_hex}
use Rattle.swc_ecma_codegen_grammar.specs.declared.units.Place.{Place}
use Rattle.swc_ecma_codegen_grammar.specs.declared.units.Place.TheVariants.{Between, Escaped, Due, Unicode, Braced, Octal, Continued}
use Rattle.swc_ecma_codegen_grammar.specs.StringValues.{before}

-- The characters of the rest of a name, whose escapes are `\u0061` and `\u{61}` alone.
unfoldable pub name_rest : Place → List ℕ → Option (List ℕ)
name_rest Between [] = Some []
name_rest Between (c ∷ cs) = if c == 92 then name_rest Escaped cs else before (c ∷ []) (name_rest Between cs)
name_rest Escaped [] = None
name_rest Escaped (c ∷ cs) = if c == 117 then name_rest Unicode cs else None
name_rest (Due n value) [] = None
name_rest (Due zero value) (c ∷ cs) = None
name_rest (Due (suc zero) value) (c ∷ cs) =
    if is_hex c then before ((value * 16 + digit_value c) ∷ []) (name_rest Between cs) else None
name_rest (Due (suc (suc n)) value) (c ∷ cs) =
    if is_hex c then name_rest (Due (suc n) (value * 16 + digit_value c)) cs else None
name_rest Unicode [] = None
name_rest Unicode (c ∷ cs) =
    if c == 123 then name_rest (Braced false 0) cs
    else if is_hex c then name_rest (Due 3 (digit_value c)) cs
    else None
name_rest (Braced some value) [] = None
name_rest (Braced some value) (c ∷ cs) =
    if is_hex c then name_rest (Braced true (value * 16 + digit_value c)) cs
    else if (c == 125) && (some && nat_le value 1114111) then before (value ∷ []) (name_rest Between cs)
    else None
name_rest (Octal more value) text = None
name_rest Continued text = None

-- the characters of a name, where it has no malformed escape
abbrev pub name_characters : List ℕ → Option (List ℕ)
name_characters text = name_rest Between text
