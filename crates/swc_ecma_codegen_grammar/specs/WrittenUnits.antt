-- Code units that are written as escapes, in plain characters.
use Rattle.std.specs.Prelude.{ℕ, true, List, [], ◌≡◌, ◌<◌, take, drop}
use Rattle.std.specs.Str.Parse.{digits_value}
use Rattle.swc_ecma_codegen_grammar.specs.CodeUnits.{begins_like, four_digits, escape_length, escape_unit}

-- a text is four hexadecimal digits from D800 to DFFF, which have this value, and then `rest`
abbrev pub IsSurrogate : List ℕ → ℕ → List ℕ → Type 0
IsSurrogate text unit rest =
    (begins_like (four_digits []) text ≡ true) × (unit ≡ digits_value 16 (take 4 text)) × (unit < 65536) × (rest ≡ drop 4 text)

-- a text is a complete written surrogate escape after its backslash, which stands for this unit, and then `rest`
abbrev pub IsWrittenUnit : List ℕ → ℕ → List ℕ → Type 0
IsWrittenUnit text unit rest =
    (0 < escape_length text) × (unit ≡ escape_unit text) × (unit < 65536) × (rest ≡ drop (escape_length text) text)
