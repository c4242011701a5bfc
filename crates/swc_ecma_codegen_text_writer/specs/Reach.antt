-- The place that a writer counts.
use Rattle.std.specs.Prelude.{◌≡◌, ℕ, ◌+◌, ◌^◌, ◌<◌, ◌≤◌, min, Bool, false, ◌&&◌, nat_le, List}
use Rattle.std.specs.List.{list_all}
use Rattle.swc_ecma_codegen_common.specs.declared.positions.LineCol.{LineCol}
use Rattle.swc_ecma_codegen_text_writer.specs.Places.{Place}
use Rattle.swc_ecma_codegen_text_writer.specs.declared.positions.Reached.{Reached}

-- it is a place, but that a count stays at 2 ^ 32
abbrev pub Shows : Reached → Place → Type 0
Shows r p = (r.line ≡ min p.line (2 ^ 32)) × ((r.column ≡ min p.column (2 ^ 32)) × (r.after_cr ≡ p.after_cr))

-- further in the line
abbrev pub further : ℕ → Place → Place
further units p = record { line = p.line; column = p.column + units; after_cr = false }

-- the second is the first, or stands after it, as far as 32 bits tell
abbrev pub IsFrom : Reached → Reached → Type 0
IsFrom a b = (a.line ≤ b.line) × (a.line < 2 ^ 32 → a.line ≡ b.line → a.column ≤ b.column)

-- a recorded place is the one that was reached
abbrev pub IsAt : LineCol → Reached → Type 0
IsAt x r = (x.line < 2 ^ 32) × ((x.line ≡ r.line) × (x.col ≡ r.column))

-- or stands before it
abbrev pub IsBefore : LineCol → Reached → Type 0
IsBefore x r = (x.line < 2 ^ 32) × ((x.line ≤ r.line) × (x.line ≡ r.line → x.col < r.column))

-- a character of ASCII that takes one column and ends no line
unfoldable pub is_one_column : ℕ → Bool
is_one_column byte = nat_le 14 byte && nat_le byte 127

-- a text of these
abbrev pub is_in_line : List ℕ → Bool
is_in_line text = list_all is_one_column text
