-- The column that a writer counts.
use Rattle.std.specs.Prelude.{◌≡◌, ℕ, ◌^◌, min, true}
use Rattle.swc_ecma_codegen_text_writer.specs.Places.{Place}

-- so many units are the column of a place, as far as 32 bits tell; and after CR a line begins
abbrev pub Stands : ℕ → Place → Type 0
Stands units p = (min units (2 ^ 32) ≡ min p.column (2 ^ 32)) × (p.after_cr ≡ true → p.column ≡ 0)
