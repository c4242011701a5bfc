-- The value of a numeric literal as a program holds it, in three numbers of 128 bits.
use Rattle.std.specs.Prelude.{◌≡◌, ℕ, max}
use Rattle.swc_ecma_codegen_grammar.specs.declared.number_values.HeldNumber.{HeldNumber}
use Rattle.swc_ecma_codegen_grammar.specs.NumberValues.{MathValue}

-- What is held is this number, part by part.
abbrev pub IsHeld : HeldNumber → MathValue → Type 0
IsHeld held v = (held.whole ≡ v.whole) × (held.tens ≡ v.tens) × (held.tenths ≡ v.tenths)

-- the largest of the three: 2^128 or more has no room
abbrev pub largest_part : MathValue → ℕ
largest_part v = max v.whole (max v.tens v.tenths)
