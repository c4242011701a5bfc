-- The code units of a text that are still to come.
use Rattle.std.specs.Prelude.{ℕ, List, ◌∷◌, Option, Some, None}
use Rattle.swc_ecma_codegen_grammar.specs.CodeUnits.{units}

-- a low surrogate, whose character came already, and then those of the rest
unfoldable pub left_units : Option ℕ → List ℕ → List ℕ
left_units None rest = units rest
left_units (Some low) rest = low ∷ units rest
