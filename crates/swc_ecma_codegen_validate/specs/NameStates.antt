-- Where the reading of a name in a tree stands.
use Rattle.std.specs.Prelude.{◌≡◌, ℕ, Bool, List, ◌∷◌}
use Rattle.swc_ecma_codegen_grammar.specs.Names.{name_rest, IsSmall}
use Rattle.swc_ecma_codegen_grammar.specs.ValidNames.{turned_after}
use Rattle.swc_ecma_codegen_validate.specs.declared.names.NameState.{NameState}

-- these characters are the rest of one
unfoldable pub goes_on : NameState → List ℕ → Bool
goes_on s rest = name_rest s.first s.place (turned_after s.after rest)

-- where it stands after one more
unfoldable pub IsNext : NameState → ℕ → NameState → Type 0
IsNext s c after = ((rest : List ℕ) → goes_on s (c ∷ rest) ≡ goes_on after rest) × IsSmall after.place
