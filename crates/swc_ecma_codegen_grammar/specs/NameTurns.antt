-- What one character of a name does. ECMA-262, section 12.7.
use Rattle.std.specs.Prelude.{◌≡◌, ℕ, Bool, false, List, ◌∷◌, ⊤}
use Rattle.swc_ecma_codegen_grammar.specs.declared.names.Place.{Place}
use Rattle.swc_ecma_codegen_grammar.specs.declared.names.Place.TheVariants.{Between}
use Rattle.swc_ecma_codegen_grammar.specs.declared.names.NameTurn.{NameTurn}
use Rattle.swc_ecma_codegen_grammar.specs.declared.names.NameTurn.TheVariants.{Unfit, Goes, Gives}
use Rattle.swc_ecma_codegen_grammar.specs.Names.{name_rest, name_characters, IsSmall}

-- `turn` is what `c` does at this place before `rest`: no name goes on like this, or the reading goes on, or `c` completes a character
unfoldable pub IsNameTurn : Bool → Place → ℕ → List ℕ → NameTurn → Type 0
IsNameTurn first place c rest Unfit = name_rest first place (c ∷ rest) ≡ false
IsNameTurn first place c rest (Goes next) =
    (name_rest first place (c ∷ rest) ≡ name_rest first next rest) × (name_characters place (c ∷ rest) ≡ name_characters next rest)
IsNameTurn first place c rest (Gives d) =
    (name_rest first place (c ∷ rest) ≡ name_rest false Between rest) × (name_characters place (c ∷ rest) ≡ d ∷ name_characters Between rest)

-- the place after a turn has a value that so many digits may have
unfoldable pub LeadsOn : NameTurn → Type 0
LeadsOn (Goes next) = IsSmall next
LeadsOn turn = ⊤
