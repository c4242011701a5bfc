-- The code units of a text, one after another.
use Rattle.std.proofs.Common.{◌≡◌, ℕ, Bool, true, false, ◌&&◌, ◌==◌, cond, List, [], ◌∷◌, ◌++◌, Option, None, Some, option_to_list, refl, ap, ◌∙◌}
use Rattle.swc_ecma_codegen_grammar.proofs.TurnLaws.{utf16_one}
use Rattle.swc_ecma_codegen_grammar.proofs.UnitLaws.{units_escape}
use Rattle.swc_ecma_codegen_grammar.specs.CodeUnits.{escape_length, escape_unit, units, units_after, utf16}
use Rattle.swc_ecma_codegen_grammar.specs.WrittenUnits.{IsWrittenUnit}
use Rattle.swc_ecma_codegen_validate.specs.UnitStates.{left_units}

pub escaped : (c : ℕ) (text rest : List ℕ) (unit : ℕ) → c ≡ 92 → IsWrittenUnit text unit rest → units (c ∷ text) ≡ unit ∷ units rest
escaped c text rest unit e h = ap (λ d. units (d ∷ text)) e ∙ units_escape text rest unit h ∙ ap (λ us. us ++ units rest) (utf16_one unit h.2)

pub unescaped : (c : ℕ) (text : List ℕ) → escape_length text ≡ 0 → units (c ∷ text) ≡ utf16 c ++ units text
unfolding units_after
unescaped c text h = rw h (choice (c == 92))
  where
    choice : (b : Bool) → cond (b && false) (escape_unit text ∷ units_after 0 text) (utf16 c ++ units_after 0 text) ≡ utf16 c ++ units_after 0 text
    choice true = refl
    choice false = refl

pub plain : (c : ℕ) (text : List ℕ) → (c == 92) ≡ false → units (c ∷ text) ≡ utf16 c ++ units text
unfolding units_after
plain c text h = rw h refl

pub split : (c first : ℕ) (second : Option ℕ) (text : List ℕ) → utf16 c ≡ first ∷ option_to_list second → utf16 c ++ units text ≡ first ∷ left_units second text
unfolding left_units
split c first None text h = rw h refl
split c first (Some low) text h = rw h refl

pub none_left : units [] ≡ []
unfolding units_after
none_left = refl
