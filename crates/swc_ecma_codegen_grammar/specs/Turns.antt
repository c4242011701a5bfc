-- What one character of a string or a template does. ECMA-262, sections 12.9.4 and 12.9.6.
use Rattle.std.specs.Prelude.{ℕ, zero, suc, Bool, true, List, [], ◌∷◌, ◌≡◌, ◌<◌, ◌≤◌, ⊤, Option, Some, None}
use Rattle.swc_ecma_codegen_grammar.specs.declared.units.Place.{Place}
use Rattle.swc_ecma_codegen_grammar.specs.declared.units.Place.TheVariants.{Due, Braced, Octal}
use Rattle.swc_ecma_codegen_grammar.specs.declared.turns.Turn.{Turn}
use Rattle.swc_ecma_codegen_grammar.specs.declared.turns.Turn.TheVariants.{Malformed, Ends, Goes, Gives}
use Rattle.swc_ecma_codegen_grammar.specs.CodeUnits.{utf16}
use Rattle.swc_ecma_codegen_grammar.specs.StringValues.{before, begins_octal, string_rest}
use Rattle.swc_ecma_codegen_grammar.specs.TemplateValues.{cooked_rest}

-- a text that begins with the next character, if there is one, and goes on with `tail`
unfoldable pub ahead : Option ℕ → List ℕ → List ℕ
ahead None tail = []
ahead (Some c) tail = c ∷ tail

-- what a text stands for, by what its first character does and what the rest stands for from each place
unfoldable pub after : Turn → (Place → Option (List ℕ)) → Option (List ℕ)
after Malformed rest = None
after Ends rest = Some []
after (Goes place) rest = rest place
after (Gives code place) rest = before (utf16 code) (rest place)

-- so many hexadecimal digits are due after others of this value: of four in all
unfoldable pub IsDue : ℕ → ℕ → Type 0
IsDue zero value = ⊥
IsDue (suc zero) value = value < 4096
IsDue (suc (suc zero)) value = value < 256
IsDue (suc (suc (suc zero))) value = value < 16
IsDue (suc (suc (suc (suc n)))) value = ⊥

-- so many octal digits may come after the next one, which follows others of this value: of three in all
unfoldable pub IsOctalDue : ℕ → ℕ → Type 0
IsOctalDue zero value = value < 64
IsOctalDue (suc zero) value = value < 8
IsOctalDue (suc (suc n)) value = ⊥

-- a place that a reading comes to before this text
unfoldable pub IsReached : Place → List ℕ → Type 0
IsReached (Due digits value) text = IsDue digits value
IsReached (Braced some value) text = value ≤ 1114111
IsReached (Octal more value) text = IsOctalDue more value × (begins_octal text ≡ true)
IsReached place text = ⊤

-- the place after a turn is reached, and what it gives is a code point
unfoldable pub LeadsOn : Turn → List ℕ → Type 0
LeadsOn (Goes place) text = IsReached place text
LeadsOn (Gives code place) text = (code ≤ 1114111) × IsReached place text
LeadsOn turn text = ⊤

-- `turn` is what `c` does in a string at this place before `rest`
abbrev pub IsStringTurn : ℕ → Bool → Place → ℕ → List ℕ → Turn → Type 0
IsStringTurn q sloppy place c rest turn =
    (string_rest q sloppy place (c ∷ rest) ≡ after turn (λ next. string_rest q sloppy next rest)) × LeadsOn turn rest

-- `turn` is what `c` does in a template at this place before `rest`
abbrev pub IsTemplateTurn : Place → ℕ → List ℕ → Turn → Type 0
IsTemplateTurn place c rest turn = (cooked_rest place (c ∷ rest) ≡ after turn (λ next. cooked_rest next rest)) × LeadsOn turn rest

-- `turn` is what `c` does at this place before `rest` in each string and each template
abbrev pub IsTurn : Place → ℕ → List ℕ → Turn → Type 0
IsTurn place c rest turn = ((q : ℕ) (sloppy : Bool) → IsStringTurn q sloppy place c rest turn) × IsTemplateTurn place c rest turn
