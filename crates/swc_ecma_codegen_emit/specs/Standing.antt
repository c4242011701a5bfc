-- Where an emitter stands while it prints, and what it makes of plans.
use Rattle.std.specs.Prelude.{◌≡◌, ◌+◌, ◌≤◌, ℕ, Option, Some, None, Result, Ok, Err}
use Rattle.swc_ecma_codegen_common.specs.declared.errors.Refusal.{Refusal}
use Rattle.swc_ecma_codegen_grammar.specs.SourceLines.{Lines}
use Rattle.swc_ecma_codegen_grammar.specs.CommentMaps.{Maps}
use Rattle.swc_ecma_codegen_text_writer.specs.Sheet.{Sheet}
use Rattle.swc_ecma_codegen_tokens.specs.Run.{Plan, Part, State, Follows}
use Rattle.swc_ecma_codegen_emit.specs.declared.emitter.Emitter.{Emitter}
use Rattle.swc_ecma_codegen_emit.specs.View.{state_of}

-- where an emission stands, and why a call was refused, if one was
pub record Standing : Type 0 where
  pub state : State
  pub refusal : Option Refusal

abbrev pub standing_of : {W S C : Type 0} → (S → Lines) → (C → Maps) → (W → Sheet) → Emitter W S C → Standing
standing_of lines maps sheet e = record { state = state_of lines maps sheet e; refusal = e.refusal }

-- what is answered in the end
unfoldable pub outcome : Option Refusal → Result (Unit {0}) Refusal
outcome None = Ok tt
outcome (Some e) = Err e

-- why a call was refused, after one more, where none was before
unfoldable pub refusal_after : Option Refusal → Result (Unit {0}) Refusal → Option Refusal
refusal_after old (Ok u) = old
refusal_after old (Err e) = Some e

-- Nothing is done after a refusal. Before one a plan is followed from a, which stands at this level of indentation.
unfoldable pub LeadsAfter : Option Refusal → ℕ → Plan → Standing → Standing → Type 0
LeadsAfter None level p a b = Follows p a.state b.state (outcome b.refusal) × (b.refusal ≡ None → a.state.sheet.indentation ≡ level)
LeadsAfter (Some e) level p a b = b ≡ a

-- a plan is followed from a level of indentation on, unless a call was refused before
unfoldable pub Leads : ℕ → Plan → Standing → Standing → Type 0
Leads level p a b = LeadsAfter a.refusal level p a b

-- A part of a plan is made, or refused: what goes on after it goes on from b. The indentation stays, unless the part is refused: what goes
-- on from b at a level goes on from a at that level.
abbrev pub Makes : Part → Standing → Standing → Type 0
Makes part a b = (level : ℕ) (rest : Plan) (c : Standing) → Leads level rest b c → Leads level (part rest) a c

-- the same of a part behind which the indentation is so many levels deeper
abbrev pub MakesDeeper : ℕ → Part → Standing → Standing → Type 0
MakesDeeper n part a b = (level : ℕ) (rest : Plan) (c : Standing) → Leads (level + n) rest b c → Leads level (part rest) a c

-- and of one behind which it is so many levels less deep
abbrev pub MakesShallower : ℕ → Part → Standing → Standing → Type 0
MakesShallower n part a b = (level : ℕ) (rest : Plan) (c : Standing) → Leads level rest b c → Leads (level + n) (part rest) a c

-- A call that leads an emitter from here to there makes a part, and leaves the indentation what it was.
abbrev pub Performs : {W S C : Type 0} → Part → (S → Lines) → (C → Maps) → (W → Sheet) → Emitter W S C → Emitter W S C → Type 0
Performs part lines maps sheet a b = Makes part (standing_of lines maps sheet a) (standing_of lines maps sheet b)

-- it leaves the indentation so many levels deeper
abbrev pub PerformsDeeper : {W S C : Type 0} → ℕ → Part → (S → Lines) → (C → Maps) → (W → Sheet) → Emitter W S C → Emitter W S C → Type 0
PerformsDeeper n part lines maps sheet a b = MakesDeeper n part (standing_of lines maps sheet a) (standing_of lines maps sheet b)

-- it leaves the indentation so many levels less deep
abbrev pub PerformsShallower : {W S C : Type 0} → ℕ → Part → (S → Lines) → (C → Maps) → (W → Sheet) → Emitter W S C → Emitter W S C → Type 0
PerformsShallower n part lines maps sheet a b = MakesShallower n part (standing_of lines maps sheet a) (standing_of lines maps sheet b)

-- What goes on after a rest, now, goes on after the whole, from the start: a loop has come so far, and the indentation stays.
abbrev pub Continues : Part → Standing → Part → Standing → Type 0
Continues remaining now whole start = (level : ℕ) (rest : Plan) (c : Standing) → Leads level (remaining rest) now c → Leads level (whole rest) start c

-- ---- where no call is refused

-- the indentation is what it was
abbrev pub Stays : Standing → Standing → Type 0
Stays a b = b.refusal ≡ None → (a.refusal ≡ None) × (b.state.sheet.indentation ≡ a.state.sheet.indentation)

-- it is so many levels deep at least
abbrev pub HasLevels : ℕ → Standing → Type 0
HasLevels n a = a.refusal ≡ None → n ≤ a.state.sheet.indentation

-- the settings are what they were
abbrev pub KeepsSettings : Standing → Standing → Type 0
KeepsSettings a b = b.refusal ≡ None → b.state.env.config ≡ a.state.env.config
