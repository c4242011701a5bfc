-- The sheet of a writer that holds semicolons back, over the sheet of the writer under it.
use Rattle.std.specs.Prelude.{◌≡◌, ◌⊎◌, Bool, true, false, List, [], ◌∷◌, Option, Some, None, Result, Ok, Err}
use Rattle.swc_ecma_codegen_common.specs.declared.errors.Refusal.{Refusal}
use Rattle.swc_ecma_codegen_text_writer.specs.declared.semicolon.HeldSemi.{HeldSemi}
use Rattle.swc_ecma_codegen_text_writer.specs.Sheet.{Item, AllowBreak, Sheet, Semicolons, HoldsNone, HoldsOne, holds_semicolons, Commit, settled, Refuses}

-- it holds the semicolon that is pending, with the break that was allowed since, or none
abbrev pub semicolons_of : Option HeldSemi → Semicolons
semicolons_of None = HoldsNone
semicolons_of (Some semi) = HoldsOne semi.span semi.allows_break

-- the sheet of the writer under it, but for the semicolon
unfoldable pub with_held : Option HeldSemi → Sheet → Sheet
with_held pending s = record s { semicolons = semicolons_of pending }

-- It writes semicolons at once. Of a writer that was refused nothing is said.
abbrev pub WritesAtOnce : Sheet → Type 0
WritesAtOnce s = s.refused ≡ false → holds_semicolons s.semicolons ≡ false

-- The held semicolon went out.
unfoldable pub IsSettled : Sheet → Sheet → Type 0
IsSettled old new = (new ≡ settled old) × (old.refused ≡ false)

-- The held semicolon went out, or that was refused. Where none was held nothing is learnt of an earlier refusal.
unfoldable pub Settles : Sheet → Sheet → Result (Unit {0}) Refusal → Type 0
Settles old new (Ok _) = (new ≡ settled old) × ((old.refused ≡ false) ⊎ (new ≡ old))
Settles old new (Err e) = Refuses Commit e old new

-- ---- how a writer that holds semicolons stands over one that writes them at once

-- the break that was kept with a semicolon
unfoldable pub break_after : Bool → List Item
break_after true = AllowBreak ∷ []
break_after false = []

-- the same sheet with other semicolons
abbrev pub with_semicolons : Semicolons → Sheet → Sheet
with_semicolons q s = record s { semicolons = q }
