-- Positions, where a writer keeps them.
use Rattle.std.specs.Prelude.{◌≡◌, Bool, true, false, is_some, List, [], Option, Some, None, Result, Ok, Err}
use Rattle.swc_ecma_codegen_common.specs.declared.errors.Refusal.{Refusal}
use Rattle.swc_ecma_codegen_common.specs.declared.positions.BytePos.{BytePos}
use Rattle.swc_ecma_codegen_text_writer.specs.Places.{Place}
use Rattle.swc_ecma_codegen_text_writer.specs.Reach.{Shows}
use Rattle.swc_ecma_codegen_text_writer.specs.Sheet.{Pair}
use Rattle.swc_ecma_codegen_text_writer.specs.Positions.{pairs, Records}
use Rattle.swc_ecma_codegen_text_writer.specs.declared.positions.Reached.{Reached}
use Rattle.swc_ecma_codegen_text_writer.specs.declared.positions.HoldsPairs as holds
use Rattle.swc_ecma_codegen_text_writer.specs.declared.positions.Positions.{Positions}
use Rattle.swc_ecma_codegen_text_writer.specs.declared.kept.OptionalPositions.{OptionalPositions}
use Rattle.swc_ecma_codegen_text_writer.specs.declared.kept.OwnedPositions.{OwnedPositions}

-- where positions are kept, this place was reached
abbrev pub IsCounted : Bool → Reached → Place → Type 0
IsCounted keeps r p = keeps ≡ true → Shows r p

-- a position was recorded at a place, or refused, where positions are kept
unfoldable pub RecordsIn : BytePos → Place → Bool → List Pair → List Pair → Result (Unit {0}) Refusal → Type 0
RecordsIn pos p true old new r = Records pos p old new r
RecordsIn pos p false old new (Ok _) = new ≡ old
RecordsIn pos p false old new (Err e) = ⊥

unfoldable pub pairs_in : {L : Type 0} {l : holds.Ghosts L} → Option (Positions L l) → List Pair
pairs_in (Some w) = pairs w
pairs_in None = []

unfoldable pub pending_in : {L : Type 0} {l : holds.Ghosts L} → Option (Positions L l) → Option BytePos
pending_in (Some w) = w.pending
pending_in None = None

unfoldable pub reached_in : {L : Type 0} {l : holds.Ghosts L} → Option (Positions L l) → Reached
reached_in (Some w) = w.reached
reached_in None = record { line = 0; column = 0; after_cr = false }

-- positions are kept, so many pairs of them, one that is pending, and the place that they count
abbrev pub keeps : OptionalPositions → Bool
keeps k = is_some k.positions

abbrev pub kept_pairs : OptionalPositions → List Pair
kept_pairs k = pairs_in k.positions

abbrev pub kept_pending : OptionalPositions → Option BytePos
kept_pending k = pending_in k.positions

abbrev pub kept_reached : OptionalPositions → Reached
kept_reached k = reached_in k.positions

-- the same of a list that is owned: its positions are kept
abbrev pub always : OwnedPositions → Bool
always k = true

abbrev pub owned_pairs : OwnedPositions → List Pair
owned_pairs k = pairs k.positions

abbrev pub owned_pending : OwnedPositions → Option BytePos
owned_pending k = k.positions.pending

abbrev pub owned_reached : OwnedPositions → Reached
owned_reached k = k.positions.reached
