-- What a writer has recorded, and where it is.
use Rattle.std.specs.Prelude.{◌≡◌, List, [], ◌∷◌, ◌++◌, Result, Ok, Err}
use Rattle.swc_ecma_codegen_common.specs.declared.errors.Refusal.{Refusal}
use Rattle.swc_ecma_codegen_common.specs.declared.errors.Refusal.TheVariants.{Writer, OutOfMemory, UnsupportedNode, BadShape, NameOutOfTarget, PositionTooLarge, Failed}
use Rattle.swc_ecma_codegen_common.specs.declared.positions.BytePos.{BytePos}
use Rattle.swc_ecma_codegen_text_writer.specs.Places.{Place}
use Rattle.swc_ecma_codegen_text_writer.specs.Sheet.{Pair, IsFar, pair_at, with_pair}
use Rattle.swc_ecma_codegen_text_writer.specs.Reach.{Shows}
use Rattle.swc_ecma_codegen_text_writer.specs.declared.positions.HoldsPairs as holds
use Rattle.swc_ecma_codegen_text_writer.specs.declared.positions.Positions.{Positions}

-- the pairs of the list, those that were handed in first
abbrev pub pairs : {L : Type 0} {l : holds.Ghosts L} → Positions L l → List Pair
pairs {l = l} w = l.pairs w.list

-- this place was reached, and a count stays at 2 ^ 32
abbrev pub Counts : {L : Type 0} {l : holds.Ghosts L} → Positions L l → Place → Type 0
Counts w p = Shows w.reached p

-- A position was recorded at a place, or refused, and then the pairs are the same; one that had no room isn't among them.
unfoldable pub Records : BytePos → Place → List Pair → List Pair → Result (Unit {0}) Refusal → Type 0
Records pos p old new (Ok _) = new ≡ with_pair pos p old
Records pos p old new (Err Writer) = ⊥
Records pos p old new (Err OutOfMemory) = (new ≡ old) × (with_pair pos p old ≡ new ++ (pair_at pos p ∷ []))
Records pos p old new (Err UnsupportedNode) = ⊥
Records pos p old new (Err BadShape) = ⊥
Records pos p old new (Err NameOutOfTarget) = ⊥
Records pos p old new (Err PositionTooLarge) = IsFar p × (new ≡ old)
Records pos p old new (Err Failed) = ⊥
