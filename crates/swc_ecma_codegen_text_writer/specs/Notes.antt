-- A segment that is held as one text, with the offsets at which positions are to be recorded.
use Rattle.std.specs.Prelude.{ℕ, Bool, ◌&&◌, nat_le, List, [], ◌∷◌}
use Rattle.std.specs.List.{slice_range, All}
use Rattle.std.specs.Str.{IsCharBoundary}
use Rattle.std.proofs.Common.{drop}
use Rattle.swc_ecma_codegen_common.specs.declared.positions.BytePos.{BytePos}
use Rattle.swc_ecma_codegen_text_writer.specs.Sheet.{Segment}
use Rattle.swc_ecma_codegen_text_writer.specs.declared.held.Note.{Note}

-- the texts before the offsets, each with its position
unfoldable pub noted_of : List ℕ → ℕ → List Note → List (List ℕ × BytePos)
noted_of text from [] = []
noted_of text from (n ∷ ns) = (slice_range text from n.offset, n.pos) ∷ noted_of text n.offset ns

-- the last offset
unfoldable pub last_of : ℕ → List Note → ℕ
last_of from [] = from
last_of from (n ∷ ns) = last_of n.offset ns

-- the offsets come in order, and stand in a text of so many bytes
unfoldable pub are_in_order : ℕ → List Note → ℕ → Bool
are_in_order from [] len = nat_le from len
are_in_order from (n ∷ ns) len = nat_le from n.offset && are_in_order n.offset ns len

unfoldable pub segment_of : List ℕ → List Note → Segment
segment_of text notes = record { noted = noted_of text 0 notes; rest = drop (last_of 0 notes) text }

-- each offset stands between two characters of a text, or at an end of it
abbrev pub AreBoundaries : List ℕ → List Note → Type 0
AreBoundaries text notes = All (λ (n : Note). IsCharBoundary text n.offset) notes
