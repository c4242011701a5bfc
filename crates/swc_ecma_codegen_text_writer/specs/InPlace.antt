-- What is held where it goes out in place.
use Rattle.std.specs.Prelude.{◌≡◌, Bool, false, true, Option, Some, None, length, string_bytes}
use Rattle.swc_ecma_codegen_text_writer.specs.Reach.{is_in_line}
use Rattle.swc_ecma_codegen_text_writer.specs.Sheet.{Sheet, Filling, no_segment, ends_before, released}
use Rattle.swc_ecma_codegen_text_writer.specs.Held.{segment_in}
use Rattle.swc_ecma_codegen_text_writer.specs.declared.held.Held.{Held}

-- what is held stays in its line, and no positions are kept
unfoldable pub IsHeldInLine : Option Held → Sheet → Type 0
IsHeldInLine None s = ⊥
IsHeldInLine (Some held) s = (is_in_line (string_bytes held.segment.text) ≡ true) × (s.keeps_positions ≡ false)

-- the same, without positions in it; and whether a line end is due before it
unfoldable pub GoesInLine : Bool → Option Held → Sheet → Type 0
GoesInLine due None s = ⊥
GoesInLine due (Some held) s =
    IsHeldInLine (Some held) s
    × ((length held.segment.notes.items ≡ 0)
    × (ends_before held.max held.first (segment_in held.segment) s ≡ due))

-- what is held goes out, and nothing is held then
unfoldable pub held_released : Option Held → Sheet → Sheet
held_released None s = s
held_released (Some held) s = record (released (string_bytes held.segment.text) s) { lines = Filling held.max false no_segment }
