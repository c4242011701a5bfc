-- What is held while lines are filled.
use Rattle.std.specs.Prelude.{◌≡◌, Bool, false, List, [], Option, Some, None, length, string_bytes}
use Rattle.swc_ecma_codegen_text_writer.specs.Notes.{segment_of}
use Rattle.swc_ecma_codegen_text_writer.specs.Reach.{is_in_line}
use Rattle.swc_ecma_codegen_text_writer.specs.Sheet.{Sheet, Segment, Flow, Flowing, Filling, ends_before}
use Rattle.swc_ecma_codegen_text_writer.specs.declared.held.Note.{Note}
use Rattle.swc_ecma_codegen_text_writer.specs.declared.held.HeldText.{HeldText}
use Rattle.swc_ecma_codegen_text_writer.specs.declared.held.Held.{Held}

-- the segment of a text that is held
abbrev pub segment_in : HeldText → Segment
segment_in held = segment_of (string_bytes held.text) held.notes.items

-- the positions that are held
abbrev pub notes_in : Option Held → List Note
notes_in None = []
notes_in (Some held) = held.segment.notes.items

-- what lines are made: they are filled where something is held
abbrev pub flow_of : Option Held → Flow
flow_of None = Flowing
flow_of (Some held) = Filling held.max held.first (segment_in held.segment)

-- what is held goes out as it is: it has no positions, and no line end is due before it; and whether it stays in its line
unfoldable pub GoesOn : Bool → Option Held → Sheet → Type 0
GoesOn stays None s = ⊥
GoesOn stays (Some held) s =
    (stays ≡ is_in_line (string_bytes held.segment.text))
    × ((length held.segment.notes.items ≡ 0)
    × (ends_before held.max held.first (segment_in held.segment) s ≡ false))
