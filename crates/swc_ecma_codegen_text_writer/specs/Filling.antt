-- Texts in segments, between which a line may end.
use Rattle.std.specs.Prelude.{◌≡◌, ◌⊎◌, ℕ, ◌+◌, ◌<◌, ◌≤◌, Bool, true, false, List, [], ◌∷◌, ◌++◌, ◌&&◌, nat_lt, if◌then◌else◌, ⊤}
use Rattle.swc_ecma_codegen_text_writer.specs.Places.{Place, after_text, units_of}
use Rattle.swc_ecma_codegen_text_writer.specs.Characters.{is_line_end}

-- LF, or CR and LF
abbrev pub IsLineEnd : List ℕ → Type 0
IsLineEnd t = (t ≡ 10 ∷ []) ⊎ (t ≡ 13 ∷ 10 ∷ [])

-- the UTF-16 units of a text's first line
unfoldable pub first_units : List ℕ → ℕ
first_units [] = 0
first_units (byte ∷ bytes) = if is_line_end byte then 0 else units_of byte + first_units bytes

-- A segment, and whether a line end is put before it. Where none is, the allowed break there isn't taken.
pub record Part : Type 0 where
  pub ended : Bool
  pub segment : List ℕ

-- the segments of some parts
unfoldable pub segments_of : List Part → List (List ℕ)
segments_of [] = []
segments_of (x ∷ xs) = x.segment ∷ segments_of xs

-- segments, one after the other
unfoldable pub joined : List (List ℕ) → List ℕ
joined [] = []
joined (s ∷ ss) = s ++ joined ss

-- the text of one part
unfoldable pub part_text : List ℕ → Bool → List ℕ → List ℕ
part_text line_end ended s = if ended then line_end ++ s else s

-- the text of some parts
unfoldable pub text_of : List ℕ → List Part → List ℕ
text_of line_end [] = []
text_of line_end (x ∷ xs) = part_text line_end x.ended x.segment ++ text_of line_end xs

-- Where an allowed break isn't taken, and its line has text before it and behind it, that line has at most `max` units. So a
-- line has at most `max` units, or no allowed break between two parts of its text.
unfoldable pub IsBounded : ℕ → List ℕ → Place → List Part → Type 0
IsBounded max line_end p [] = ⊤
IsBounded max line_end p (x ∷ xs) =
    (x.ended ≡ false → 0 < p.column → 0 < first_units (x.segment ++ text_of line_end xs) → p.column + first_units (x.segment ++ text_of line_end xs) ≤ max)
    × IsBounded max line_end (after_text (part_text line_end x.ended x.segment) p) xs

-- A line end is put only before a segment that has no room: the line so far and the segment's first line have together more than
-- `max` units, and neither is empty.
unfoldable pub IsNeeded : ℕ → List ℕ → Place → List Part → Type 0
IsNeeded max line_end p [] = ⊤
IsNeeded max line_end p (x ∷ xs) =
    (x.ended ≡ true → (0 < p.column) × ((0 < first_units x.segment) × (max < p.column + first_units x.segment)))
    × IsNeeded max line_end (after_text (part_text line_end x.ended x.segment) p) xs

-- a line end is due before a segment, at a place
unfoldable pub is_due : ℕ → ℕ → ℕ → Bool
is_due max column units = nat_lt 0 column && (nat_lt 0 units && nat_lt max (column + units))

-- the parts where each segment goes to the line that was begun, if there is room
unfoldable pub filled : ℕ → List ℕ → Place → List (List ℕ) → List Part
filled max line_end p [] = []
filled max line_end p (s ∷ ss) =
    record { ended = is_due max p.column (first_units s); segment = s }
    ∷ filled max line_end (after_text (part_text line_end (is_due max p.column (first_units s)) s) p) ss

-- how many line ends a text has, that begins at a place
abbrev pub last_line : List ℕ → Place → ℕ
last_line text p = (after_text text p).line
