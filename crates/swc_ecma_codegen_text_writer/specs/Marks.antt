-- The lines of a text, and the allowed breaks in them.
use Rattle.std.specs.Prelude.{◌≡◌, ◌⊎◌, ℕ, ◌+◌, ◌<◌, ◌≤◌, Bool, true, false, ◌==◌, List, [], ◌∷◌, ◌++◌, Option, Some, None, if◌then◌else◌}
use Rattle.swc_ecma_codegen_text_writer.specs.Places.{units_of}
use Rattle.swc_ecma_codegen_text_writer.specs.Filling.{Part}

-- A byte, or an allowed break that isn't taken.
abbrev pub Mark : Type 0
Mark = Option ℕ

unfoldable pub bytes_of : List Mark → List ℕ
bytes_of [] = []
bytes_of (None ∷ ms) = bytes_of ms
bytes_of (Some c ∷ ms) = c ∷ bytes_of ms

unfoldable pub marks_of : List ℕ → List Mark
marks_of [] = []
marks_of (c ∷ cs) = Some c ∷ marks_of cs

-- the text of some parts, with the allowed breaks that aren't taken
unfoldable pub marked : List ℕ → List Part → List Mark
marked line_end [] = []
marked line_end (x ∷ xs) = (if x.ended then marks_of line_end else (None ∷ [])) ++ (marks_of x.segment ++ marked line_end xs)

-- A text's first line, and the others, which end with LF, CR, or CR and LF; `cr`: a CR stands right before the text.
unfoldable pub first_line : Bool → List Mark → List Mark
first_line cr [] = []
first_line cr (None ∷ ms) = None ∷ first_line cr ms
first_line cr (Some c ∷ ms) =
    if c == 10 then (if cr then first_line false ms else [])
    else if c == 13 then []
    else Some c ∷ first_line false ms

unfoldable pub later_lines : Bool → List Mark → List (List Mark)
later_lines cr [] = []
later_lines cr (None ∷ ms) = later_lines cr ms
later_lines cr (Some c ∷ ms) =
    if c == 10 then (if cr then later_lines false ms else (first_line false ms ∷ later_lines false ms))
    else if c == 13 then first_line true ms ∷ later_lines true ms
    else later_lines false ms

abbrev pub lines_of : Bool → List Mark → List (List Mark)
lines_of cr ms = first_line cr ms ∷ later_lines cr ms

-- its UTF-16 units
unfoldable pub units : List Mark → ℕ
units [] = 0
units (None ∷ ms) = units ms
units (Some c ∷ ms) = units_of c + units ms

-- An allowed break stands in a line, and text before it and behind it.
abbrev pub HoldsBreak : List Mark → Type 0
HoldsBreak line = (before after : List Mark) × (line ≡ before ++ (None ∷ after)) × (0 < units before) × (0 < units after)

-- A line has at most `max` units, or holds no allowed break.
abbrev pub IsShort : ℕ → List Mark → Type 0
IsShort max line = (units line ≤ max) ⊎ (HoldsBreak line → ⊥)
