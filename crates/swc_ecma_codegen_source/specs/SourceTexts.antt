-- What a source text answers: which places stand on one line, and what the text of a span is.
use Rattle.std.specs.Prelude.{ℕ, ◌+◌, ◌-◌, ◌<◌, ◌≤◌, Bool, false, not, ◌&&◌, ◌||◌, ◌==◌, nat_lt, nat_le, min, max, if◌then◌else◌, List, [], ◌∷◌, length, slice_index, slice_range, Option, Some, None}
use Rattle.std.specs.Char.{len_utf8}
use Rattle.std.specs.Fmt.{is_char_start}
use Rattle.std.specs.List.{list_any}
use Rattle.std.specs.Str.{chars}
use Rattle.swc_ecma_codegen_common.specs.declared.positions.BytePos.{BytePos}
use Rattle.swc_ecma_codegen_grammar.specs.Chars.{is_line_end}
use Rattle.swc_ecma_codegen_grammar.specs.ListFormats.{multi_line, preserves_lines}
use Rattle.swc_ecma_codegen_grammar.specs.SourceLines.{Lines}

-- a text begins with LF
unfoldable pub begins_line_feed : List ℕ → Bool
begins_line_feed [] = false
begins_line_feed (c ∷ cs) = c == 10

-- The character c before these is the last one of a LineTerminatorSequence: of CR LF, which is one, only LF is. ECMA-262, section 12.3.
unfoldable pub ends_line : ℕ → List ℕ → Bool
ends_line c cs = is_line_end c && not ((c == 13) && begins_line_feed cs)

-- The places right behind the line ends of a text that begins at the place `at`, in bytes: of `a` CR LF `b` at 0 it is 3 alone.
unfoldable pub line_ends : ℕ → List ℕ → List ℕ
line_ends at [] = []
line_ends at (c ∷ cs) = if ends_line c cs then (at + len_utf8 c) ∷ line_ends (at + len_utf8 c) cs else line_ends (at + len_utf8 c) cs

-- A line end, by the place right behind it, stands between two places, whichever of them is first.
unfoldable pub is_between : ℕ → ℕ → ℕ → Bool
is_between left right end = nat_lt (min left right) end && nat_le end (max left right)

-- How many bytes of a text that begins at the position `first` stand before another: none can, if that one isn't in the text.
unfoldable pub place_of : List ℕ → ℕ → BytePos → Option ℕ
place_of text first pos = if nat_le first pos.0 && nat_le (pos.0 - first) (length text) then Some (pos.0 - first) else None

-- Both are places of the text, and no line end stands between them.
unfoldable pub share_line : List ℕ → Option ℕ → Option ℕ → Bool
share_line text None right = false
share_line text (Some left) None = false
share_line text (Some left) (Some right) = not (list_any (is_between left right) (line_ends 0 (chars text)))

-- A character begins at a place, or the text ends there: `é`, of two bytes, has such places at 0 and 2.
unfoldable pub is_at_character : List ℕ → ℕ → Bool
is_at_character text place = (place == length text) || (nat_lt place (length text) && is_char_start (slice_index text place))

-- The text from one place to another, where they stand in this order, each at a character.
unfoldable pub between : List ℕ → ℕ → ℕ → Option (List ℕ)
between text left right =
    if nat_le left right && (is_at_character text left && is_at_character text right) then Some (slice_range text left right) else None

-- The same where both are in the text.
unfoldable pub text_between : List ℕ → Option ℕ → Option ℕ → Option (List ℕ)
text_between text None right = None
text_between text (Some left) None = None
text_between text (Some left) (Some right) = between text left right

-- What a text answers whose first byte stands at the position `first`.
unfoldable pub lines_of : List ℕ → ℕ → Lines
lines_of text first = record {
  same_line = λ left right. share_line text (place_of text first left) (place_of text first right);
  snippet = λ span. text_between text (place_of text first span.lo) (place_of text first span.hi);
}

-- ---- lists that keep the lines of their source text

-- a position in a text that begins at the position `first`, or at its end; 0 is no position
abbrev pub IsIn : List ℕ → ℕ → BytePos → Type 0
IsIn text first pos = (first ≤ pos.0) × (pos.0 ≤ first + length text) × (0 < pos.0)

-- a line end stands between two positions in a text
unfoldable pub is_broken : List ℕ → ℕ → BytePos → BytePos → Bool
is_broken text first left right = list_any (is_between (left.0 - first) (right.0 - first)) (line_ends 0 (chars text))

-- PreserveLines without MultiLine
abbrev pub keeps_lines : ℕ → Bool
keeps_lines format = preserves_lines format && not (multi_line format)
