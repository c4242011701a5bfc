-- What is written of lists of nodes, by the bits of their formats.
use Rattle.std.specs.Prelude.{ℕ, nat_lt, ◌==◌, ◌&&◌, Bool, true, false, not, if◌then◌else◌, List, [], ◌∷◌, length, codes, Option, Some, None}
use Rattle.std.specs.Char.{is_whitespace}
use Rattle.std.specs.Str.{chars}
use Rattle.swc_ecma_codegen_common.specs.declared.positions.Span.{Span}
use Rattle.swc_ecma_codegen_settings.specs.declared.config.Config.{Config}
use Rattle.swc_ecma_codegen_text_writer.specs.Sheet.{Deeper, Shallower}
use Rattle.swc_ecma_codegen_grammar.specs.SourceLines.{Lines}
use Rattle.swc_ecma_codegen_grammar.specs.ListFormats.{multi_line, bar_delimited, ampersand_delimited, comma_delimited, allows_trailing_comma, indented, space_between_braces, space_between_siblings, optional_if_undefined, optional_if_empty, no_intervening_comments, no_space_if_empty, forces_trailing_comma, can_skip_trailing_comma, leading_line, separating_line, closing_line}
use Rattle.swc_ecma_codegen_tokens.specs.Run.{Part, step, Plain, Remake, when_minified, no_part}
use Rattle.swc_ecma_codegen_tokens.specs.Words.{punct, formatting_space, formatting_line, trailing_comments}

-- a child of a list: where it stands, and what is written of it
pub record ListChild : Type 0 where
  pub place : Span
  pub part : Part

-- what depends on where lines end in the source text
unfoldable pub by_lines : (Lines → Part) → Part
by_lines ask rest env = ask env.lines rest env

-- ---- blanks, line ends and indentation, none of them where the settings are to minify

unfoldable pub blank_if : Bool → Part
blank_if wanted rest = if wanted then formatting_space rest else rest

-- the line ends, or else a blank stands where one is wanted
unfoldable pub line_or_blank : Bool → Bool → Part
line_or_blank line wanted rest = if line then formatting_line rest else blank_if wanted rest

-- one level of indentation more, and one less
unfoldable pub deeper : Part
deeper rest = step (Plain Deeper) rest

unfoldable pub formatting_deeper : Part
formatting_deeper = when_minified no_part deeper

unfoldable pub deeper_if : Bool → Part
deeper_if wanted rest = if wanted then formatting_deeper rest else rest

unfoldable pub shallower : Part
shallower rest = step (Plain Shallower) rest

unfoldable pub formatting_shallower : Part
formatting_shallower = when_minified no_part shallower

unfoldable pub shallower_if : Bool → Part
shallower_if wanted rest = if wanted then formatting_shallower rest else rest

-- the levels that this makes
abbrev pub level_if : Bool → Config → ℕ
level_if wanted config = if wanted && not config.minify then 1 else 0

abbrev pub list_levels : ℕ → Config → ℕ
list_levels format config = level_if (indented format) config

-- ---- before and between the children

-- Before the first: in `{ a }` a blank, in an indented list over several lines a line end and a level. `line` says whether a line ends.
unfoldable pub opening : ℕ → Bool → Part
opening format line rest = line_or_blank line (space_between_braces format) (deeper_if (indented format) rest)

-- in `a, b` the comma, in `A | B` a blank and `|`
unfoldable pub delimiter : ℕ → Part
delimiter format rest =
    if comma_delimited format then punct (codes ",") rest
    else (if bar_delimited format then formatting_space (punct (codes "|") rest)
    else (if ampersand_delimited format then formatting_space (punct (codes "&") rest) else rest))

-- Between two: in `a, b` the comma and a blank, or the comma and a line end.
unfoldable pub separator : ℕ → Bool → Part
separator format line rest = delimiter format (line_or_blank line (space_between_siblings format) rest)

-- The comments right after a child: in `[a /* 1 */, b]`. None are written right after one before which a line ended.
unfoldable pub child_comments : ℕ → Bool → Span → Part
child_comments format line place rest = if no_intervening_comments format then rest else (if line then rest else trailing_comments false place.hi rest)

-- the first child, and what stands before it
unfoldable pub first_child_after : ℕ → Bool → ListChild → Part
first_child_after format line x rest = opening format line (x.part (child_comments format line x.place rest))

abbrev pub first_child : ℕ → Span → ListChild → Part
first_child format parent x = by_lines (λ lines. first_child_after format (leading_line lines format parent x.place) x)

-- a child after one that stands at `previous`, and what stands between them
unfoldable pub next_child_after : ℕ → Bool → ListChild → Part
next_child_after format line x rest = separator format line (x.part (child_comments format line x.place rest))

abbrev pub next_child : ℕ → Span → ListChild → Part
next_child format previous x = by_lines (λ lines. next_child_after format (separating_line lines format previous x.place) x)

-- ---- after the last child

-- Whether the last character of a text that is no white space is a comma: `here` of the characters so far, `before` of those without the
-- last of them. The answer leaves the last character of the text out: `[a, ]` ends so before its bracket.
unfoldable pub comma_before_end : Bool → Bool → List ℕ → Bool
comma_before_end before here [] = before
comma_before_end before here (c ∷ cs) = comma_before_end here (if is_whitespace c then here else c == 44) cs

-- A list's source text has a trailing comma, `[a, ]`: it has three bytes at least, and ends in a comma before its last character.
unfoldable pub has_trailing_comma : List ℕ → Bool
has_trailing_comma text = not (nat_lt (length text) 3) && comma_before_end false false (chars text)

unfoldable pub source_has_comma : Option (List ℕ) → Bool
source_has_comma None = false
source_has_comma (Some text) = has_trailing_comma text

-- `a, `
unfoldable pub comma_if : Bool → Part
comma_if wanted rest = if wanted then punct (codes ",") (formatting_space rest) else rest

-- One where the source text has one. It is read into memory, unless the list stands nowhere.
unfoldable pub source_comma : Span → Part
source_comma parent rest =
    if parent.lo.0 == 0 then rest
    else step (Remake true) (by_lines (λ lines. comma_if (source_has_comma (lines.snippet parent))) rest)

-- `[a, , ]` has one for its hole at the end; `[a, ] = b` has one where its source text has it.
unfoldable pub wanted_comma : ℕ → Span → Part
wanted_comma format parent rest =
    if forces_trailing_comma format then comma_if true rest
    else (if allows_trailing_comma format then source_comma parent rest else rest)

-- None is written where children aren't parted by commas, nor where it can be skipped and the settings are to minify.
abbrev pub may_have_comma : ℕ → Config → Bool
may_have_comma format config = comma_delimited format && not (can_skip_trailing_comma format && config.minify)

unfoldable pub trailing_comma : ℕ → Span → Part
trailing_comma format parent rest env = if may_have_comma format env.config then wanted_comma format parent rest env else rest env

-- After the last: in `{ a }` a blank, in an indented list over several lines a level less and a line end.
unfoldable pub closing : ℕ → Bool → Part
closing format line rest = shallower_if (indented format) (line_or_blank line (space_between_braces format) rest)

abbrev pub list_end : ℕ → Span → Span → Part
list_end format parent last = by_lines (λ lines. closing format (closing_line lines format parent last))

unfoldable pub list_closing : ℕ → Span → Span → Part
list_closing format parent last rest = trailing_comma format parent (list_end format parent last rest)

-- ---- whole lists

-- one without children that is written
unfoldable pub empty_list : ℕ → Part
empty_list format rest = if multi_line format then formatting_line rest else blank_if (space_between_braces format && not (no_space_if_empty format)) rest

-- the children after one that stands at `previous`
unfoldable pub more_children : ℕ → Span → List ListChild → Part
more_children format previous [] rest = rest
more_children format previous (x ∷ xs) rest = next_child format previous x (more_children format x.place xs rest)

-- where the last of them stands
unfoldable pub last_place : Span → List ListChild → Span
last_place previous [] = previous
last_place previous (x ∷ xs) = last_place x.place xs

-- what comes after a child that stands at `previous`
abbrev pub list_after : ℕ → Span → Span → List ListChild → Part
list_after format parent previous xs rest = more_children format previous xs (list_closing format parent (last_place previous xs) rest)

-- The children of a list that stands at `parent`: of `[a, b]` this is `a, b`. The brackets aren't its own.
unfoldable pub list : ℕ → Span → List ListChild → Part
list format parent [] rest = if optional_if_empty format then rest else empty_list format rest
list format parent (x ∷ xs) rest = first_child format parent x (list_after format parent x.place xs rest)

-- one that may not be there, as the arguments of `new A`
unfoldable pub optional_list : ℕ → Span → Option (List ListChild) → Part
optional_list format parent None rest = if optional_if_undefined format then rest else list format parent [] rest
optional_list format parent (Some xs) rest = list format parent xs rest
