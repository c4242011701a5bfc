-- How a list of nodes is laid out: the bits of its format, and where it has line ends.
use Rattle.std.specs.Prelude.{ℕ, Bool, List, [], ◌∷◌, ◌==◌, ◌&&◌, ◌||◌, not, if◌then◌else◌, codes}
use Rattle.std.specs.Int.RustNames.{bit_and}
use Rattle.swc_ecma_codegen_common.specs.declared.positions.BytePos.{BytePos}
use Rattle.swc_ecma_codegen_common.specs.declared.positions.Span.{Span}
use Rattle.swc_ecma_codegen_grammar.specs.SourceLines.{Lines}

-- the name of each flag and its bit: `PreserveLines` has bit 1, so its value is 2
abbrev pub flag_table : List (List ℕ × ℕ)
flag_table =
    (codes "MultiLine", 1) ∷ (codes "PreserveLines", 2) ∷ (codes "BarDelimited", 4) ∷ (codes "AmpersandDelimited", 8)
    ∷ (codes "CommaDelimited", 16) ∷ (codes "AllowTrailingComma", 32) ∷ (codes "Indented", 64) ∷ (codes "SpaceBetweenBraces", 128)
    ∷ (codes "SpaceBetweenSiblings", 256) ∷ (codes "OptionalIfUndefined", 512) ∷ (codes "OptionalIfEmpty", 1024)
    ∷ (codes "NoTrailingNewLine", 2048) ∷ (codes "NoInterveningComments", 4096) ∷ (codes "NoSpaceIfEmpty", 8192)
    ∷ (codes "ForceTrailingComma", 16384) ∷ (codes "CanSkipTrailingComma", 32768) ∷ []

-- A format has a flag, both as bits: 338, an array's, has PreserveLines, 2, and not MultiLine, 1.
abbrev pub has : ℕ → ℕ → Bool
has format flag = bit_and format flag == flag

abbrev pub multi_line : ℕ → Bool
multi_line format = has format 1

abbrev pub preserves_lines : ℕ → Bool
preserves_lines format = has format 2

abbrev pub bar_delimited : ℕ → Bool
bar_delimited format = has format 4

abbrev pub ampersand_delimited : ℕ → Bool
ampersand_delimited format = has format 8

abbrev pub comma_delimited : ℕ → Bool
comma_delimited format = has format 16

abbrev pub allows_trailing_comma : ℕ → Bool
allows_trailing_comma format = has format 32

abbrev pub indented : ℕ → Bool
indented format = has format 64

abbrev pub space_between_braces : ℕ → Bool
space_between_braces format = has format 128

abbrev pub space_between_siblings : ℕ → Bool
space_between_siblings format = has format 256

abbrev pub optional_if_undefined : ℕ → Bool
optional_if_undefined format = has format 512

abbrev pub optional_if_empty : ℕ → Bool
optional_if_empty format = has format 1024

abbrev pub no_trailing_new_line : ℕ → Bool
no_trailing_new_line format = has format 2048

abbrev pub no_intervening_comments : ℕ → Bool
no_intervening_comments format = has format 4096

abbrev pub no_space_if_empty : ℕ → Bool
no_space_if_empty format = has format 8192

abbrev pub forces_trailing_comma : ℕ → Bool
forces_trailing_comma format = has format 16384

abbrev pub can_skip_trailing_comma : ℕ → Bool
can_skip_trailing_comma format = has format 32768

-- Two positions are known to stand on different lines: neither is 0, which is no position, and the map of the source text doesn't
-- say of them that they stand on one line. In `[` LF `a]` at 1 the bracket and `a` are, 1 and 3.
abbrev pub apart : Lines → BytePos → BytePos → Bool
apart lines left right = not (left.0 == 0) && not (right.0 == 0) && not (lines.same_line left right)

-- A line ends before a child: always with MultiLine, and with PreserveLines where one does in the source text.
abbrev pub line_before_child : ℕ → Bool → Bool
line_before_child format is_apart = multi_line format || (preserves_lines format && is_apart)

-- A line ends after the last child: with MultiLine unless NoTrailingNewLine is there too; without it, with PreserveLines where one
-- does in the source text.
abbrev pub line_after_last : ℕ → Bool → Bool
line_after_last format is_apart =
    if multi_line format then not (no_trailing_new_line format) else preserves_lines format && is_apart

-- the same for the first child of a list, for a child after another, and after the last
abbrev pub leading_line : Lines → ℕ → Span → Span → Bool
leading_line lines format parent first = line_before_child format (apart lines parent.lo first.lo)

abbrev pub separating_line : Lines → ℕ → Span → Span → Bool
separating_line lines format previous next = line_before_child format (apart lines previous.hi next.lo)

abbrev pub closing_line : Lines → ℕ → Span → Span → Bool
closing_line lines format parent last = line_after_last format (apart lines last.hi parent.hi)
