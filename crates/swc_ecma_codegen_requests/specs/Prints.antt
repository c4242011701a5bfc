-- What is printed of a tree, as a request asks for it.
use Rattle.std.specs.Prelude.{◌≡◌, ℕ, List, Bool, true, false, Option, Some, None, String, string_bytes}
use Rattle.std.specs.Option.{option_map}
use Rattle.std.specs.Str.{IsUtf8}
use Rattle.serde_json.specs.View.{view}
use Rattle.swc_ecma_codegen_grammar.specs.CommentMaps.{Maps}
use Rattle.swc_ecma_codegen_grammar.specs.Comments.{no_maps}
use Rattle.swc_ecma_codegen_grammar.specs.SourceLines.{Lines, no_lines}
use Rattle.swc_ecma_codegen_source.specs.SourceTexts.{lines_of}
use Rattle.swc_ecma_codegen_text_writer.specs.Sheet.{Pair}
use Rattle.swc_ecma_codegen_tokens.specs.Run.{Part, State, maps_after, printed, steps_in, steps_of}
use Rattle.swc_ecma_codegen_emit.specs.Texts.{start_on, IsPrinted}
use Rattle.swc_ecma_codegen_requests.specs.Remarks.{left_by, placed_maps, places_in}
use Rattle.swc_ecma_codegen_requests.specs.Sheets.{sheet_by}
use Rattle.swc_ecma_codegen_requests.specs.declared.emissions.Manner.{Manner}
use Rattle.swc_ecma_codegen_requests.specs.declared.emissions.Printed.{Printed}
use Rattle.swc_ecma_codegen_requests.specs.declared.remarks.Placed.{Placed}

-- what a source text answers whose first byte stands at a position, if there is one
unfoldable pub lines_over : {Z : Type 0} → Option (String Z) → ℕ → Lines
lines_over None first = no_lines
lines_over (Some text) first = lines_of (string_bytes text) first

-- the comments of a request, if it has some
unfoldable pub maps_by : Option Placed → Maps
maps_by None = no_maps
maps_by (Some placed) = placed_maps placed

-- where an emission begins that is asked for so
abbrev pub start_by : Manner → State
start_by manner = start_on (sheet_by manner.layout) (lines_over manner.source manner.first) (maps_by manner.comments) manner.config

-- the comments that an emission of a part from a state leaves
abbrev pub maps_left : Part → State → Maps
maps_left part a = maps_after (steps_of (steps_in part a)) a.env.maps

-- what is told where it is asked for
unfoldable pub if_asked : {A : Type 0} → Bool → A → Option A
if_asked true x = Some x
if_asked false x = None

-- An emission of a part from a state comes to its end, with this text, which is UTF-8, these positions, and these comments left.
pub record IsMadeOf (part : Part) (a : State) (text : List ℕ) (pairs : List Pair) (left : Maps) : Type 0 where
  pub whole : IsPrinted part a
  pub utf8 : IsUtf8 text
  pub text_is : text ≡ (printed part a).sheet.text
  pub pairs_are : pairs ≡ (printed part a).sheet.pairs
  pub left_are : left ≡ maps_left part a

-- What was printed of a part as a request asks for it: the text; the positions, where they are asked for; and of the request's comments, where
-- it has some, those that are left.
pub record IsPrintedBy (manner : Manner) (part : Part) (made : Printed) : Type 0 where
  pub whole : IsPrinted part (start_by manner)
  pub code : string_bytes made.code ≡ (printed part (start_by manner)).sheet.text
  pub positions : option_map (λ list. list.items) made.positions ≡ if_asked manner.positions (printed part (start_by manner)).sheet.pairs
  pub left : option_map view made.left ≡ left_by (option_map places_in manner.comments) (maps_left part (start_by manner))
