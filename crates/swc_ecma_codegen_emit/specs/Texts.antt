-- A text that is made in memory.
use Rattle.std.specs.Prelude.{◌≡◌, ◌⊎◌, ℕ, Bool, true, false, if◌then◌else◌, List, [], ◌∷◌, Ok, Err}
use Rattle.swc_ecma_codegen_common.specs.declared.errors.Error.{Error}
use Rattle.swc_ecma_codegen_common.specs.declared.errors.Error.TheVariants.{Writer}
use Rattle.swc_ecma_codegen_common.specs.Refusals.{reason_of}
use Rattle.swc_ecma_codegen_settings.specs.Defaults.{default_config}
use Rattle.swc_ecma_codegen_settings.specs.declared.config.Config.{Config}
use Rattle.swc_ecma_codegen_text_writer.specs.Sheet.{Sheet, HoldsNone, Commit, Refuses, settled}
use Rattle.swc_ecma_codegen_text_writer.specs.View.{new_sheet, keeping}
use Rattle.swc_ecma_codegen_grammar.specs.SourceLines.{Lines, no_lines}
use Rattle.swc_ecma_codegen_grammar.specs.CommentMaps.{Maps}
use Rattle.swc_ecma_codegen_grammar.specs.Comments.{no_maps}
use Rattle.swc_ecma_codegen_tokens.specs.Run.{Part, State, Follows, nothing, printed, start}

-- the sheet of a new writer over an empty vector, whose lines end with LF
abbrev pub blank_sheet : Sheet
blank_sheet = new_sheet [] (10 ∷ [])

-- the text of a part over a source text with comments, with the settings that stand where none are given
abbrev pub text_over : Lines → Maps → Part → List ℕ
text_over lines maps part = (printed part (start lines maps default_config blank_sheet)).sheet.text

-- over no source text, without comments
abbrev pub text_of : Part → List ℕ
text_of part = text_over no_lines no_maps part

-- an error of the writer
abbrev pub IsOfWriter : Error → Type 0
IsOfWriter (Writer e) = Unit {0}
IsOfWriter e = ⊥

-- an emission of a part from a state can end with an error
abbrev pub GivesCause : Part → State → Error → Type 0
GivesCause part a error = (b : State) × Follows (part nothing) a b (Err (reason_of error))

-- An emission of a part from a state comes to its end: it meets no node that can't be printed.
abbrev pub IsPrinted : Part → State → Type 0
IsPrinted part a = Follows (part nothing) a (printed part a) (Ok tt)

-- ---- a text with settings

-- a sheet on which semicolons are held back, where a text is minified
unfoldable pub held_by : Bool → Sheet → Sheet
held_by true s = record s { semicolons = HoldsNone }
held_by false s = s

-- where an emission on a sheet begins
abbrev pub start_on : Sheet → Lines → Maps → Config → State
start_on sheet lines maps config = start lines maps config (held_by config.minify sheet)

-- a semicolon that is held back at the end is written, unless the settings leave it out: `a` becomes `a;`
unfoldable pub with_last : Config → Sheet → Sheet
with_last config s = if config.omit_last_semi then s else settled s

-- the sheet at the end
abbrev pub sheet_on : Sheet → Lines → Maps → Config → Part → Sheet
sheet_on sheet lines maps config part = with_last config (printed part (start_on sheet lines maps config)).sheet

-- the text of a part, where no positions are kept
abbrev pub text_with : Lines → Maps → Config → Part → List ℕ
text_with lines maps config part = (sheet_on blank_sheet lines maps config part).text

-- the same with positions: none yet, and at the end those of the part
abbrev pub placed_sheet : Sheet
placed_sheet = keeping [] blank_sheet

abbrev pub start_with : Lines → Maps → Config → State
start_with = start_on placed_sheet

abbrev pub sheet_with : Lines → Maps → Config → Part → Sheet
sheet_with = sheet_on placed_sheet

-- a sheet without what it holds back
abbrev pub unheld : Sheet → Sheet
unheld s = record s { semicolons = HoldsNone }

-- An emission of a part from a state can end with an error, or else the semicolon that was held back at its end.
abbrev pub GivesCauseOrLast : Config → Part → State → Error → Type 0
GivesCauseOrLast config part a error =
    GivesCause part a error ⊎ ((config.omit_last_semi ≡ false) × ((new : Sheet) × Refuses Commit (reason_of error) (printed part a).sheet new))
