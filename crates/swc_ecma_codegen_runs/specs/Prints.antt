-- What a run writes.
use Rattle.std.specs.Prelude.{◌≡◌, ℕ, Bool, true, false, List, [], Option}
use Rattle.std.specs.Io.KnownBytes.{Appends}
use Rattle.swc_ecma_codegen_text_writer.specs.Contents.{IsPrefix}
use Rattle.swc_ecma_codegen_tree.specs.declared.links.AnyNode.{AnyNode}
use Rattle.swc_ecma_codegen_tree.specs.declared.programs.Program.{Program}
use Rattle.swc_ecma_codegen_text_writer.specs.Sheet.{Sheet, HoldsNone}
use Rattle.swc_ecma_codegen_text_writer.specs.View.{keeping}
use Rattle.swc_ecma_codegen_grammar.specs.Comments.{no_maps}
use Rattle.swc_ecma_codegen_grammar.specs.SourceLines.{no_lines}
use Rattle.swc_ecma_codegen_grammar.specs.TreePhrases.{is_well_formed}
use Rattle.swc_ecma_codegen_tokens.specs.Run.{Part, printed, start}
use Rattle.swc_ecma_codegen_emit.specs.Answers.{any_answers}
use Rattle.swc_ecma_codegen_emit.specs.Places.{by_itself}
use Rattle.swc_ecma_codegen_emit.specs.Programs.{program}
use Rattle.swc_ecma_codegen_emit.specs.Texts.{blank_sheet}
use Rattle.swc_ecma_codegen_emit.specs.Tree.{any_items}
use Rattle.swc_ecma_codegen_runs.specs.declared.words.Options.{Options}
use Rattle.swc_ecma_codegen_runs.specs.Words.{settings_of}

-- a sheet where positions are kept, none yet, if that is asked for
unfoldable pub with_positions : Bool → Sheet → Sheet
with_positions true s = keeping [] s
with_positions false s = s

-- a sheet where semicolons are held back, none yet, if that is asked for: then `{a;}` is written `{a}`
unfoldable pub with_semicolons : Bool → Sheet → Sheet
with_semicolons true s = record s { semicolons = HoldsNone }
with_semicolons false s = s

-- the sheet on which a text is made: a new one, whose lines end with LF. `--positions` keeps positions there, and
-- `--minify` holds semicolons back.
abbrev pub sheet_for : Options → Sheet
sheet_for options = with_semicolons options.minify (with_positions options.positions blank_sheet)

-- the text of a part, as the options ask for it
unfoldable pub text_with : Options → Part → List ℕ
text_with options part = (printed part (start no_lines no_maps (settings_of options) (sheet_for options))).sheet.text

-- a program may be printed: it is well-formed, unless any is to be
abbrev pub MayPrint : Options → Program AnyNode → Type 0
MayPrint options p = options.any ≡ false → is_well_formed p ≡ true

-- what is done with a program before it is printed: what it was, and what it is then
abbrev pub Preparation : Type 1
Preparation = Options → Program AnyNode → Program AnyNode → Type 0

-- a text is that of what was made of a program
abbrev pub IsText : Preparation → Options → List ℕ → Type 0
IsText prepared options text =
    (p r : Program AnyNode) × MayPrint options p × prepared options p r × (text ≡ text_with options (by_itself (program any_answers any_items r)))

-- the text of what was made of one program is added to what a writer tells
abbrev pub AddsText : Preparation → Options → Option (List ℕ) → Option (List ℕ) → Type 0
AddsText prepared options old new = (text : List ℕ) × IsText prepared options text × Appends old new text

-- a beginning of a text is added to it, which may be nothing
abbrev pub AddsFront : List ℕ → Option (List ℕ) → Option (List ℕ) → Type 0
AddsFront text old new = (front : List ℕ) × IsPrefix front text × Appends old new front

-- a beginning of such a text is added to it
abbrev pub AddsFrontOfText : Preparation → Options → Option (List ℕ) → Option (List ℕ) → Type 0
AddsFrontOfText prepared options old new = (text : List ℕ) × IsText prepared options text × AddsFront text old new
