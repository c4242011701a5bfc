-- Which fault a run tells of, and how.
use Rattle.std.specs.Prelude.{◌≡◌, ℕ, List, codes, Err}
use Rattle.swc_ecma_codegen_common.specs.declared.errors.Error.{Error}
use Rattle.swc_ecma_codegen_common.specs.declared.errors.Refusal.{Refusal}
use Rattle.swc_ecma_codegen_common.specs.declared.errors.Refusal.TheVariants as refusals
use Rattle.swc_ecma_codegen_common.specs.Refusals.{reason_of}
use Rattle.swc_ecma_codegen_grammar.specs.Comments.{no_maps}
use Rattle.swc_ecma_codegen_grammar.specs.SourceLines.{no_lines}
use Rattle.swc_ecma_codegen_json.specs.declared.errors.ReadError.{ReadError}
use Rattle.swc_ecma_codegen_json.specs.declared.errors.ReadError.TheVariants as unread
use Rattle.swc_ecma_codegen_tokens.specs.Run.{Part, State, Follows, nothing, start}
use Rattle.swc_ecma_codegen_runs.specs.declared.faults.Fault.{Fault}
use Rattle.swc_ecma_codegen_runs.specs.declared.faults.Fault.TheVariants.{Usage, CannotRead, BadTree, NotWellFormed, NotADerivation, Writer, Memory, UnsupportedNode, BadShape, NameOutOfTarget, PositionTooLarge, Failed}
use Rattle.swc_ecma_codegen_runs.specs.declared.words.Options.{Options}
use Rattle.swc_ecma_codegen_runs.specs.Prints.{sheet_for}
use Rattle.swc_ecma_codegen_runs.specs.Words.{settings_of}

-- a tree isn't read
abbrev pub fault_of_reading : ReadError → Fault
fault_of_reading unread.CannotRead = CannotRead
fault_of_reading unread.BadTree = BadTree
fault_of_reading unread.OutOfMemory = Memory

-- an emission is refused: its text is made in memory, so a fault of its writer is want of memory
abbrev pub fault_of_emission : Refusal → Fault
fault_of_emission refusals.Writer = Memory
fault_of_emission refusals.OutOfMemory = Memory
fault_of_emission refusals.UnsupportedNode = UnsupportedNode
fault_of_emission refusals.BadShape = BadShape
fault_of_emission refusals.NameOutOfTarget = NameOutOfTarget
fault_of_emission refusals.PositionTooLarge = PositionTooLarge
fault_of_emission refusals.Failed = Failed

-- an emission of a part that began here has ended there, with the error that a fault tells of
abbrev pub EndsWithFault : Part → State → State → Fault → Type 0
EndsWithFault part begun ended fault =
    (error : Error) × (fault ≡ fault_of_emission (reason_of error)) × Follows (part nothing) begun ended (Err (reason_of error))

-- an emission of a part, as the options ask for it, can end with a fault
abbrev pub GivesFault : Options → Part → Fault → Type 0
GivesFault options part fault =
    (ended : State) × EndsWithFault part (start no_lines no_maps (settings_of options) (sheet_for options)) ended fault

-- the line that tells of a fault; that of wrong words names the program
abbrev pub line_of : List ℕ → Fault → List ℕ
line_of usage Usage = usage
line_of usage CannotRead = codes "cannot read\n"
line_of usage BadTree = codes "bad tree\n"
line_of usage NotWellFormed = codes "not well-formed\n"
line_of usage NotADerivation = codes "not a derivation\n"
line_of usage Writer = codes "refused: writer\n"
line_of usage Memory = codes "refused: memory\n"
line_of usage UnsupportedNode = codes "refused: unsupported node\n"
line_of usage BadShape = codes "refused: bad shape\n"
line_of usage NameOutOfTarget = codes "refused: name out of target\n"
line_of usage PositionTooLarge = codes "refused: position too large\n"
line_of usage Failed = codes "refused: failed\n"
