-- Where the emissions of callers begin, and why one gives no text.
use Rattle.std.specs.Prelude.{◌≡◌, true, false}
use Rattle.swc_ecma_codegen_common.specs.declared.errors.Error.TheVariants.{Writer, OutOfMemory}
use Rattle.swc_ecma_codegen_tree.specs.declared.links.AnyNode.{AnyNode}
use Rattle.swc_ecma_codegen_tree.specs.declared.programs.Program.{Program}
use Rattle.swc_ecma_codegen_grammar.specs.CommentMaps.{Maps}
use Rattle.swc_ecma_codegen_grammar.specs.Comments.{no_maps}
use Rattle.swc_ecma_codegen_grammar.specs.SourceLines.{no_lines}
use Rattle.swc_ecma_codegen_grammar.specs.TreePhrases.{is_well_formed}
use Rattle.swc_ecma_codegen_settings.specs.Defaults.{default_config}
use Rattle.swc_ecma_codegen_settings.specs.declared.config.Config.{Config}
use Rattle.swc_ecma_codegen_text_writer.specs.Sheet.{HoldsNone}
use Rattle.swc_ecma_codegen_tokens.specs.Run.{State, start}
use Rattle.swc_ecma_codegen_emit.specs.Roots.{OfProgram, root_items}
use Rattle.swc_ecma_codegen_emit.specs.Texts.{blank_sheet, GivesCause}
use Rattle.swc_ecma_codegen_examples.specs.declared.NoText.{NoText}
use Rattle.swc_ecma_codegen_examples.specs.declared.NoText.TheVariants.{Unread, NotWellFormed, Refused}

-- the settings that minify, and else those that stand where none are given
abbrev pub minified_config : Config
minified_config = record default_config { minify = true }

-- where a minified emission begins, on a writer that holds semicolons back
abbrev pub minified_start : State
minified_start = start no_lines no_maps minified_config (record blank_sheet { semicolons = HoldsNone })

-- where an emission with comments begins, with the settings that stand where none are given
abbrev pub commented_start : Maps → State
commented_start maps = start no_lines maps default_config blank_sheet

-- no program was read
abbrev pub IsUnread : NoText → Type 0
IsUnread (Unread error) = Unit {0}
IsUnread error = ⊥

-- this program has no text for that reason, where its emission begins so: it isn't well-formed, or is refused for the cause that the error names
abbrev pub LacksText : State → Program AnyNode → NoText → Type 0
LacksText begun program (Unread error) = ⊥
LacksText begun program NotWellFormed = is_well_formed program ≡ false
LacksText begun program (Refused error) = (is_well_formed program ≡ true) × GivesCause (root_items (OfProgram program)) begun error

-- memory is wanting, or the writer failed
abbrev pub IsOfMachine : NoText → Type 0
IsOfMachine (Refused OutOfMemory) = Unit {0}
IsOfMachine (Refused (Writer error)) = Unit {0}
IsOfMachine error = ⊥
