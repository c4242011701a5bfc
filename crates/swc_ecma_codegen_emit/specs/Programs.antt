-- What is written of a whole program.
use Rattle.std.specs.Prelude.{Bool, true, is_some, if◌then◌else◌, List, [], ◌∷◌, Option, Some, None, string_bytes}
use Rattle.std.specs.declared.string.String.{String}
use Rattle.swc_ecma_codegen_common.specs.declared.positions.Span.{Span}
use Rattle.swc_ecma_codegen_tree.specs.declared.programs.Module.{Module}
use Rattle.swc_ecma_codegen_tree.specs.declared.programs.Script.{Script}
use Rattle.swc_ecma_codegen_tree.specs.declared.programs.Program.{Program}
use Rattle.swc_ecma_codegen_tree.specs.declared.programs.Program.TheVariants as programs
use Rattle.swc_ecma_codegen_tokens.specs.Literals.{hashbang}
use Rattle.swc_ecma_codegen_tokens.specs.Run.{Part}
use Rattle.swc_ecma_codegen_tokens.specs.Words.{bounded, commit_pending_semi, start_of, leading_comments, trailing_comments}
use Rattle.swc_ecma_codegen_emit.specs.declared.nodes.Context.TheVariants.{ByItself}
use Rattle.swc_ecma_codegen_emit.specs.Places.{Place, Whole}
use Rattle.swc_ecma_codegen_emit.specs.Answers.{Answers}
use Rattle.swc_ecma_codegen_emit.specs.Lists.{in_order}
use Rattle.swc_ecma_codegen_emit.specs.Modules.{module_item}
use Rattle.swc_ecma_codegen_emit.specs.Stmts.{stmt}

-- the start of a program without statements is recorded
unfoldable pub start_if_empty : {A : Type 0} → List A → Span → Part
start_if_empty [] span rest = start_of span rest
start_if_empty (x ∷ xs) span rest = rest

-- a semicolon that is held back at the end is written, unless the settings leave it out
unfoldable pub last_semi : Part
last_semi rest env = if env.config.omit_last_semi then rest env else commit_pending_semi rest env

-- What stands before the statements of a program: the comments before it, but a hashbang stands first of all in a text.
unfoldable pub program_start : {A Z : Type 0} → Option (String Z) → List A → Span → Part
program_start None body span rest = leading_comments span.lo (start_if_empty body span rest)
program_start (Some text) body span rest = start_if_empty body span (hashbang (string_bytes text) (leading_comments span.lo rest))

-- a part with lines of the greatest length that its context tells
abbrev pub lined : Place → Part → Part
lined (Whole (ByItself max)) part = bounded max part
lined place part = part

unfoldable pub script_parts : {X : Type 0} → (X → Answers) → (X → Place → Part) → Script X → Part
script_parts asks items n rest = program_start n.shebang n.body.items n.span (in_order (stmt asks items) n.body.items (trailing_comments true n.span.hi (last_semi rest)))

unfoldable pub module_parts : {X : Type 0} → (X → Answers) → (X → Place → Part) → Module X → Part
module_parts asks items n rest = program_start n.shebang n.body.items n.span (in_order (module_item asks items) n.body.items (trailing_comments true n.span.hi (last_semi rest)))

unfoldable pub script : {X : Type 0} → (X → Answers) → (X → Place → Part) → Script X → Place → Part
script asks items n place = lined place (script_parts asks items n)

unfoldable pub whole_module : {X : Type 0} → (X → Answers) → (X → Place → Part) → Module X → Place → Part
whole_module asks items n place = lined place (module_parts asks items n)

unfoldable pub program : {X : Type 0} → (X → Answers) → (X → Place → Part) → Program X → Place → Part
program asks items (programs.Module n) place = whole_module asks items n place
program asks items (programs.Script n) place = script asks items n place

-- it begins with a hashbang
unfoldable pub has_hashbang : {X : Type 0} → Program X → Bool
has_hashbang (programs.Module n) = is_some n.shebang
has_hashbang (programs.Script n) = is_some n.shebang
