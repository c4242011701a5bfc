-- Programs: a law of the words holds of the plan.
use Rattle.std.specs.Prelude.{Bool, true, List, [], ◌∷◌, Option, Some, None, string_bytes}
use Rattle.std.specs.declared.string.String.{String}
use Rattle.swc_ecma_codegen_common.specs.declared.positions.Span.{Span}
use Rattle.swc_ecma_codegen_tree.specs.declared.programs.Module.{Module}
use Rattle.swc_ecma_codegen_tree.specs.declared.programs.Script.{Script}
use Rattle.swc_ecma_codegen_tokens.specs.Run.{Part}
use Rattle.swc_ecma_codegen_emit.specs.Modules.{module_item}
use Rattle.swc_ecma_codegen_emit.specs.Stmts.{stmt}
use Rattle.swc_ecma_codegen_laws.proofs.OfWords.{OfWords, Known, asks_in, items_in}
use Rattle.swc_ecma_codegen_emit.specs.Programs.{start_if_empty, program_start, script_parts, module_parts}
use Rattle.swc_ecma_codegen_laws.proofs.ListsLifted.{in_order_holds}
use Rattle.swc_ecma_codegen_laws.proofs.ModulesLifted.{module_item_holds}
use Rattle.swc_ecma_codegen_laws.proofs.StmtsLifted.{stmt_holds}

pub start_if_empty_holds : {A : Type 0} {holds : Bool → Part → Type 0} (words : OfWords holds) (bounded : Bool) (x0 : List A) (span : Span) → holds bounded (start_if_empty x0 span)
unfolding start_if_empty
start_if_empty_holds words bounded [] span = words.position bounded span.lo
start_if_empty_holds words bounded (x ∷ xs) span = words.none bounded

pub program_start_holds : {Z : Type 0} {A : Type 0} {holds : Bool → Part → Type 0} (words : OfWords holds) (bounded : Bool) (x0 : Option (String Z)) (body : List A) (span : Span) → holds bounded (program_start x0 body span)
unfolding program_start
program_start_holds words bounded None body span = words.and_then bounded (words.leading_comments bounded span.lo) (start_if_empty_holds words bounded body span)
program_start_holds words bounded (Some text) body span = words.and_then bounded (start_if_empty_holds words bounded body span) (words.and_then bounded (words.hashbang bounded (string_bytes text)) (words.leading_comments bounded span.lo))

pub script_parts_holds : {X : Type 0} {holds : Bool → Part → Type 0} (known : Known holds X) (bounded : Bool) (n : Script X) → holds bounded (script_parts (asks_in known) (items_in known) n)
unfolding script_parts
script_parts_holds known bounded n = known.words.and_then bounded (program_start_holds known.words bounded n.shebang n.body.items n.span) (known.words.and_then bounded (in_order_holds known.words bounded (stmt (asks_in known) (items_in known)) (λ x. (stmt_holds known bounded x)) n.body.items) (known.words.and_then bounded (known.words.trailing_comments bounded true n.span.hi) (known.words.last_semi bounded)))

pub module_parts_holds : {X : Type 0} {holds : Bool → Part → Type 0} (known : Known holds X) (bounded : Bool) (n : Module X) → holds bounded (module_parts (asks_in known) (items_in known) n)
unfolding module_parts
module_parts_holds known bounded n = known.words.and_then bounded (program_start_holds known.words bounded n.shebang n.body.items n.span) (known.words.and_then bounded (in_order_holds known.words bounded (module_item (asks_in known) (items_in known)) (λ x. (module_item_holds known bounded x)) n.body.items) (known.words.and_then bounded (known.words.trailing_comments bounded true n.span.hi) (known.words.last_semi bounded)))
