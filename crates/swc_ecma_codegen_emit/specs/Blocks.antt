-- What is written of blocks.
use Rattle.std.specs.Prelude.{ℕ, Bool, ◌||◌, if◌then◌else◌, List, map, codes}
use Rattle.swc_ecma_codegen_common.specs.declared.positions.Span.{Span}
use Rattle.swc_ecma_codegen_tree.specs.declared.stmts.BlockStmt.{BlockStmt}
use Rattle.swc_ecma_codegen_spans.specs.Spans.{stmt_span}
use Rattle.swc_ecma_codegen_grammar.specs.FunctionPhrases.{is_some_listed}
use Rattle.swc_ecma_codegen_tokens.specs.Lists.{ListChild, list}
use Rattle.swc_ecma_codegen_tokens.specs.Run.{Part, when_minified}
use Rattle.swc_ecma_codegen_tokens.specs.Words.{by_maps, comments_before_end, punct, start_of, last_of, leading_comments}
use Rattle.swc_ecma_codegen_emit.specs.declared.nodes.Context.{Context}
use Rattle.swc_ecma_codegen_emit.specs.declared.nodes.Context.TheVariants.{Body}
use Rattle.swc_ecma_codegen_emit.specs.Places.{Place}
use Rattle.swc_ecma_codegen_emit.specs.Answers.{Answers, place_of}
use Rattle.swc_ecma_codegen_emit.specs.Commented.{has_comment_inside}
use Rattle.swc_ecma_codegen_emit.specs.Lists.{child_of}
use Rattle.swc_ecma_codegen_emit.specs.Stmts.{stmt}

-- `MultiLineBlockStatements`, and the same without `MultiLine` and `Indented`
abbrev pub block_format : ℕ
block_format = 65

abbrev pub flat_block_format : ℕ
flat_block_format = 0

-- the statements, as children of a list
abbrev pub block_children : {X : Type 0} → (X → Answers) → (X → Place → Part) → BlockStmt X → List ListChild
block_children asks items n = map (child_of (stmt_span (place_of asks)) (λ s place. stmt asks items s)) n.stmts.items

-- the statements, each on a line of its own where there are some
unfoldable pub block_list : Bool → Span → List ListChild → Part
block_list some span cs = when_minified (list flat_block_format span cs) (list (if some then block_format else flat_block_format) span cs)

-- each on a line of its own too where there is a comment before `}`
unfoldable pub block_lines : Bool → Span → List ListChild → Part
block_lines some span cs = by_maps (λ maps. block_list (some || has_comment_inside span maps) span cs)

-- the start of a body isn't recorded
unfoldable pub block_start : Context → Span → Part
block_start Body span rest = rest
block_start context span rest = start_of span rest

-- `{ a; }`
unfoldable pub block_stmt : {X : Type 0} → (X → Answers) → (X → Place → Part) → BlockStmt X → Context → Part
block_stmt asks items n context rest =
    leading_comments n.span.lo
    (block_start context n.span
    (punct (codes "{")
    (block_lines (is_some_listed n.stmts.items) n.span (block_children asks items n)
    (comments_before_end n.span.hi (last_of n.span (punct (codes "}") rest))))))
