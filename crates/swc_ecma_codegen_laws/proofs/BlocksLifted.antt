-- Blocks: a law of the words holds of the plan.
use Rattle.swc_ecma_codegen_laws.proofs.Children.{children_hold}
use Rattle.swc_ecma_codegen_laws.proofs.Children.{ChildrenHold}
use Rattle.std.specs.Prelude.{Bool, ◌||◌, List, codes}
use Rattle.swc_ecma_codegen_common.specs.declared.positions.Span.{Span}
use Rattle.swc_ecma_codegen_tree.specs.declared.stmts.BlockStmt.{BlockStmt}
use Rattle.swc_ecma_codegen_spans.specs.Spans.{stmt_span}
use Rattle.swc_ecma_codegen_grammar.specs.FunctionPhrases.{is_some_listed}
use Rattle.swc_ecma_codegen_tokens.specs.Lists.{ListChild}
use Rattle.swc_ecma_codegen_tokens.specs.Run.{Part}
use Rattle.swc_ecma_codegen_emit.specs.declared.nodes.Context.{Context}
use Rattle.swc_ecma_codegen_emit.specs.declared.nodes.Context.TheVariants.{Body}
use Rattle.swc_ecma_codegen_emit.specs.Answers.{place_of}
use Rattle.swc_ecma_codegen_emit.specs.Commented.{has_comment_inside}
use Rattle.swc_ecma_codegen_emit.specs.Stmts.{stmt}
use Rattle.swc_ecma_codegen_laws.proofs.OfWords.{OfWords, Known, asks_in, items_in}
use Rattle.swc_ecma_codegen_emit.specs.Blocks.{block_children, block_list, block_lines, block_start, block_stmt}
use Rattle.swc_ecma_codegen_laws.proofs.StmtsLifted.{stmt_holds}

pub block_children_holds : {X : Type 0} {holds : Bool → Part → Type 0} (known : Known holds X) (bounded : Bool) (n : BlockStmt X) → ChildrenHold holds bounded (block_children (asks_in known) (items_in known) n)
block_children_holds known bounded n = children_hold _ _ (stmt_span (place_of (asks_in known))) (λ s place. stmt (asks_in known) (items_in known) s) (λ s. (stmt_holds known bounded s)) n.stmts.items

pub block_lines_holds : {holds : Bool → Part → Type 0} (words : OfWords holds) (bounded : Bool) (some : Bool) (span : Span) (cs : List ListChild) → ChildrenHold holds bounded cs → holds bounded (block_lines some span cs)
unfolding block_lines
block_lines_holds words bounded some span cs h_cs = words.by_maps bounded (λ maps. block_list (some || has_comment_inside span maps) span cs) (λ maps. (words.block_list bounded (some || has_comment_inside span maps) span cs h_cs))

pub block_start_holds : {holds : Bool → Part → Type 0} (words : OfWords holds) (bounded : Bool) (context : Context) (span : Span) → holds bounded (block_start context span)
unfolding block_start
block_start_holds words bounded Body span = words.none bounded
block_start_holds words bounded context span = words.position bounded span.lo

pub block_stmt_holds : {X : Type 0} {holds : Bool → Part → Type 0} (known : Known holds X) (bounded : Bool) (n : BlockStmt X) (context : Context) → holds bounded (block_stmt (asks_in known) (items_in known) n context)
unfolding block_stmt
block_stmt_holds known bounded n context = known.words.and_then bounded (known.words.leading_comments bounded n.span.lo) (known.words.and_then bounded (block_start_holds known.words bounded context n.span) (known.words.and_then bounded (known.words.punct bounded (codes "{")) (known.words.and_then bounded (block_lines_holds known.words bounded (is_some_listed n.stmts.items) n.span (block_children (asks_in known) (items_in known) n) (block_children_holds known bounded n)) (known.words.and_then bounded (known.words.comments_before_end bounded n.span.hi) (known.words.and_then bounded (known.words.last_of bounded n.span) (known.words.punct bounded (codes "}")))))))
