-- What is written of blocks is what it reads as.
use Rattle.std.proofs.Common.{◌≡◌, refl, ℕ, Bool, ◌||◌, true, false, cond, List, map, codes, inl, inr}
use Rattle.std.proofs.lemmas.Bool.{cases_Bool}
use Rattle.swc_ecma_codegen_common.specs.declared.positions.Span.{Span}
use Rattle.swc_ecma_codegen_tree.specs.declared.stmts.BlockStmt.{BlockStmt}
use Rattle.swc_ecma_codegen_spans.specs.Spans.{stmt_span}
use Rattle.swc_ecma_codegen_grammar.specs.FunctionPhrases.{is_some_listed}
use Rattle.swc_ecma_codegen_grammar.specs.Phrases.{Phrase, ◌>◌, mark}
use Rattle.swc_ecma_codegen_grammar.specs.Phrases as phrases
use Rattle.swc_ecma_codegen_grammar.specs.StmtPhrases as lists
use Rattle.swc_ecma_codegen_grammar.specs.CommentMaps.{Maps}
use Rattle.swc_ecma_codegen_tokens.specs.Run.{Env, Plan, Part, at_maps, when_minified}
use Rattle.swc_ecma_codegen_tokens.specs.Lists.{list, ListChild}
use Rattle.swc_ecma_codegen_tokens.specs.Words.{by_maps, comments_before_end, punct, position_before}
use Rattle.swc_ecma_codegen_tokens.proofs.Emission.Emitting.{minified_same, pretty_same}
use Rattle.swc_ecma_codegen_tokens.proofs.Listing.ListLaws.{IsUndelimited, children_of, prints_bracketed_in_order}
use Rattle.swc_ecma_codegen_tokens.proofs.Reading.Phrased.{Prints, prints_by_maps, after, prints_same, prints_punct, prints_wider}
use Rattle.swc_ecma_codegen_tokens.proofs.Reading.Printed.{writes_nothing, writes_position, writes_position_before, Fills, makes_wider}
use Rattle.swc_ecma_codegen_tokens.proofs.Commenting.CommentPrints.{writes_before_end, writes_leading}
use Rattle.swc_ecma_codegen_emit.specs.declared.nodes.Context.{Context}
use Rattle.swc_ecma_codegen_emit.specs.declared.nodes.Context.TheVariants.{Body}
use Rattle.swc_ecma_codegen_emit.specs.Answers.{place_of}
use Rattle.swc_ecma_codegen_emit.specs.Blocks as words
use Rattle.swc_ecma_codegen_emit.specs.Blocks.{block_format, flat_block_format}
use Rattle.swc_ecma_codegen_emit.specs.Commented.{has_comment_inside}
use Rattle.swc_ecma_codegen_emit.specs.Stmts.{stmt}
use Rattle.swc_ecma_codegen_emit.proofs.Linked.{Linked}
use Rattle.swc_ecma_codegen_emit.proofs.MarkWords as marks
use Rattle.swc_ecma_codegen_emit.proofs.StmtParts.{stmt_prints}
use Rattle.swc_ecma_codegen_tokens.proofs.Filling.Shapes.{loose}
use Rattle.swc_ecma_codegen_emit.proofs.Between.{punct_in}

-- what is the same is the same behind a bracket
pub behind_bracket : (env : Env) (t : List ℕ) (p q : Part) → ((maps : Maps) (rest : Plan) → p rest (at_maps maps env) ≡ q rest (at_maps maps env)) → (maps : Maps) (rest : Plan) → punct t (p rest) (at_maps maps env) ≡ punct t (q rest) (at_maps maps env)
behind_bracket env t p q same maps rest = punct_in t (p rest) (q rest) (at_maps maps env) (same maps rest)

writes_block_start : (env : Env) (context : Context) (span : Span) → Fills env (words.block_start context span)
unfolding words.block_start
writes_block_start env Body span = writes_nothing env
writes_block_start env context span = writes_position env span.lo

-- statements have no delimiter, whatever the lines
abbrev format_of : Bool → ℕ
format_of some = cond some block_format flat_block_format

undelimited : (some : Bool) → IsUndelimited (format_of some)
undelimited true = record { no_comma = refl; no_bar = refl; no_ampersand = refl }
undelimited false = record { no_comma = refl; no_bar = refl; no_ampersand = refl }

abbrev stmts_by : {X : Type 0} → Linked X → Bool → BlockStmt X → Part
stmts_by l some n = list (format_of some) n.span (children_of (stmt_span (place_of l.asks)) (stmt l.asks l.items) n.stmts.items)

abbrev closing : {X : Type 0} → BlockStmt X → Part
closing n rest = comments_before_end n.span.hi (position_before n.span.hi (punct (codes "}") rest))

closing_prints : {X : Type 0} (env : Env) (n : BlockStmt X) → Prints env (closing n) (mark (codes "}"))
closing_prints env n = after (writes_before_end env n.span.hi) (after (writes_position_before env n.span.hi) (prints_punct env (codes "}") marks.right_brace))

abbrev whole : {X : Type 0} → Linked X → BlockStmt X → Phrase
whole l n = mark (codes "{") > phrases.in_order (map (lists.stmt l.reads) n.stmts.items) > mark (codes "}")

lines_prints : {X : Type 0} (l : Linked X) (n : BlockStmt X) (some : Bool) → Prints l.env (λ rest. punct (codes "{") (stmts_by l some n (closing n rest))) (whole l n)
lines_prints l n some =
    prints_bracketed_in_order l.env (codes "{") marks.left_brace (λ rest. rest) (makes_wider loose refl (writes_nothing l.env)) (format_of some) n.span (stmt_span (place_of l.asks)) (stmt l.asks l.items) (lists.stmt l.reads) (mark (codes "}")) (closing n)
    (λ s. prints_wider loose refl (stmt_prints l s)) (undelimited some) (closing_prints l.env n) n.stmts.items

stmts_print : {X : Type 0} (l : Linked X) (n : BlockStmt X) (some : Bool) → Prints l.env (λ rest. punct (codes "{") (words.block_list some n.span (children_of (stmt_span (place_of l.asks)) (stmt l.asks l.items) n.stmts.items) (closing n rest))) (whole l n)
unfolding words.block_list
stmts_print l n some =
    let flat : Part = stmts_by l false n in
    let lines : Part = stmts_by l some n in
    elim (cases_Bool l.env.config.minify) [
      | inl small ↦ prints_same _ (λ rest. punct (codes "{") (flat (closing n rest))) (behind_bracket l.env (codes "{") (λ rest. when_minified flat lines (closing n rest)) (λ rest. flat (closing n rest)) (λ maps rest. minified_same flat lines (closing n rest) (at_maps maps l.env) small)) (lines_prints l n false)
      | inr wide ↦ prints_same _ (λ rest. punct (codes "{") (lines (closing n rest))) (behind_bracket l.env (codes "{") (λ rest. when_minified flat lines (closing n rest)) (λ rest. lines (closing n rest)) (λ maps rest. pretty_same flat lines (closing n rest) (at_maps maps l.env) wide)) (lines_prints l n some)
    ]

block_lines_print : {X : Type 0} (l : Linked X) (n : BlockStmt X) → Prints l.env (λ rest. punct (codes "{") (words.block_lines (is_some_listed n.stmts.items) n.span (children_of (stmt_span (place_of l.asks)) (stmt l.asks l.items) n.stmts.items) (closing n rest))) (whole l n)
unfolding words.block_lines by_maps
block_lines_print l n =
    let some : Bool = is_some_listed n.stmts.items in
    let children : List ListChild = children_of (stmt_span (place_of l.asks)) (stmt l.asks l.items) n.stmts.items in
    let lines : Maps → Part = λ maps rest. words.block_list (some || has_comment_inside n.span maps) n.span children (closing n rest) in
    let ask : Maps → Part = λ maps rest. punct (codes "{") (lines maps rest) in
    prints_same _ (by_maps ask) (λ maps rest. punct_in (codes "{") (words.block_lines some n.span children (closing n rest)) (lines maps rest) (at_maps maps l.env) refl) (prints_by_maps ask (λ maps. stmts_print l n (is_some_listed n.stmts.items || has_comment_inside n.span maps)))

pub block_stmt_prints : {X : Type 0} (l : Linked X) (n : BlockStmt X) (context : Context) → Prints l.env (words.block_stmt l.asks l.items n context) (lists.block_stmt l.reads n)
unfolding words.block_stmt lists.block_stmt
block_stmt_prints l n context = after (writes_leading l.env n.span.lo) (after (writes_block_start l.env context n.span) (block_lines_print l n))
