-- Words that write the same tokens by any layout.
use Rattle.std.proofs.Common.{ℕ, ◌-◌, ◌==◌, Bool, true, false, if◌then◌else◌, List, [], ◌∷◌, ◌++◌, codes, Option, Some, None, refl, ap}
use Rattle.swc_ecma_codegen_common.specs.declared.operators.BinaryOp.{BinaryOp}
use Rattle.swc_ecma_codegen_common.specs.declared.positions.BytePos.{BytePos}
use Rattle.swc_ecma_codegen_common.specs.declared.positions.Span.{Span}
use Rattle.swc_ecma_codegen_common.specs.Operators.{binary_text}
use Rattle.swc_ecma_codegen_spans.specs.Spans.{dummy_span}
use Rattle.swc_ecma_codegen_grammar.specs.declared.kinds.Kind.TheVariants.{Word, Punctuator, Ending, Close, JsxName, JsxOpen, JsxText, Hashbang}
use Rattle.swc_ecma_codegen_grammar.specs.Comments.{Side, Leading, Trailing}
use Rattle.swc_ecma_codegen_grammar.specs.declared.comments.Comment.{Comment as SourceComment}
use Rattle.swc_ecma_codegen_text_writer.specs.Sheet.{AllowBreak, BeginLines, EndLines, Keyword, Operator, Punct, Semi, Space, Commit, Deeper, Shallower, Position, StrLit, Symbol}
use Rattle.swc_ecma_codegen_text_writer.specs.Sheet as sheet
use Rattle.swc_ecma_codegen_tokens.specs.Choices.{attributes_word, loop_ending}
use Rattle.swc_ecma_codegen_tokens.specs.Lists.{deeper, shallower}
use Rattle.swc_ecma_codegen_tokens.specs.Literals.{begun, settled_begun, hashbang}
use Rattle.swc_ecma_codegen_tokens.specs.Run.{Part, Take, Ends, Remake, is_bounded, after_step, no_part, step, text_of}
use Rattle.swc_ecma_codegen_tokens.specs.Tags.{child_open, close, jsx_text, tag_name, tag_symbol}
use Rattle.swc_ecma_codegen_tokens.specs.Words.{allow_break, allows_break, bare_punct, bare_semi, begin_lines, break_where, comments, comments_before_end, commit_pending_semi, end_lines, formatting_line, formatting_space, keyword, last_of, leading_comments, line_end, operator, placed_punct, position, position_before, punct, punct_between, question, semi, space, take_comments, trailing_comments, word_operator}
use Rattle.swc_ecma_codegen_tokens.proofs.Commenting.CommentSteps.{none_taken}
use Rattle.swc_ecma_codegen_tokens.proofs.Commenting.NoneTaken.{no_maps_bare}
use Rattle.swc_ecma_codegen_emit.specs.Exprs.{binary_op, yield_star}
use Rattle.swc_ecma_codegen_emit.specs.Operands.{is_word_op}
use Rattle.swc_ecma_codegen_emit.specs.Programs.{last_semi}
use Rattle.swc_ecma_codegen_grammar.specs.Settings.{is_up_to_es5}
use Rattle.swc_ecma_codegen_laws.specs.Layouts.{mark, tokens_by, tokens_in}
use Rattle.swc_ecma_codegen_laws.proofs.TwoLayouts.Emissions.{TwoLayouts, IsAlike, bare, Always, always_none, always_then, always_if, always_either, always_step, always_plain, always_guard, always_guarded, always_token, always_minified, both_always, both_as, both_either, writes_as, writes_either}

-- ---- blanks, lines and positions

pub always_space : Always space []
unfolding space
always_space = always_plain Space

pub always_formatting_space : Always formatting_space []
unfolding formatting_space no_part
always_formatting_space = always_minified always_none always_space

pub always_line_end : Always line_end []
unfolding line_end
always_line_end = always_plain sheet.Line

pub always_formatting_line : Always formatting_line []
unfolding formatting_line no_part
always_formatting_line = always_minified always_none always_line_end

pub always_deeper : Always deeper []
unfolding deeper
always_deeper = always_plain Deeper

pub always_shallower : Always shallower []
unfolding shallower
always_shallower = always_plain Shallower

pub always_commit : Always commit_pending_semi []
unfolding commit_pending_semi
always_commit = always_plain Commit

pub always_begin_lines : (max : ℕ) → Always (begin_lines max) []
unfolding begin_lines
always_begin_lines max = always_plain (BeginLines max)

pub always_end_lines : Always end_lines []
unfolding end_lines
always_end_lines = always_plain EndLines

pub always_position : (pos : BytePos) → Always (position pos) []
unfolding position
always_position pos = always_if (pos.0 == 0) always_none (always_plain (Position pos))

pub always_last_of : (span : Span) → Always (last_of span) []
unfolding position_before
always_last_of span = always_if (span.hi.0 == 0) always_none (always_plain (Position (record { 0 = span.hi.0 - 1 })))

pub always_last_semi : Always last_semi []
unfolding last_semi
always_last_semi = record { at = λ env. writes_as last_semi (λ rest now. if env.config.omit_last_semi then rest now else commit_pending_semi rest now) (λ rest. refl) (writes_either env.config.omit_last_semi (λ rest. rest) commit_pending_semi (λ b. []) true true (always_none.at env) (always_commit.at env)) }

-- ---- comments, of which there are none

always_take : (side : Side) (prefix_space : Bool) (at : ℕ) → Always (take_comments side prefix_space at) []
unfolding take_comments comments after_step tokens_in tokens_by
always_take side prefix_space at =
    let taken : Always (step (Take side at)) [] = always_step (Take side at) (none_taken side at) refl in
    record { at = λ env. writes_as (take_comments side prefix_space at) (step (Take side at)) (λ rest. ap (λ (cs : List SourceComment). step (Take side at) (comments prefix_space cs rest) (bare env)) (no_maps_bare side at)) (taken.at env) }

pub always_leading : (pos : BytePos) → Always (leading_comments pos) []
unfolding leading_comments
always_leading pos = always_if (pos.0 == 0) always_none (always_take Leading false pos.0)

pub always_trailing : (prefix_space : Bool) (pos : BytePos) → Always (trailing_comments prefix_space pos) []
unfolding trailing_comments
always_trailing prefix_space pos = always_if (pos.0 == 0) always_none (always_take Trailing prefix_space pos.0)

pub always_before_end : (pos : BytePos) → Always (comments_before_end pos) []
unfolding comments_before_end
always_before_end pos = always_if (pos.0 == 0) always_none (always_take Leading false (pos.0 - 1))

-- ---- places where a line may be ended

break_at : (b : Bool) → Always (break_where b) []
unfolding break_where
break_at b = always_if b (always_plain AllowBreak) always_none

always_break : Always allow_break []
unfolding allow_break
always_break = record { at = λ env. writes_as allow_break (break_where (is_bounded (bare env))) (λ rest. refl) ((break_at (is_bounded (bare env))).at env) }

-- ---- words and marks

pub always_keyword : (span : Option Span) (t : List ℕ) → Always (keyword span t) ((Word, t) ∷ [])
unfolding keyword text_of
always_keyword span t = always_guarded t Word (Keyword span t)

pub always_operator : (t : List ℕ) → Always (operator t) (mark t ∷ [])
unfolding operator text_of
always_operator t = always_guarded t Punctuator (Operator None t)

always_word_operator : (t : List ℕ) → Always (word_operator t) ((Word, t) ∷ [])
unfolding word_operator text_of
always_word_operator t = always_guarded t Word (Operator None t)

pub always_bare_punct : (t : List ℕ) → Always (bare_punct t) (mark t ∷ [])
unfolding bare_punct text_of
always_bare_punct t = always_guarded t Punctuator (Punct None t)

pub always_punct : (t : List ℕ) → Always (punct t) (mark t ∷ [])
unfolding punct
always_punct t = always_then (always_bare_punct t) (always_if (allows_break t) always_break always_none)

pub always_punct_between : (t : List ℕ) → Always (punct_between t) (mark t ∷ [])
unfolding punct_between
always_punct_between t = always_then always_space (always_then (always_punct t) always_space)

pub always_ellipsis : (span : Span) → Always (placed_punct span (codes "...")) (mark (codes "...") ∷ [])
unfolding placed_punct text_of
always_ellipsis span = always_guarded (codes "...") Punctuator (Punct (Some span) (codes "..."))

pub always_question : (optional : Bool) → Always (question optional) (if optional then mark (codes "?") ∷ [] else [])
unfolding question
always_question optional = always_either optional (always_punct (codes "?")) always_none

pub always_bare_semi : Always bare_semi ((Ending, codes ";") ∷ [])
unfolding bare_semi text_of
always_bare_semi = always_guarded (codes ";") Ending (Semi None)

pub always_semi : Always semi ((Ending, codes ";") ∷ [])
unfolding semi
always_semi = always_then always_bare_semi always_break

pub always_binary : (op : BinaryOp) → Always (λ rest. binary_op op (allow_break rest)) (if is_word_op op then (Word, binary_text op) ∷ [] else mark (binary_text op) ∷ [])
unfolding binary_op
always_binary op = elim (is_word_op op) as (λ b. Always (λ rest. if b then word_operator (binary_text op) (allow_break rest) else operator (binary_text op) (allow_break rest)) (if b then (Word, binary_text op) ∷ [] else mark (binary_text op) ∷ [])) [
  | true ↦ always_then (always_word_operator (binary_text op)) always_break
  | false ↦ always_then (always_operator (binary_text op)) always_break
]

pub always_yield : (delegate : Bool) → Always (λ rest. keyword None (codes "yield") (yield_star delegate rest)) ((Word, codes "yield") ∷ (if delegate then mark (codes "*") ∷ [] else []))
unfolding yield_star
always_yield delegate = always_then (always_keyword None (codes "yield")) (always_either delegate (always_operator (codes "*")) always_none)

pub always_hashbang : (t : List ℕ) → Always (hashbang t) ((Hashbang, codes "#!" ++ t) ∷ [])
unfolding hashbang after_step tokens_in tokens_by
always_hashbang t = always_then (always_plain (Punct None (codes "#!"))) (always_then (always_step (Ends ((Hashbang, codes "#!" ++ t) ∷ []) (StrLit dummy_span t)) refl refl) always_line_end)

-- ---- by the settings, but for whether they minify

pub alike_loop_ending : {two : TwoLayouts} (bounded : Bool) → IsAlike two bounded loop_ending
unfolding loop_ending
alike_loop_ending {two} bounded = record {
  at = λ x y.
      both_as loop_ending loop_ending (λ rest now. if is_up_to_es5 two.config.target then semi rest now else rest now) (λ rest now. if is_up_to_es5 two.config.target then semi rest now else rest now) (λ rest. refl) (λ rest. refl)
      (both_either (is_up_to_es5 two.config.target) semi semi (λ rest. rest) (λ rest. rest) (both_always always_semi always_semi) (both_always always_none always_none));
}

pub alike_attributes_word : {two : TwoLayouts} (bounded : Bool) → IsAlike two bounded attributes_word
unfolding attributes_word
alike_attributes_word {two} bounded =
    let assert_ : Always (keyword None (codes "assert")) ((Word, codes "assert") ∷ []) = always_keyword None (codes "assert") in
    let with_ : Always (keyword None (codes "with")) ((Word, codes "with") ∷ []) = always_keyword None (codes "with") in
    let chosen : Part = λ rest now. if two.config.emit_assert_for_import_attributes then keyword None (codes "assert") rest now else keyword None (codes "with") rest now in
    record {
      at = λ x y.
          both_as attributes_word attributes_word chosen chosen (λ rest. refl) (λ rest. refl)
          (both_either two.config.emit_assert_for_import_attributes (keyword None (codes "assert")) (keyword None (codes "assert")) (keyword None (codes "with")) (keyword None (codes "with")) (both_always assert_ assert_) (both_always with_ with_));
    }

-- ---- tags

pub always_close : Always close ((Close, codes ">") ∷ [])
unfolding close text_of
always_close = always_guarded (codes ">") Close (Punct None (codes ">"))

pub always_tag_name : (span : Span) (t : List ℕ) → Always (tag_name span t) ((JsxName, t) ∷ [])
unfolding tag_name tag_symbol text_of
always_tag_name span t = always_then (always_leading span.lo) (always_then always_commit (always_then (always_guard t) (always_then (always_position span.lo) (always_token JsxName (Symbol dummy_span t)))))

pub always_jsx_text : (span : Span) (t : List ℕ) → Always (jsx_text span t) ((JsxText, t) ∷ [])
unfolding jsx_text text_of
always_jsx_text span t = always_token JsxText (StrLit span t)

pub always_child_open : (t : List ℕ) → Always (child_open t) ((JsxOpen, t) ∷ [])
unfolding child_open text_of
always_child_open t = always_token JsxOpen (Punct None t)

-- ---- where a literal begins

pub always_begun : (span : Span) (t : List ℕ) → Always (begun span t) []
unfolding begun
always_begun span t = always_then (always_leading span.lo) (always_then (always_guard t) (always_position span.lo))

pub always_settled : (span : Span) (t : List ℕ) → Always (settled_begun span t) []
unfolding settled_begun
always_settled span t = always_then always_commit (always_begun span t)

pub always_remake : (due : Bool) → Always (step (Remake due)) []
unfolding after_step tokens_in tokens_by
always_remake due = always_step (Remake due) refl refl
