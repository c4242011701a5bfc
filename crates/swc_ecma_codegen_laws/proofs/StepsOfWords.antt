-- Words: a law of the words holds of the plan.
use Rattle.swc_ecma_codegen_laws.specs.Breaks.{is_mark, is_break}
use Rattle.swc_ecma_codegen_laws.proofs.OfSteps.{is_other}
use Rattle.std.proofs.Common.{refl}
use Rattle.std.specs.Prelude.{ℕ, ◌-◌, ◌==◌, nat_lt, Bool, false, if◌then◌else◌, List, [], ◌∷◌, codes, Option, string_bytes}
use Rattle.swc_ecma_codegen_common.specs.declared.positions.BytePos.{BytePos}
use Rattle.swc_ecma_codegen_common.specs.declared.positions.Span.{Span}
use Rattle.swc_ecma_codegen_spans.specs.Spans.{dummy_span}
use Rattle.swc_ecma_codegen_grammar.specs.declared.kinds.Kind.TheVariants.{Word, Name}
use Rattle.swc_ecma_codegen_text_writer.specs.Sheet.{Space, Keyword, Symbol, Position, Commit, Comment}
use Rattle.swc_ecma_codegen_text_writer.specs.Sheet as sheet
use Rattle.swc_ecma_codegen_grammar.specs.declared.comments.Comment.{Comment as SourceComment}
use Rattle.swc_ecma_codegen_grammar.specs.declared.comments.CommentKind.{CommentKind}
use Rattle.swc_ecma_codegen_grammar.specs.declared.comments.CommentKind.TheVariants.{Line, Block}
use Rattle.swc_ecma_codegen_grammar.specs.Comments.{Side, Leading, Trailing, comments_at}
use Rattle.swc_ecma_codegen_grammar.specs.ValidNames.{turned}
use Rattle.swc_ecma_codegen_tokens.specs.declared.refusals.Unprintable.TheVariants.{NameOutOfTarget}
use Rattle.swc_ecma_codegen_tokens.specs.Run.{Part, step, Guard, Token, Plain, Remake, Take, CommentText, refuse, no_part, has_backslash}
use Rattle.swc_ecma_codegen_tokens.specs.Targets.{wants_escapes, in_ascii, is_out_name}
use Rattle.swc_ecma_codegen_laws.proofs.OfSteps.{OfSteps, when_minified_holds, either, either_at}
use Rattle.swc_ecma_codegen_tokens.specs.Words.{keyword, space, punct_between, formatting_space, line_end, formatting_line, commit_pending_semi, position, position_before, start_of, end_of, last_of, comment_blank, before_closing, comment_by, comment, comments, take_comments, leading_comments, trailing_comments, comments_before_end, symbol, spelled_symbol, valid_symbol, name_text, question, name}

pub keyword_holds : {holds : Bool → Part → Type 0} (words : OfSteps holds) (bounded : Bool) (span : Option Span) (t : List ℕ) → holds bounded (keyword span t)
unfolding keyword is_other is_mark is_break
keyword_holds words bounded span t = words.and_then bounded (words.step bounded (Guard t) refl) (words.step bounded (Token Word (Keyword span t)) refl)

pub space_holds : {holds : Bool → Part → Type 0} (words : OfSteps holds) (bounded : Bool) → holds bounded space
unfolding space is_other is_mark is_break
space_holds words bounded = words.step bounded (Plain Space) refl

pub punct_between_holds : {holds : Bool → Part → Type 0} (words : OfSteps holds) (bounded : Bool) (t : List ℕ) → holds bounded (punct_between t)
unfolding punct_between
punct_between_holds words bounded t = words.and_then bounded (space_holds words bounded) (words.and_then bounded (words.punct bounded t) (space_holds words bounded))

pub formatting_space_holds : {holds : Bool → Part → Type 0} (words : OfSteps holds) (bounded : Bool) → holds bounded formatting_space
unfolding formatting_space no_part
formatting_space_holds words bounded = when_minified_holds words bounded no_part (words.none bounded) space (space_holds words bounded)

pub line_end_holds : {holds : Bool → Part → Type 0} (words : OfSteps holds) (bounded : Bool) → holds bounded line_end
unfolding line_end is_other is_mark is_break
line_end_holds words bounded = words.step bounded (Plain sheet.Line) refl

pub formatting_line_holds : {holds : Bool → Part → Type 0} (words : OfSteps holds) (bounded : Bool) → holds bounded formatting_line
unfolding formatting_line no_part
formatting_line_holds words bounded = when_minified_holds words bounded no_part (words.none bounded) line_end (line_end_holds words bounded)

pub commit_pending_semi_holds : {holds : Bool → Part → Type 0} (words : OfSteps holds) (bounded : Bool) → holds bounded commit_pending_semi
unfolding commit_pending_semi is_other is_mark is_break
commit_pending_semi_holds words bounded = words.step bounded (Plain Commit) refl

pub position_holds : {holds : Bool → Part → Type 0} (words : OfSteps holds) (bounded : Bool) (pos : BytePos) → holds bounded (position pos)
unfolding position is_other is_mark is_break
position_holds words bounded pos = either words bounded (pos.0 == 0) (words.none bounded) (words.step bounded (Plain (Position pos)) refl)

pub position_before_holds : {holds : Bool → Part → Type 0} (words : OfSteps holds) (bounded : Bool) (pos : BytePos) → holds bounded (position_before pos)
unfolding position_before is_other is_mark is_break
position_before_holds words bounded pos = either words bounded (pos.0 == 0) (words.none bounded) (words.step bounded (Plain (Position (record { 0 = pos.0 - 1 }))) refl)

pub start_of_holds : {holds : Bool → Part → Type 0} (words : OfSteps holds) (bounded : Bool) (span : Span) → holds bounded (start_of span)
start_of_holds words bounded span = position_holds words bounded span.lo

pub end_of_holds : {holds : Bool → Part → Type 0} (words : OfSteps holds) (bounded : Bool) (span : Span) → holds bounded (end_of span)
end_of_holds words bounded span = position_holds words bounded span.hi

pub last_of_holds : {holds : Bool → Part → Type 0} (words : OfSteps holds) (bounded : Bool) (span : Span) → holds bounded (last_of span)
last_of_holds words bounded span = position_before_holds words bounded span.hi

pub comment_blank_holds : {holds : Bool → Part → Type 0} (words : OfSteps holds) (bounded : Bool) (prefix_space : Bool) → holds bounded (comment_blank prefix_space)
unfolding comment_blank is_other is_mark is_break no_part
comment_blank_holds words bounded prefix_space = either words bounded prefix_space (when_minified_holds words bounded no_part (words.none bounded) (step (Plain (Comment (codes " ")))) (words.step bounded (Plain (Comment (codes " "))) refl)) (words.none bounded)

pub before_closing_holds : {holds : Bool → Part → Type 0} (words : OfSteps holds) (bounded : Bool) (pos : BytePos) → holds bounded (before_closing pos)
unfolding before_closing is_other is_mark is_break
before_closing_holds words bounded pos = either words bounded (nat_lt 2 pos.0) (words.step bounded (Plain (Position (record { 0 = pos.0 - 2 }))) refl) (words.none bounded)

pub comment_by_holds : {holds : Bool → Part → Type 0} (words : OfSteps holds) (bounded : Bool) (x0 : CommentKind) (span : Span) (t : List ℕ) → holds bounded (comment_by x0 span t)
unfolding comment_by is_other is_mark is_break
comment_by_holds words bounded Line span t = words.and_then bounded (start_of_holds words bounded span) (words.and_then bounded (words.step bounded (Guard (codes "//")) refl) (words.and_then bounded (words.step bounded (Plain (Comment (codes "//"))) refl) (words.and_then bounded (words.step bounded (CommentText t) refl) (words.and_then bounded (end_of_holds words bounded span) (line_end_holds words bounded)))))
comment_by_holds words bounded Block span t = words.and_then bounded (start_of_holds words bounded span) (words.and_then bounded (words.step bounded (Guard (codes "/*")) refl) (words.and_then bounded (words.step bounded (Plain (Comment (codes "/*"))) refl) (words.and_then bounded (words.step bounded (CommentText t) refl) (words.and_then bounded (before_closing_holds words bounded span.hi) (words.and_then bounded (words.step bounded (Plain (Comment (codes "*/"))) refl) (formatting_space_holds words bounded))))))

pub comment_holds : {holds : Bool → Part → Type 0} (words : OfSteps holds) (bounded : Bool) (prefix_space : Bool) (c : SourceComment) → holds bounded (comment prefix_space c)
unfolding comment
comment_holds words bounded prefix_space c = words.and_then bounded (comment_blank_holds words bounded prefix_space) (comment_by_holds words bounded c.kind c.span (string_bytes c.text))

pub comments_holds : {holds : Bool → Part → Type 0} (words : OfSteps holds) (bounded : Bool) (prefix_space : Bool) (x1 : List SourceComment) → holds bounded (comments prefix_space x1)
unfolding comments
comments_holds words bounded prefix_space [] = words.none bounded
comments_holds words bounded prefix_space (c ∷ cs) = words.and_then bounded (comment_holds words bounded prefix_space c) (comments_holds words bounded prefix_space cs)

pub take_comments_holds : {holds : Bool → Part → Type 0} (words : OfSteps holds) (bounded : Bool) (side : Side) (prefix_space : Bool) (at : ℕ) → holds bounded (take_comments side prefix_space at)
unfolding take_comments is_other is_mark is_break
take_comments_holds words bounded side prefix_space at = words.by_env bounded (λ now rest. step (Take side at) (comments prefix_space (comments_at side at now.maps) rest)) (λ now. (words.and_then bounded (words.step bounded (Take side at) refl) (comments_holds words bounded prefix_space (comments_at side at now.maps))))

pub leading_comments_holds : {holds : Bool → Part → Type 0} (words : OfSteps holds) (bounded : Bool) (pos : BytePos) → holds bounded (leading_comments pos)
unfolding leading_comments
leading_comments_holds words bounded pos = either words bounded (pos.0 == 0) (words.none bounded) (take_comments_holds words bounded Leading false pos.0)

pub trailing_comments_holds : {holds : Bool → Part → Type 0} (words : OfSteps holds) (bounded : Bool) (prefix_space : Bool) (pos : BytePos) → holds bounded (trailing_comments prefix_space pos)
unfolding trailing_comments
trailing_comments_holds words bounded prefix_space pos = either words bounded (pos.0 == 0) (words.none bounded) (take_comments_holds words bounded Trailing prefix_space pos.0)

pub comments_before_end_holds : {holds : Bool → Part → Type 0} (words : OfSteps holds) (bounded : Bool) (pos : BytePos) → holds bounded (comments_before_end pos)
unfolding comments_before_end
comments_before_end_holds words bounded pos = either words bounded (pos.0 == 0) (words.none bounded) (take_comments_holds words bounded Leading false (pos.0 - 1))

pub symbol_holds : {holds : Bool → Part → Type 0} (words : OfSteps holds) (bounded : Bool) (span : Span) (t : List ℕ) → holds bounded (symbol span t)
unfolding symbol is_other is_mark is_break
symbol_holds words bounded span t = words.and_then bounded (words.step bounded (Guard t) refl) (words.and_then bounded (start_of_holds words bounded span) (words.step bounded (Token Name (Symbol dummy_span t)) refl))

pub spelled_symbol_holds : {holds : Bool → Part → Type 0} (words : OfSteps holds) (bounded : Bool) (span : Span) (t : List ℕ) → holds bounded (spelled_symbol span t)
unfolding spelled_symbol is_other is_mark is_break
spelled_symbol_holds words bounded span t = words.by_env bounded (λ now rest env. if is_out_name now.config t then refuse NameOutOfTarget rest env else step (Remake (wants_escapes now.config t)) (symbol span (in_ascii now.config t) rest) env) (λ now. (either_at words bounded (is_out_name now.config t) (words.refuse bounded NameOutOfTarget) (words.and_then bounded (words.step bounded (Remake (wants_escapes now.config t)) refl) (symbol_holds words bounded span (in_ascii now.config t)))))

pub valid_symbol_holds : {holds : Bool → Part → Type 0} (words : OfSteps holds) (bounded : Bool) (span : Span) (name : List ℕ) → holds bounded (valid_symbol span name)
unfolding valid_symbol is_other is_mark is_break
valid_symbol_holds words bounded span name = words.and_then bounded (words.step bounded (Remake (has_backslash name)) refl) (spelled_symbol_holds words bounded span (turned name))

pub name_text_holds : {holds : Bool → Part → Type 0} (words : OfSteps holds) (bounded : Bool) (span : Span) (name : List ℕ) → holds bounded (name_text span name)
unfolding name_text
name_text_holds words bounded span name = words.by_env bounded (λ now rest env. if now.keeps_invalid then spelled_symbol span name rest env else valid_symbol span name rest env) (λ now. (either_at words bounded now.keeps_invalid (spelled_symbol_holds words bounded span name) (valid_symbol_holds words bounded span name)))

pub question_holds : {holds : Bool → Part → Type 0} (words : OfSteps holds) (bounded : Bool) (optional : Bool) → holds bounded (question optional)
unfolding question
question_holds words bounded optional = either words bounded optional (words.punct bounded (codes "?")) (words.none bounded)

pub name_holds : {holds : Bool → Part → Type 0} (words : OfSteps holds) (bounded : Bool) (span : Span) (sym : List ℕ) (optional : Bool) → holds bounded (name span sym optional)
unfolding name
name_holds words bounded span sym optional = words.and_then bounded (leading_comments_holds words bounded span.lo) (words.and_then bounded (commit_pending_semi_holds words bounded) (words.and_then bounded (name_text_holds words bounded span sym) (question_holds words bounded optional)))
