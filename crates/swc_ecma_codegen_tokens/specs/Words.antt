-- The parts that plans are made of.
use Rattle.std.specs.Prelude.{ℕ, ◌-◌, ◌==◌, nat_lt, ◌||◌, Bool, false, if◌then◌else◌, List, [], ◌∷◌, codes, Option, Some, None, string_bytes}
use Rattle.swc_ecma_codegen_common.specs.declared.positions.BytePos.{BytePos}
use Rattle.swc_ecma_codegen_common.specs.declared.positions.Span.{Span}
use Rattle.swc_ecma_codegen_spans.specs.Spans.{dummy_span}
use Rattle.swc_ecma_codegen_grammar.specs.declared.kinds.Kind.TheVariants.{Word, Name, Punctuator, Ending}
use Rattle.swc_ecma_codegen_text_writer.specs.Sheet.{Semi, Space, Keyword, Operator, Symbol, Punct, Position, Commit, Comment, BeginLines, AllowBreak, EndLines}
use Rattle.swc_ecma_codegen_text_writer.specs.Sheet as sheet
use Rattle.swc_ecma_codegen_grammar.specs.CommentMaps.{Maps}
use Rattle.swc_ecma_codegen_grammar.specs.declared.comments.Comment.{Comment as SourceComment}
use Rattle.swc_ecma_codegen_grammar.specs.declared.comments.CommentKind.{CommentKind}
use Rattle.swc_ecma_codegen_grammar.specs.declared.comments.CommentKind.TheVariants.{Line, Block}
use Rattle.swc_ecma_codegen_grammar.specs.Comments.{Side, Leading, Trailing, comments_at}
use Rattle.swc_ecma_codegen_grammar.specs.ValidNames.{turned}
use Rattle.swc_ecma_codegen_tokens.specs.declared.refusals.Unprintable.TheVariants.{NameOutOfTarget}
use Rattle.swc_ecma_codegen_tokens.specs.Run.{Part, step, is_bounded, with_max_line, Guard, Token, Plain, Remake, Take, CommentText, refuse, when_minified, no_part, has_backslash}
use Rattle.swc_ecma_codegen_tokens.specs.Targets.{wants_escapes, in_ascii, is_out_name}

-- a keyword
unfoldable pub keyword : Option Span → List ℕ → Part
keyword span t rest = step (Guard t) (step (Token Word (Keyword span t)) rest)

-- an operator that is a punctuator
unfoldable pub operator : List ℕ → Part
operator t rest = step (Guard t) (step (Token Punctuator (Operator None t)) rest)

-- an operator that is a word
unfoldable pub word_operator : List ℕ → Part
word_operator t rest = step (Guard t) (step (Token Word (Operator None t)) rest)

-- here a line may be ended
unfoldable pub break_where : Bool → Part
break_where allowed rest = if allowed then step (Plain AllowBreak) rest else rest

-- the same where lines are bounded
unfoldable pub allow_break : Part
allow_break rest env = break_where (is_bounded env) rest env

-- behind these a line may be ended: `(` `,` `;` `[` `{`
abbrev pub allows_break : List ℕ → Bool
allows_break (c ∷ []) = (c == 40) || ((c == 44) || ((c == 59) || ((c == 91) || (c == 123))))
allows_break t = false

abbrev pub break_behind : List ℕ → Part
break_behind t rest = if allows_break t then allow_break rest else rest

-- a punctuator, and the same with the place behind it where a line may be ended
unfoldable pub bare_punct : List ℕ → Part
bare_punct t rest = step (Guard t) (step (Token Punctuator (Punct None t)) rest)

unfoldable pub punct : List ℕ → Part
punct t rest = bare_punct t (break_behind t rest)

-- one whose place is recorded, `...` of `...a`
unfoldable pub placed_punct : Span → List ℕ → Part
placed_punct span t rest = step (Guard t) (step (Token Punctuator (Punct (Some span) t)) rest)

-- a semicolon that may be left out where it isn't needed, and the same with the place behind it where a line may be ended
unfoldable pub bare_semi : Part
bare_semi rest = step (Guard (codes ";")) (step (Token Ending (Semi None)) rest)

unfoldable pub semi : Part
semi rest = bare_semi (allow_break rest)

-- a blank
unfoldable pub space : Part
space rest = step (Plain Space) rest

-- an operator between two blanks, ` + `, and a punctuator, ` ? `
unfoldable pub operator_between : List ℕ → Part
operator_between t rest = space (operator t (space rest))

unfoldable pub punct_between : List ℕ → Part
punct_between t rest = space (punct t (space rest))

-- a blank, unless minified
unfoldable pub formatting_space : Part
formatting_space = when_minified no_part space

-- the line ends, unless at a line's start
unfoldable pub line_end : Part
line_end rest = step (Plain sheet.Line) rest

-- the same, unless minified
unfoldable pub formatting_line : Part
formatting_line = when_minified no_part line_end

-- a semicolon that is held back is written
unfoldable pub commit_pending_semi : Part
commit_pending_semi rest = step (Plain Commit) rest

-- lines are filled from here on, and no more
unfoldable pub begin_lines : ℕ → Part
begin_lines max rest = step (Plain (BeginLines max)) rest

unfoldable pub end_lines : Part
end_lines rest = step (Plain EndLines) rest

-- a part with lines of at most so many units
unfoldable pub in_lines : ℕ → Part → Part
in_lines max part rest = begin_lines max (part (end_lines rest))

-- a part with lines of at most so many units, where they may be ended
unfoldable pub bounded : ℕ → Part → Part
bounded max part = in_lines max (with_max_line (Some max) part)

-- a position is recorded, unless it is none
unfoldable pub position : BytePos → Part
position pos rest = if pos.0 == 0 then rest else step (Plain (Position pos)) rest

-- the position before one is recorded, unless that one is none
unfoldable pub position_before : BytePos → Part
position_before pos rest = if pos.0 == 0 then rest else step (Plain (Position (record { 0 = pos.0 - 1 }))) rest

-- where a node begins, where it ends, and its last character
abbrev pub start_of : Span → Part
start_of span = position span.lo

abbrev pub end_of : Span → Part
end_of span = position span.hi

abbrev pub last_of : Span → Part
last_of span = position_before span.hi

-- ---- comments

-- the blank before a comment, where one is asked for and the settings aren't to minify; it is a comment's call
unfoldable pub comment_blank : Bool → Part
comment_blank prefix_space rest = if prefix_space then when_minified no_part (step (Plain (Comment (codes " ")))) rest else rest

-- the position before what closes a block comment, where there is room for one
unfoldable pub before_closing : BytePos → Part
before_closing pos rest = if nat_lt 2 pos.0 then step (Plain (Position (record { 0 = pos.0 - 2 }))) rest else rest

-- `// a` and the end of the line; `/* a */` and a blank, unless minified
unfoldable pub comment_by : CommentKind → Span → List ℕ → Part
comment_by Line span t rest = start_of span (step (Guard (codes "//")) (step (Plain (Comment (codes "//"))) (step (CommentText t) (end_of span (line_end rest)))))
comment_by Block span t rest = start_of span (step (Guard (codes "/*")) (step (Plain (Comment (codes "/*"))) (step (CommentText t) (before_closing span.hi (step (Plain (Comment (codes "*/"))) (formatting_space rest))))))

unfoldable pub comment : Bool → SourceComment → Part
comment prefix_space c rest = comment_blank prefix_space (comment_by c.kind c.span (string_bytes c.text) rest)

unfoldable pub comments : Bool → List SourceComment → Part
comments prefix_space [] rest = rest
comments prefix_space (c ∷ cs) rest = comment prefix_space c (comments prefix_space cs rest)

-- the comments of a position are taken out of the maps, and written
unfoldable pub take_comments : Side → Bool → ℕ → Part
take_comments side prefix_space at rest env = step (Take side at) (comments prefix_space (comments_at side at env.maps) rest) env

-- the comments before a position, and those after one, unless it is none
unfoldable pub leading_comments : BytePos → Part
leading_comments pos rest = if pos.0 == 0 then rest else take_comments Leading false pos.0 rest

unfoldable pub trailing_comments : Bool → BytePos → Part
trailing_comments prefix_space pos rest = if pos.0 == 0 then rest else take_comments Trailing prefix_space pos.0 rest

-- the comments before the last character of what ends at a position, unless it is none: those before `}`
unfoldable pub comments_before_end : BytePos → Part
comments_before_end pos rest = if pos.0 == 0 then rest else take_comments Leading false (pos.0 - 1) rest

-- what depends on the comments that are still to be taken
unfoldable pub by_maps : (Maps → Part) → Part
by_maps ask rest env = ask env.maps rest env

-- A name by a text: its position is recorded after the blank that is due before it.
unfoldable pub symbol : Span → List ℕ → Part
symbol span t rest = step (Guard t) (start_of span (step (Token Name (Symbol dummy_span t)) rest))

-- A name by a text, which is escaped where the settings ask for ASCII. Nothing of it is written where it can't be: neither
-- its position, nor the blank that is due before it.
unfoldable pub spelled_symbol : Span → List ℕ → Part
spelled_symbol span t rest env =
    if is_out_name env.config t then refuse NameOutOfTarget rest env
    else step (Remake (wants_escapes env.config t)) (symbol span (in_ascii env.config t) rest) env

-- A name in which U+0000 after a backslash is left out.
unfoldable pub valid_symbol : Span → List ℕ → Part
valid_symbol span name rest = step (Remake (has_backslash name)) (spelled_symbol span (turned name) rest)

-- the text of a name, as the writer takes names
unfoldable pub name_text : Span → List ℕ → Part
name_text span name rest env = if env.keeps_invalid then spelled_symbol span name rest env else valid_symbol span name rest env

-- `?` after an optional name
unfoldable pub question : Bool → Part
question optional rest = if optional then punct (codes "?") rest else rest

-- a name with its comments
unfoldable pub name : Span → List ℕ → Bool → Part
name span sym optional rest = leading_comments span.lo (commit_pending_semi (name_text span sym (question optional rest)))
