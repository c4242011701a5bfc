-- The parts and the tokens of JSX.
use Rattle.std.specs.Prelude.{List, ℕ, codes, None}
use Rattle.std.specs.Str.{chars}
use Rattle.swc_ecma_codegen_common.specs.declared.positions.Span.{Span}
use Rattle.swc_ecma_codegen_spans.specs.Spans.{dummy_span}
use Rattle.swc_ecma_codegen_grammar.specs.declared.kinds.Kind.TheVariants.{Close, JsxName, JsxText, JsxOpen}
use Rattle.swc_ecma_codegen_grammar.specs.Tokens.{Token}
use Rattle.swc_ecma_codegen_grammar.specs.Tokens as tokens
use Rattle.swc_ecma_codegen_text_writer.specs.Sheet.{Punct, StrLit, Symbol}
use Rattle.swc_ecma_codegen_tokens.specs.Run as run
use Rattle.swc_ecma_codegen_tokens.specs.Run.{Part, step, Guard}
use Rattle.swc_ecma_codegen_tokens.specs.Words.{commit_pending_semi, leading_comments, start_of}

-- the `>` that closes a tag, a list of types or a type assertion
abbrev pub closing : Token
closing = tokens.tag_close

unfoldable pub close : Part
close rest = step (Guard (codes ">")) (step (run.Token Close (Punct None (codes ">"))) rest)

-- a name in a tag
abbrev pub tag_name_token : List ℕ → Token
tag_name_token t = tokens.tag_name (chars t)

unfoldable pub tag_symbol : Span → List ℕ → Part
tag_symbol span t rest = step (Guard t) (start_of span (step (run.Token JsxName (Symbol dummy_span t)) rest))

-- the same with its comments
unfoldable pub tag_name : Span → List ℕ → Part
tag_name span t rest = leading_comments span.lo (commit_pending_semi (tag_symbol span t rest))

-- the text between tags: no blank is due before it
abbrev pub text_token : List ℕ → Token
text_token t = tokens.jsx_text (chars t)

unfoldable pub jsx_text : Span → List ℕ → Part
jsx_text span t rest = step (run.Token JsxText (StrLit span t)) rest

-- the `<` or `{` that begins a child or a closing tag: nor before it
abbrev pub open_token : List ℕ → Token
open_token t = tokens.child_open t

unfoldable pub child_open : List ℕ → Part
child_open t rest = step (run.Token JsxOpen (Punct None t)) rest
