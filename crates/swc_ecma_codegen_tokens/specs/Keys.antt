-- Names as keys of properties. ECMA-262, section 13.2.5; `emit_prop_name` of swc.
use Rattle.std.specs.Prelude.{ℕ, Bool, true, if◌then◌else◌, List}
use Rattle.std.specs.List.{list_any}
use Rattle.std.specs.Str.{chars}
use Rattle.swc_ecma_codegen_common.specs.declared.positions.Span.{Span}
use Rattle.swc_ecma_codegen_spans.specs.Spans.{dummy_span}
use Rattle.swc_ecma_codegen_grammar.specs.declared.kinds.Kind.TheVariants.{Str}
use Rattle.swc_ecma_codegen_grammar.specs.ValidNames.{turned}
use Rattle.swc_ecma_codegen_text_writer.specs.Sheet.{Symbol}
use Rattle.swc_ecma_codegen_literals.specs.AsciiNames.{ascii_name, wants_quotes}
use Rattle.swc_ecma_codegen_tokens.specs.Run.{Part, step, Guard, Token, Remake, has_backslash}
use Rattle.swc_ecma_codegen_tokens.specs.Targets.{wants_escapes}
use Rattle.swc_ecma_codegen_tokens.specs.Words.{start_of, leading_comments, commit_pending_semi, symbol}

-- a key in quotes, `"\xe9"`: its position is recorded after the blank that is due before it
unfoldable pub quoted_key : Span → List ℕ → Part
quoted_key span t rest = step (Guard t) (start_of span (step (Token Str (Symbol dummy_span t)) rest))

-- a key by a text that was made in ASCII: in quotes, or a name
unfoldable pub ascii_key : Bool → Span → List ℕ → Part
ascii_key quoted span t rest = if quoted then quoted_key span t rest else symbol span t rest

-- A key as it is begins, and then it begins as a name: its position is recorded twice, as swc has it.
unfoldable pub bare_key : Span → List ℕ → Part
bare_key span t rest = step (Guard t) (start_of span (leading_comments span.lo (commit_pending_semi (symbol span t rest))))

-- a key that holds no escape that the settings ask for
unfoldable pub plain_key : Span → List ℕ → Part
plain_key span t rest env = if env.config.ascii_only then symbol span t rest env else bare_key span t rest env

-- a key by a text, in ASCII where the settings ask for that
unfoldable pub spelled_key : Span → List ℕ → Part
spelled_key span t rest env =
    if wants_escapes env.config t then step (Remake true) (ascii_key (list_any (wants_quotes env.config.target) (chars t)) span (ascii_name true env.config.target (chars t)) rest) env
    else plain_key span t rest env

-- A key in which U+0000 after a backslash is left out.
unfoldable pub valid_key : Span → List ℕ → Part
valid_key span name rest = step (Remake (has_backslash name)) (spelled_key span (turned name) rest)

-- the text of a key, as the writer takes names
unfoldable pub key_text : Span → List ℕ → Part
key_text span name rest env = if env.keeps_invalid then spelled_key span name rest env else valid_key span name rest env

-- a key with its comments
unfoldable pub key : Span → List ℕ → Part
key span sym rest = leading_comments span.lo (commit_pending_semi (key_text span sym rest))
