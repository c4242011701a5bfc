-- What is written of private names: `#a`. ECMA-262, section 12.7; `emit_private_name` of swc.
use Rattle.std.specs.Prelude.{ℕ, if◌then◌else◌, List, [], ◌∷◌, ◌++◌, codes, None}
use Rattle.swc_ecma_codegen_common.specs.declared.positions.Span.{Span}
use Rattle.swc_ecma_codegen_spans.specs.Spans.{dummy_span}
use Rattle.swc_ecma_codegen_grammar.specs.declared.kinds.Kind.TheVariants.{PrivateName}
use Rattle.swc_ecma_codegen_grammar.specs.ValidNames.{turned}
use Rattle.swc_ecma_codegen_text_writer.specs.Sheet.{Symbol, Punct}
use Rattle.swc_ecma_codegen_tokens.specs.declared.refusals.Unprintable.TheVariants.{NameOutOfTarget}
use Rattle.swc_ecma_codegen_tokens.specs.Run.{Part, step, Guard, Plain, Ends, Remake, refuse, has_backslash}
use Rattle.swc_ecma_codegen_tokens.specs.Targets.{wants_escapes, in_ascii, is_out_name}
use Rattle.swc_ecma_codegen_tokens.specs.Words.{start_of, end_of, leading_comments}

-- `#` and a name
abbrev pub private_spelling : List ℕ → List ℕ
private_spelling t = codes "#" ++ t

-- the call of the name, with which the token ends
unfoldable pub hashed : List ℕ → Part
hashed t rest = step (Ends ((PrivateName, private_spelling t) ∷ []) (Symbol dummy_span t)) rest

-- One token. The name has its position beside the one that stands before `#`.
unfoldable pub private_token : Span → List ℕ → Part
private_token span t rest = step (Guard (codes "#")) (step (Plain (Punct None (codes "#"))) (start_of span (hashed t rest)))

-- with its position, which is recorded after the blank that is due before it
unfoldable pub private_symbol : Span → List ℕ → Part
private_symbol span t rest = step (Guard (codes "#")) (start_of span (private_token span t rest))

-- A text is escaped where the settings ask for ASCII. Nothing of it is written where it can't be.
unfoldable pub spelled_private : Span → List ℕ → Part
spelled_private span t rest env =
    if is_out_name env.config t then refuse NameOutOfTarget rest env
    else step (Remake (wants_escapes env.config t)) (private_symbol span (in_ascii env.config t) rest) env

-- U+0000 after a backslash is left out
unfoldable pub valid_private : Span → List ℕ → Part
valid_private span name rest = step (Remake (has_backslash name)) (spelled_private span (turned name) rest)

-- the text of a name, as the writer takes names
unfoldable pub private_text : Span → List ℕ → Part
private_text span name rest env = if env.keeps_invalid then spelled_private span name rest env else valid_private span name rest env

-- a private name with its comments
unfoldable pub private_name : Span → List ℕ → Part
private_name span name rest = leading_comments span.lo (private_text span name (end_of span rest))
