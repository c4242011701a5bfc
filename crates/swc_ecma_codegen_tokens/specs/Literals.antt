-- The parts that literals are made of.
use Rattle.std.specs.Prelude.{ℕ, ◌==◌, Bool, if◌then◌else◌, List, [], ◌∷◌, ◌++◌, codes, None}
use Rattle.swc_ecma_codegen_common.specs.declared.positions.Span.{Span}
use Rattle.swc_ecma_codegen_spans.specs.Spans.{dummy_span}
use Rattle.swc_ecma_codegen_grammar.specs.declared.kinds.Kind.{Kind}
use Rattle.swc_ecma_codegen_grammar.specs.declared.kinds.Kind.TheVariants.{Name, Punctuator, Number, BigInt, Str, Regex, Hashbang}
use Rattle.swc_ecma_codegen_text_writer.specs.Sheet as calls
use Rattle.swc_ecma_codegen_text_writer.specs.Sheet.{Lit, StrLit, Punct}
use Rattle.swc_ecma_codegen_tokens.specs.Run.{Part, step, Guard, Token, Plain, Ends}
use Rattle.swc_ecma_codegen_tokens.specs.Words.{start_of, leading_comments, commit_pending_semi, line_end}

-- A literal begins: its position is recorded after the blank that is due before its text.
unfoldable pub begun : Span → List ℕ → Part
begun span t rest = leading_comments span.lo (step (Guard t) (start_of span rest))

-- A string or a number begins: a semicolon that is held back is written before it.
unfoldable pub settled_begun : Span → List ℕ → Part
settled_begun span t rest = commit_pending_semi (begun span t rest)

-- a string, as it is spelled
unfoldable pub string : List ℕ → Part
string t rest = step (Guard t) (step (Token Str (StrLit dummy_span t)) rest)

-- a text without its sign
unfoldable pub size_of : List ℕ → List ℕ
size_of [] = []
size_of (c ∷ cs) = if c == 45 then cs else c ∷ cs

-- The tokens of a text that may have a sign: `-5` is two.
unfoldable pub signed : Kind → List ℕ → List (Kind × List ℕ)
signed kind [] = (kind, []) ∷ []
signed kind (c ∷ cs) = if c == 45 then (Punctuator, codes "-") ∷ (kind, cs) ∷ [] else (kind, c ∷ cs) ∷ []

-- a number, as it is spelled: `-5` is one text
unfoldable pub number : List ℕ → Part
number t rest = step (Guard t) (step (Ends (signed Number t) (StrLit dummy_span t)) rest)

-- a number with a dot of its own: `1.` in `1..a`
unfoldable pub dotted_number : List ℕ → Part
dotted_number t rest = step (Guard t) (step (Plain (StrLit dummy_span t)) (step (Ends (signed Number (t ++ codes ".")) (Punct None (codes "."))) rest))

-- the sign before `Infinity`
unfoldable pub sign : Bool → Span → Part
sign negative span rest = if negative then step (Guard (codes "-")) (step (Token Punctuator (StrLit span (codes "-"))) rest) else rest

-- a number that has no literal is a name: `Infinity`, `NaN`
unfoldable pub number_name : Span → List ℕ → Part
number_name span t rest = step (Guard t) (step (Token Name (StrLit span t)) rest)

-- a big integer by its digits, and then `n`
unfoldable pub big_digits : Span → List ℕ → Part
big_digits span t rest = step (Guard t) (step (Plain (Lit span t)) (step (Ends (signed BigInt (t ++ codes "n")) (Lit span (codes "n"))) rest))

-- a big integer, as it is spelled
unfoldable pub big_integer : Span → List ℕ → Part
big_integer span t rest = step (Guard t) (step (Token BigInt (StrLit span t)) rest)

-- `/a/g`
abbrev pub regex_text : List ℕ → List ℕ → List ℕ
regex_text exp flags = codes "/" ++ (exp ++ (codes "/" ++ flags))

-- a regular expression is one token, by four calls
unfoldable pub regex : List ℕ → List ℕ → Part
regex exp flags rest =
    step (Guard (codes "/")) (step (Plain (Punct None (codes "/"))) (step (Plain (calls.Str exp)) (step (Plain (Punct None (codes "/")))
    (step (Ends ((Regex, regex_text exp flags) ∷ []) (calls.Str flags)) rest))))

-- `#!/usr/bin/env node`: a hashbang is one token, by two calls, and its line ends behind it.
unfoldable pub hashbang : List ℕ → Part
hashbang t rest = step (Plain (Punct None (codes "#!"))) (step (Ends ((Hashbang, codes "#!" ++ t) ∷ []) (StrLit dummy_span t)) (line_end rest))
