-- What is written of a tree where there are neither comments nor a source text.
use Rattle.std.specs.Prelude.{Bool, codes, if◌then◌else◌}
use Rattle.swc_ecma_codegen_grammar.specs.Phrases.{Phrase, Then, CommaBefore, OptionalParentheses, Argument, Parameter, closing_mark, mark, ◌>◌}

-- What syntax leaves open, settled as such a text settles it: no comma stands before a closing mark, no parentheses stand round what is
-- returned, thrown or yielded, and round the only parameter of an arrow function they stand where it isn't minified: `(a) => b`, minified `a=>b`.
unfoldable pub plain_phrase : Bool → Phrase → Phrase
plain_phrase minify (Then a b) = Then (plain_phrase minify a) (plain_phrase minify b)
plain_phrase minify (CommaBefore close) = mark (closing_mark close)
plain_phrase minify (OptionalParentheses Argument a) = plain_phrase minify a
plain_phrase minify (OptionalParentheses Parameter a) = if minify then plain_phrase minify a else (mark (codes "(") > plain_phrase minify a > mark (codes ")"))
plain_phrase minify p = p
