-- How the spellings of names, strings and numbers begin.
use Rattle.std.specs.Prelude.{ℕ, Bool, false, List, [], ◌∷◌, ◌&&◌, ◌||◌, ◌==◌}
use Rattle.swc_ecma_codegen_grammar.specs.Chars.{begins_digit, is_digit, is_quote, is_start}

-- with a quote: `"a"`
unfoldable pub begins_quoted : List ℕ → Bool
begins_quoted [] = false
begins_quoted (c ∷ cs) = is_quote c

-- with a digit, or with a dot and a digit: `5` and `.5`
unfoldable pub begins_numeric : List ℕ → Bool
begins_numeric [] = false
begins_numeric (c ∷ cs) = is_digit c || ((c == 46) && begins_digit cs)

-- with a character that a name may begin with, or a backslash: `a` and `\u0061`
unfoldable pub begins_name : List ℕ → Bool
begins_name [] = false
begins_name (c ∷ cs) = is_start c || (c == 92)
