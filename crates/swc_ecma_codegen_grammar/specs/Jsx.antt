-- The tokens of JSX: names in tags, strings of attributes and text between tags. JSX specification, sections "JSX
-- Elements", "JSX Attributes", "JSX Children" and "JSX Strings".
use Rattle.std.specs.Prelude.{ℕ, Bool, true, false, not, List, [], ◌∷◌, ◌&&◌, ◌||◌, ◌==◌, if◌then◌else◌, codes}
use Rattle.swc_ecma_codegen_grammar.specs.Chars.{is_start, is_part, is_quote}
use Rattle.swc_ecma_codegen_grammar.specs.Texts.{is_empty, is_among}

unfoldable pub all_tag : List ℕ → Bool
all_tag [] = true
all_tag (c ∷ cs) = (is_part c || (45 == c)) && all_tag cs

-- JSXIdentifier: a name without escapes, which may hold `-` after its first character
unfoldable pub is_jsx_name : List ℕ → Bool
is_jsx_name [] = false
is_jsx_name (c ∷ cs) = is_start c && all_tag cs

-- the characters of a string up to its quote
unfoldable pub ends_jsx_string : ℕ → List ℕ → Bool
ends_jsx_string q [] = false
ends_jsx_string q (c ∷ cs) = if c == q then is_empty cs else ends_jsx_string q cs

-- a string of an attribute, which has no escapes
unfoldable pub is_jsx_string : List ℕ → Bool
is_jsx_string [] = false
is_jsx_string (q ∷ cs) = is_quote q && ends_jsx_string q cs

-- JSXTextCharacter: neither `{`, `<`, `>` nor `}`
unfoldable pub is_bare : ℕ → Bool
is_bare c = not (((c == 123) || (c == 125)) || ((c == 60) || (c == 62)))

unfoldable pub all_bare : List ℕ → Bool
all_bare [] = true
all_bare (c ∷ cs) = is_bare c && all_bare cs

-- JSXText
unfoldable pub is_jsx_text : List ℕ → Bool
is_jsx_text text = not (is_empty text) && all_bare text

-- what begins a child other than text, or a closing tag
unfoldable pub is_jsx_open : List ℕ → Bool
is_jsx_open text = is_among text (codes "{" ∷ codes "<" ∷ [])
