-- Where two lists of tokens that one text reads as may part: the tokens before don't tell which of two comes.
use Rattle.std.specs.Prelude.{◌≡◌, Bool, true, false, ◌||◌, ◌&&◌, ℕ, List, [], ◌∷◌, ◌++◌, codes, bytes_eq, if◌then◌else◌}
use Rattle.swc_ecma_codegen_grammar.specs.Reads.{is_same_line}
use Rattle.swc_ecma_codegen_grammar.specs.Tokens.{Token, Value, Characters}
use Rattle.swc_ecma_codegen_grammar.specs.declared.kinds.Kind.{Kind}
use Rattle.swc_ecma_codegen_grammar.specs.declared.kinds.Kind.TheVariants.{Word, Name}
use Rattle.swc_ecma_codegen_syntax.specs.NameForms.{is_one_of}

-- words of the grammar that are names as well, and which the tokens before them don't tell
abbrev pub open_words : List (List ℕ)
open_words = codes "async" ∷ codes "await" ∷ codes "constructor" ∷ codes "let" ∷ codes "yield" ∷ []

unfoldable pub is_open_word : Kind → Value → Bool
is_open_word Word (Characters text) = is_one_of open_words text
is_open_word kind v = false

unfoldable pub is_name : Kind → Bool
is_name Name = true
is_name kind = false

unfoldable pub are_one_text : Value → Value → Bool
are_one_text (Characters a) (Characters b) = bytes_eq a b
are_one_text v w = false

-- One text may be both: `yield` is a word, or the name of these letters.
unfoldable pub are_homographs : Token → Token → Bool
are_homographs x y = is_open_word x.kind x.value && (is_name y.kind && are_one_text x.value y.value)

-- two lists begin with such, in one order or the other
unfoldable pub begin_alike : List Token → List Token → Bool
begin_alike (x ∷ xs) (y ∷ ys) = are_homographs x y || are_homographs y x
begin_alike xs ys = false

-- `[no LineTerminator here]`, which is no text, doesn't count
unfoldable pub behind_line : List Token → List Token
behind_line [] = []
behind_line (x ∷ xs) = if is_same_line x.kind then xs else x ∷ xs

-- Two lists are the same up to such a place.
pub record Parting (xs ys : List Token) : Type 0 where
  pub before : List Token
  pub first : List Token
  pub second : List Token
  pub is_first : xs ≡ before ++ first
  pub is_second : ys ≡ before ++ second
  pub parts : begin_alike (behind_line first) (behind_line second) ≡ true
