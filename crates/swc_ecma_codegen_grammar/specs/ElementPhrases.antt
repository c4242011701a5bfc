-- Elements of arrays, among which are holes. ECMA-262, section 13.2.4.
use Rattle.std.specs.Prelude.{Bool, true, false, if◌then◌else◌, List, [], ◌∷◌, codes, Option, Some, None}
use Rattle.swc_ecma_codegen_grammar.specs.Phrases.{Phrase, Nothing, CommaBefore, Closing, RightBracket, closing_mark, ◌>◌, mark}

-- a hole has no token
unfoldable pub element : {A : Type 0} → (A → Phrase) → Option A → Phrase
element each None = Nothing
element each (Some x) = each x

-- `[a,,]` ends with a hole: the comma at its end is no trailing one
unfoldable pub last_is_hole : {A : Type 0} → List (Option A) → Bool
last_is_hole [] = false
last_is_hole (None ∷ []) = true
last_is_hole (Some x ∷ []) = false
last_is_hole (o ∷ p ∷ xs) = last_is_hole (p ∷ xs)

-- the mark that closes a list, before which a trailing comma may stand behind what is in it: `a, b }` or `a, b, }`
unfoldable pub closing_of : {A : Type 0} → Closing → List A → Phrase
closing_of close [] = mark (closing_mark close)
closing_of close (x ∷ xs) = CommaBefore close

-- the same of an array pattern: a comma stands after a hole that is last
unfoldable pub elements_end : {A : Type 0} → Bool → List A → Phrase
elements_end hole xs = if hole then (mark (codes ",") > mark (codes "]")) else closing_of RightBracket xs
