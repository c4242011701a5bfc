-- What a text reads as.
use Rattle.std.specs.Prelude.{◌≡◌, ◌⊎◌, ℕ, Bool, true, false, List, [], ◌∷◌, ◌++◌, ◌||◌}
use Rattle.swc_ecma_codegen_grammar.specs.declared.kinds.Kind.{Kind}
use Rattle.swc_ecma_codegen_grammar.specs.declared.kinds.Kind.TheVariants.{JsxText, JsxOpen, Hashbang, SameLine}
use Rattle.swc_ecma_codegen_grammar.specs.Chars.{is_one_line}
use Rattle.swc_ecma_codegen_grammar.specs.Tokens.{Token, same_line}
use Rattle.swc_ecma_codegen_grammar.specs.LongestMatch.{IsLongest}
use Rattle.swc_ecma_codegen_grammar.specs.Trivia.{Remark, Trivia}

-- text between tags, and the `{` or `<` that begins another child or a closing tag
unfoldable pub is_child : Kind → Bool
is_child JsxText = true
is_child JsxOpen = true
is_child kind = false

unfoldable pub is_hashbang_kind : Kind → Bool
is_hashbang_kind Hashbang = true
is_hashbang_kind kind = false

unfoldable pub is_same_line : Kind → Bool
is_same_line SameLine = true
is_same_line kind = false

-- no trivia stand before it
unfoldable pub is_close_by : Kind → Bool
is_close_by kind = is_child kind || is_hashbang_kind kind

-- The rest of a text reads as this list: before each token there may be trivia, each token is the longest that can be
-- read there, and behind the last one trivia alone are left. A child of JSX has no trivia before it.
-- `first`: nothing was read yet, so that a hashbang may stand here.
-- `joined`: `[no LineTerminator here]` stands right before, so that the trivia before the next token hold no line terminator,
-- also within a comment (ECMA-262, section 12.4): `return` LF `a` is no reading of `return a`.
unfoldable pub ReadsOn : Bool → Bool → List ℕ → List Token → List Remark → Type 0
ReadsOn first joined text [] remarks = Trivia text remarks
ReadsOn first joined text (x ∷ xs) remarks =
    ((x ≡ same_line) × ReadsOn first true text xs remarks)
    ⊎ ((gap own rest : List ℕ) × (before later : List Remark)
    × (text ≡ gap ++ (own ++ rest))
    × Trivia gap before
    × (is_close_by x.kind ≡ true → gap ≡ [])
    × (is_hashbang_kind x.kind ≡ true → first ≡ true)
    × (joined ≡ true → is_one_line gap ≡ true)
    × IsLongest x own rest
    × ReadsOn false false rest xs later
    × (remarks ≡ before ++ later))

-- a whole text, as tokens and the comments between
unfoldable pub Reads : List ℕ → List Token → List Remark → Type 0
Reads text tokens remarks = ReadsOn true false text tokens remarks

unfoldable pub kinds_of : List Token → List Kind
kinds_of [] = []
kinds_of (x ∷ xs) = x.kind ∷ kinds_of xs
