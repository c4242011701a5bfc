-- What is asked of the texts and the children of JSX.
use Rattle.std.specs.Prelude.{ℕ, Bool, false, ◌||◌, ◌==◌, List, [], ◌∷◌, Option, Some, None}
use Rattle.swc_ecma_codegen_tree.specs.declared.jsx.JSXElementChild.{JSXElementChild}
use Rattle.swc_ecma_codegen_grammar.specs.JsxPhrases.{is_text}

-- a character stands in a text
unfoldable pub holds_character : ℕ → List ℕ → Bool
holds_character q [] = false
holds_character q (c ∷ cs) = (c == q) || holds_character q cs

-- what is there is text
unfoldable pub is_some_text : {X : Type 0} → Option (JSXElementChild X) → Bool
is_some_text None = false
is_some_text (Some n) = is_text n
