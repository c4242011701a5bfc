-- Strings inside a script of an HTML page: those that are printed by their value, not as they were spelled.
use Rattle.std.specs.Prelude.{◌≡◌, ℕ, Bool, true, false, ◌&&◌, if◌then◌else◌, List, [], ◌∷◌, ◌++◌, ⊤}
use Rattle.std.specs.Str.{chars}
use Rattle.swc_ecma_codegen_grammar.specs.declared.kinds.Kind.{Kind}
use Rattle.swc_ecma_codegen_grammar.specs.declared.kinds.Kind.TheVariants as kinds
use Rattle.swc_ecma_codegen_text_writer.specs.Sheet.{Item, StrLit}
use Rattle.swc_ecma_codegen_literals.specs.InlineScripts.{IsInlineSafe}
use Rattle.swc_ecma_codegen_tokens.specs.Run.{Step, Guard, Token, Plain, Ends, Remake, Take, CommentText, text_of}

-- the kind of string literals
unfoldable pub is_str : Kind → Bool
is_str kinds.Str = true
is_str kind = false

-- a call that writes a string literal
unfoldable pub is_string_call : Kind → Item → Bool
is_string_call kind (StrLit span t) = is_str kind
is_string_call kind x = false

-- The text of such a call, where texts are made anew.
unfoldable pub string_by_value : Bool → Kind → Item → List (List ℕ)
string_by_value anew kind x = if anew && is_string_call kind x then text_of x ∷ [] else []

-- The same of steps, in order: what was said last of a text, that it is made anew or that it isn't, holds up to the next.
unfoldable pub strings_after : Bool → List Step → List (List ℕ)
strings_after anew [] = []
strings_after anew (Guard t ∷ xs) = strings_after anew xs
strings_after anew (Token kind x ∷ xs) = string_by_value anew kind x ++ strings_after anew xs
strings_after anew (Plain x ∷ xs) = strings_after anew xs
strings_after anew (Ends tokens x ∷ xs) = strings_after anew xs
strings_after anew (Remake due ∷ xs) = strings_after due xs
strings_after anew (Take side at ∷ xs) = strings_after anew xs
strings_after anew (CommentText t ∷ xs) = strings_after anew xs

-- The strings that these steps print by their value, as they are written: `"a"` of a string without a raw. One that is printed
-- as it was spelled, `'a'`, isn't among them, since its text isn't made anew.
abbrev pub value_strings : List Step → List (List ℕ)
value_strings xs = strings_after false xs

-- each of these texts is safe inside a script
unfoldable pub AreSafe : List (List ℕ) → Type 0
AreSafe [] = ⊤
AreSafe (t ∷ ts) = IsInlineSafe (chars t) × AreSafe ts

-- These texts stand in a text, one after another: `"a"` and `"b"` in `f("a","b")`.
unfoldable pub StandIn : List ℕ → List (List ℕ) → Type 0
StandIn text [] = ⊤
StandIn text (t ∷ ts) = (before rest : List ℕ) × (text ≡ before ++ (t ++ rest)) × StandIn rest ts

-- These strings stand in what a text is longer by, and each is safe inside a script.
pub record AddsSafe (strings : List (List ℕ)) (old new : List ℕ) : Type 0 where
  pub added : List ℕ
  pub is_added : new ≡ old ++ added
  pub stand : StandIn added strings
  pub safe : AreSafe strings
