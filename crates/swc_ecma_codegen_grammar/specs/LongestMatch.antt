-- The longest match. ECMA-262, section 12: the longest sequence of characters that is a token of the goal is the next one.
use Rattle.std.specs.Prelude.{◌≡◌, ℕ, Bool, true, false, List, [], ◌∷◌, ◌++◌, ◌||◌, ◌==◌, codes}
use Rattle.swc_ecma_codegen_grammar.specs.declared.kinds.Kind.{Kind}
use Rattle.swc_ecma_codegen_grammar.specs.declared.kinds.Kind.TheVariants.{Number, BigInt}
use Rattle.swc_ecma_codegen_grammar.specs.Chars.{is_part, begins_digit}
use Rattle.swc_ecma_codegen_grammar.specs.Texts.{is_among, begins}
use Rattle.swc_ecma_codegen_grammar.specs.Tokens.{Child, goal, Token, Spells}

-- What opens a comment, here at the start of any token. ECMA-262, sections 12.4 and B.1.1.
unfoldable pub openers : List (List ℕ)
openers = codes "//" ∷ codes "/*" ∷ codes "<!--" ∷ codes "-->" ∷ []

-- A front of a text spells a token, where `rest` follows it: `?.` before a digit spells none. Section 12.8,
-- OptionalChainingPunctuator.
pub record Stands (token : Token) (front rest : List ℕ) : Type 0 where
  pub spells : Spells token front
  pub no_digit : front ≡ codes "?." → begins_digit rest ≡ false

unfoldable pub is_numeric_kind : Kind → Bool
is_numeric_kind Number = true
is_numeric_kind BigInt = true
is_numeric_kind kind = false

-- a text goes on with a name or a number
unfoldable pub goes_on : List ℕ → Bool
goes_on [] = false
goes_on (c ∷ cs) = is_part c || (c == 92)

-- No longer front is a token of this goal; no comment opens here, but in text between tags; a number is not followed by
-- a name or a digit (section 12.9.3).
pub record IsLongest (token : Token) (text rest : List ℕ) : Type 0 where
  pub stands : Stands token text rest
  pub longest : (other : Token) (more left : List ℕ) → goal other.kind ≡ goal token.kind → rest ≡ more ++ left → Stands other (text ++ more) left → more ≡ []
  pub no_comment : (goal token.kind ≡ Child → ⊥) → (opener : List ℕ) → is_among opener openers ≡ true → begins opener (text ++ rest) ≡ false
  pub number_ends : is_numeric_kind token.kind ≡ true → goes_on rest ≡ false
