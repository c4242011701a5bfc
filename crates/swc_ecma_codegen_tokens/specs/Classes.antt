-- The rows of the table of blanks.
use Rattle.std.specs.Prelude.{◌≡◌, ℕ, List, ◌==◌}
use Rattle.std.specs.Int.{bit_at}
use Rattle.swc_ecma_codegen_grammar.specs.GapRules.{fuses}
use Rattle.swc_ecma_codegen_literals.specs.Punctuators.{place}
use Rattle.swc_ecma_codegen_literals.specs.declared.classes.TokenClass.{TokenClass}
use Rattle.swc_ecma_codegen_literals.specs.declared.classes.TokenClass.TheVariants as class
use Rattle.swc_ecma_codegen_tokens.specs.PreviousToken.{class_of, last_at}
use Rattle.swc_ecma_codegen_tokens.specs.Starts.{order, start_class}
use Rattle.swc_ecma_codegen_tokens.specs.declared.previous.PreviousToken.{PreviousToken}

-- the place of a class in the table: the punctuators come first
unfoldable pub place_of : TokenClass → ℕ
place_of (class.Punctuator p) = place p
place_of class.LessBang = 58
place_of class.Word = 59
place_of class.Integer = 60
place_of class.Closing = 61
place_of class.Rest = 62

-- what the row of a class says of its tokens: the bit of a text's class is set where the two fuse
abbrev pub IsRowOf : TokenClass → ℕ → Type 0
IsRowOf class row = (token : PreviousToken) (text : List ℕ) → class_of token ≡ class → (bit_at row (order (start_class text)) == 1) ≡ fuses (last_at token) text
