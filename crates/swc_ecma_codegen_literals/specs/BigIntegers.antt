-- How a big integer is spelled, up to its `n`. ECMA-262, section 12.9.3.
use Rattle.std.specs.Prelude.{◌≡◌, ℕ, true, List, [], ◌++◌, codes}
use Rattle.std.specs.Str.{IsAscii, chars}
use Rattle.std.specs.String.{string_bytes}
use Rattle.swc_ecma_codegen_tree.specs.declared.lits.BigInt.{BigInt}
use Rattle.swc_ecma_codegen_tree.specs.declared.lits.Radix.{Radix}
use Rattle.swc_ecma_codegen_tree.specs.declared.lits.Radix.TheVariants.{Binary, Octal, Decimal as Ten, Hex}
use Rattle.swc_ecma_codegen_grammar.specs.Chars.{begins_digit}
use Rattle.swc_ecma_codegen_grammar.specs.LitPhrases.{radix_number}
use Rattle.swc_ecma_codegen_grammar.specs.Numbers.{is_big_integer, radix_of, big_digits}
use Rattle.swc_ecma_codegen_literals.specs.NumberTexts.{sign_text}
use Rattle.swc_ecma_codegen_literals.specs.Separators.{without_underscores}

-- `0x` of `0xffn`
unfoldable pub radix_prefix : Radix → List ℕ
radix_prefix Binary = codes "0b"
radix_prefix Octal = codes "0o"
radix_prefix Ten = []
radix_prefix Hex = codes "0x"

-- `0xff` of -255 in hexadecimal digits
abbrev pub big_part : BigInt → List ℕ
big_part n = radix_prefix n.radix ++ without_underscores (string_bytes n.digits)

-- the sign, and then that
unfoldable pub big_text : BigInt → List ℕ
big_text n = sign_text n.negative ++ big_part n

-- A text is one big integer token of this radix and of these digits.
pub record IsBigInteger (radix : Radix) (digits text : List ℕ) : Type 0 where
  pub shape : is_big_integer text ≡ true
  pub base : radix_of text ≡ radix_number radix
  pub value : big_digits text ≡ digits

-- A text is the punctuator `-` where the number is below zero, and then, with the suffix `n`, such a token.
pub record IsSignedInteger (n : BigInt) (text size : List ℕ) : Type 0 where
  pub parts : text ≡ sign_text n.negative ++ size
  pub ascii : IsAscii text
  pub characters : chars text ≡ sign_text n.negative ++ chars size
  pub front : begins_digit (chars size) ≡ true
  pub token : IsBigInteger n.radix (chars (string_bytes n.digits)) (chars size ++ codes "n")
