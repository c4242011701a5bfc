-- Numbers without the `_` between their digits. ECMA-262, section 12.9.3, "NumericLiteralSeparator".
use Rattle.std.specs.Prelude.{◌≡◌, ◌==◌, ℕ, true, not, List, filter}
use Rattle.swc_ecma_codegen_grammar.specs.Numbers.{is_number, is_big_integer, radix_of, big_digits}
use Rattle.swc_ecma_codegen_grammar.specs.NumberValues.{numeric_value}

-- `1000` of `1_000`
abbrev pub without_underscores : List ℕ → List ℕ
without_underscores text = filter (λ c. not (c == 95)) text

-- Where a text is a number, or a big integer, so is another, and it stands for the same.
pub record IsWorthAsMuch (text other : List ℕ) : Type 0 where
  pub number : is_number text ≡ true → is_number other ≡ true
  pub value : is_number text ≡ true → numeric_value other ≡ numeric_value text
  pub big_integer : is_big_integer text ≡ true → is_big_integer other ≡ true
  pub radix : is_big_integer text ≡ true → radix_of other ≡ radix_of text
  pub digits : is_big_integer text ≡ true → big_digits other ≡ big_digits text
