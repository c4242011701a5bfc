-- What decimal numbers of the tree stand for, as values of the grammar.
use Rattle.std.specs.Prelude.{ℕ, suc, ℤ, pos, negsuc, List}
use Rattle.std.specs.String.{string_bytes}
use Rattle.std.specs.Str.Parse.{digits_value}
use Rattle.swc_ecma_codegen_common.specs.declared.decimals.Decimal.{Decimal}
use Rattle.swc_ecma_codegen_grammar.specs.NumberValues.{MathValue, times_ten, over_ten, DecimalFraction, exact_value}

abbrev pub decimal_digits : Decimal → List ℕ
decimal_digits number = string_bytes number.digits

-- what the digits of a decimal number, times ten to its exponent, are
unfoldable pub size_value : List ℕ → ℤ → MathValue
size_value ds (pos n) = times_ten (digits_value 10 ds) n
size_value ds (negsuc n) = over_ten (digits_value 10 ds) (suc n)

-- The number without its sign, in its one form: 25 with one place after the dot, of `25` with the exponent -1.
unfoldable pub exact_size : Decimal → DecimalFraction
exact_size number = exact_value (size_value (decimal_digits number) number.exponent)
