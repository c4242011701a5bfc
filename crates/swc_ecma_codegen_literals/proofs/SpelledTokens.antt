-- Which tokens the spellings are.
use Rattle.std.proofs.Common.{List, Some, ap, false, ℕ, ◌∙◌, ◌≡◌}
use Rattle.std.specs.Str.{chars}
use Rattle.swc_ecma_codegen_common.specs.declared.decimals.Decimal.{Decimal}
use Rattle.swc_ecma_codegen_tree.specs.declared.lits.Radix.{Radix}
use Rattle.swc_ecma_codegen_grammar.specs.declared.kinds.Kind.TheVariants.{BigInt, Number}
use Rattle.swc_ecma_codegen_grammar.specs.NumberValues.{exact_value}
use Rattle.swc_ecma_codegen_grammar.specs.StringValues.{string_value}
use Rattle.swc_ecma_codegen_grammar.specs.Tokens.{Digits, Exactly, Spells, Units, Value, has_shape, value_of}
use Rattle.swc_ecma_codegen_grammar.specs.LitPhrases.{big_int_token, number_token, string_token}
use Rattle.swc_ecma_codegen_literals.specs.BigIntegers.{IsBigInteger}
use Rattle.swc_ecma_codegen_grammar.specs.DecimalValues.{exact_size}
use Rattle.swc_ecma_codegen_literals.specs.NumberTexts.{IsSizeOf}
use Rattle.swc_ecma_codegen_literals.specs.Separators.{without_underscores}
use Rattle.swc_ecma_codegen_literals.proofs.SeparatedTexts.{worth_as_much}
use Rattle.swc_ecma_codegen_literals.proofs.StringTokens.{strict_is_string, strict_same}

pub string_spells : (text units : List ℕ) → string_value false text ≡ Some units → Spells (string_token units) text
unfolding has_shape value_of string_token
string_spells text units h = record { shape = strict_is_string text units h; value = ap Units (strict_same text units h) }

pub size_spells : (number : Decimal) (size : List ℕ) → IsSizeOf number size → Spells (number_token (exact_size number)) (chars size)
unfolding has_shape value_of number_token
size_spells number size s = record { shape = s.shape; value = ap Exactly s.value }

pub integer_spells : (radix : Radix) (digits text : List ℕ) → IsBigInteger radix digits text → Spells (big_int_token radix digits) text
unfolding has_shape value_of big_int_token
integer_spells radix digits text s = record { shape = s.shape; value = λ i. Digits (s.base i) (s.value i) }

-- a number and a big integer stay the same token without `_`
pub number_spells_without : (value : Value) (text : List ℕ) → Spells (record { kind = Number; value = value }) text → Spells (record { kind = Number; value = value }) (without_underscores text)
unfolding has_shape value_of
number_spells_without value text s =
    let w = worth_as_much text in
    record { shape = w.number s.shape; value = ap (λ v. Exactly (exact_value v)) (w.value s.shape) ∙ s.value }

pub integer_spells_without : (value : Value) (text : List ℕ) → Spells (record { kind = BigInt; value = value }) text → Spells (record { kind = BigInt; value = value }) (without_underscores text)
unfolding has_shape value_of
integer_spells_without value text s =
    let w = worth_as_much text in
    record { shape = w.big_integer s.shape; value = (λ i. Digits (w.radix s.shape i) (w.digits s.shape i)) ∙ s.value }
