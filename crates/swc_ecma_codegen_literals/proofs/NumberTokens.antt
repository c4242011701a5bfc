-- The text of a decimal number is its sign, and then one numeric token of its size.
use Rattle.std.proofs.Common.{List, ap, not, refl, sym, true, ℕ, ◌++◌, ◌∙◌, ◌≡◌}
use Rattle.std.specs.Str.{chars}
use Rattle.std.proofs.lemmas.Bool.{and_from, not_from_false}
use Rattle.std.proofs.lemmas.Str.{IsAscii-append, chars-IsAscii}
use Rattle.swc_ecma_codegen_common.specs.declared.decimals.Decimal.{Decimal}
use Rattle.swc_ecma_codegen_grammar.specs.Numbers.{has_suffix, is_number, is_numeric}
use Rattle.swc_ecma_codegen_grammar.specs.NumberValues.{exact_value, numeric_value}
use Rattle.swc_ecma_codegen_grammar.proofs.NumberForms.{same_form}
use Rattle.swc_ecma_codegen_grammar.specs.DecimalValues.{decimal_digits, size_value, exact_size}
use Rattle.swc_ecma_codegen_literals.specs.NumberTexts.{IsSignedSize, IsSizeOf, minified_part, minified_text, plain_part, plain_text, sign_text}
use Rattle.swc_ecma_codegen_literals.proofs.BeginningLaws.{numeric_begins, numeric_unsigned}
use Rattle.swc_ecma_codegen_literals.proofs.DecimalTexts.{sign_ascii}
use Rattle.swc_ecma_codegen_literals.proofs.NumberLiterals.{Spells, fine_ascii, fine_suffix, minified_spells, plain_spells}

size_from_spells : (number : Decimal) (size : List ℕ) → Spells size (size_value (decimal_digits number) number.exponent) → IsSizeOf number size
unfolding is_number exact_size
size_from_spells number size s =
    let ascii = fine_ascii size s.fine in
    let same = chars-IsAscii size ascii in
    let shape : is_number size ≡ true = and_from (is_numeric size) (not (has_suffix size)) s.numeric (not_from_false (has_suffix size) (fine_suffix size s.fine)) in
    record {
      ascii = ascii;
      characters = same;
      front = numeric_begins size s.numeric;
      unsigned = numeric_unsigned size (numeric_begins size s.numeric);
      shape = ap is_number same ∙ shape;
      value = ap (λ t. exact_value (numeric_value t)) same ∙ same_form (numeric_value size) (size_value (decimal_digits number) number.exponent) s.same;
    }

signed : (number : Decimal) (text size : List ℕ) → text ≡ sign_text number.negative ++ size → IsSizeOf number size → IsSignedSize number text size
signed number text size e s =
    let whole = chars-IsAscii (sign_text number.negative ++ size) (IsAscii-append (sign_text number.negative) size (sign_ascii number.negative) s.ascii) in
    record {
      parts = e;
      characters = ap chars e ∙ (whole ∙ ap (λ t. sign_text number.negative ++ t) (sym s.characters));
      token = s;
    }

pub plain_signed : (number : Decimal) → IsSignedSize number (plain_text number) (plain_part number)
unfolding plain_text
plain_signed number = signed number (plain_text number) (plain_part number) refl (size_from_spells number (plain_part number) (plain_spells (decimal_digits number) number.exponent number.normal))

pub minified_signed : (number : Decimal) → IsSignedSize number (minified_text number) (minified_part number)
unfolding minified_text
minified_signed number = signed number (minified_text number) (minified_part number) refl (size_from_spells number (minified_part number) (minified_spells number.negative (decimal_digits number) number.exponent number.normal))
