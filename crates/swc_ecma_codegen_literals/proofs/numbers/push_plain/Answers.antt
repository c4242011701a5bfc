use Rattle.std.proofs.Common.{◌≡◌, sym, subst, true, List, ℕ}
use Rattle.std.specs.Str.{IsAscii}
use Rattle.swc_ecma_codegen_common.specs.DecimalParts.{is_decimal}
use Rattle.swc_ecma_codegen_grammar.specs.DecimalValues.{decimal_digits}
use Rattle.swc_ecma_codegen_literals.proofs.DecimalTexts.{decimal_ascii}
use Rattle.swc_ecma_codegen_literals.proofs.numbers.push_plain.Goals as goal

pub push_fraction-requires : goal.push_fraction-requires
push_fraction-requires c =
    let n : is_decimal (decimal_digits c.args.number.now) c.args.number.now.exponent ≡ true = c.args.number.now.normal in
    subst (λ (x : List ℕ). IsAscii x) (sym c.digits-digits.ensures) (decimal_ascii (decimal_digits c.args.number.now) c.args.number.now.exponent n)
