use Rattle.std.proofs.Common.{◌≡◌, sym, subst, true, List, ℕ, ◌∙◌, ap, ◌++◌}
use Rattle.std.specs.Str.{IsAscii}
use Rattle.swc_ecma_codegen_common.specs.DecimalParts.{is_decimal}
use Rattle.swc_ecma_codegen_grammar.specs.DecimalValues.{decimal_digits}
use Rattle.swc_ecma_codegen_literals.specs.NumberTexts.{plain_size, plain_text, SpellsDecimal}
use Rattle.swc_ecma_codegen_literals.proofs.DecimalTexts.{plain_text_spells, plain_text_ascii}
use Rattle.swc_ecma_codegen_literals.proofs.numbers.plain_number.Goals as goal

pub returns-clause-exactly : goal.returns-clause-exactly
unfolding plain_text
returns-clause-exactly c = c.in_ok-push_plain.ensures ∙ ap (λ (x : List ℕ). x ++ plain_size (decimal_digits c.args.number.now) c.args.number.now.exponent) (c.in_ok-push_str.ensures.bytes ∙ (ap (λ (x : List ℕ). x ++ c.sign.result.now) c.new-text.ensures.bytes ∙ c.sign.ensures))

pub returns-clause-value : goal.returns-clause-value
returns-clause-value c =
    let n : is_decimal (decimal_digits c.args.number.now) c.args.number.now.exponent ≡ true = c.args.number.now.normal in
    subst (λ (x : List ℕ). SpellsDecimal c.args.number.now x) (sym (returns-clause-exactly c)) (plain_text_spells c.args.number.now n)

pub returns-clause-ascii : goal.returns-clause-ascii
returns-clause-ascii c =
    let n : is_decimal (decimal_digits c.args.number.now) c.args.number.now.exponent ≡ true = c.args.number.now.normal in
    subst (λ (x : List ℕ). IsAscii x) (sym (returns-clause-exactly c)) (plain_text_ascii c.args.number.now n)
