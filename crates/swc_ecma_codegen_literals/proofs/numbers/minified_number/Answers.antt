use Rattle.std.proofs.Common.{◌≡◌, sym, subst, true, List, ℕ, ◌∙◌, ◌++◌}
use Rattle.std.specs.Str.{IsAscii}
use Rattle.std.specs.String.{string_bytes}
use Rattle.swc_ecma_codegen_common.specs.DecimalParts.{is_decimal}
use Rattle.swc_ecma_codegen_grammar.specs.DecimalValues.{decimal_digits}
use Rattle.swc_ecma_codegen_literals.specs.NumberTexts.{plain_size, shorter_size, hexadecimal_size, minified_size, sign_text, plain_text, minified_text, SpellsDecimal}
use Rattle.swc_ecma_codegen_literals.proofs.DecimalTexts.{minified_text_spells, minified_text_ascii, shorter_signed}
use Rattle.swc_ecma_codegen_literals.proofs.numbers.minified_number.Goals as goal

pub returns-clause-exactly : goal.returns-clause-exactly
unfolding minified_text minified_size plain_text
returns-clause-exactly c =
    let n = c.args.number.now in
    let first : string_bytes c.shorter.result ≡ sign_text n.negative ++ shorter_size (hexadecimal_size (decimal_digits n) n.exponent) (plain_size (decimal_digits n) n.exponent) =
    c.shorter.ensures ∙ (rw (c.in_ok-hexadecimal.ensures, c.in_ok-plain.ensures.exactly) (shorter_signed _ _ _)) in
    c.shorter-2.ensures ∙ (rw (c.in_ok-short.ensures, first) (shorter_signed _ _ _))

pub returns-clause-value : goal.returns-clause-value
returns-clause-value c =
    let n : is_decimal (decimal_digits c.args.number.now) c.args.number.now.exponent ≡ true = c.args.number.now.normal in
    subst (λ (x : List ℕ). SpellsDecimal c.args.number.now x) (sym (returns-clause-exactly c)) (minified_text_spells c.args.number.now n)

pub returns-clause-ascii : goal.returns-clause-ascii
returns-clause-ascii c =
    let n : is_decimal (decimal_digits c.args.number.now) c.args.number.now.exponent ≡ true = c.args.number.now.normal in
    subst (λ (x : List ℕ). IsAscii x) (sym (returns-clause-exactly c)) (minified_text_ascii c.args.number.now n)
