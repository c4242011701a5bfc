use Rattle.std.proofs.Common.{◌≡◌, ◌==◌, true, false, [], ◌∷◌, length, ap, sym, ◌∙◌}
use Rattle.std.specs.Str.{chars}
use Rattle.swc_ecma_codegen_grammar.specs.DecimalValues.{decimal_digits, exact_size}
use Rattle.swc_ecma_codegen_grammar.specs.Texts.{begins}
use Rattle.swc_ecma_codegen_validate.proofs.NormalDecimals.{lean_none, lean_some, normal_characters, same_sums, zero_size, zeros_found}
use Rattle.swc_ecma_codegen_validate.proofs.numbers.decimal_has_size.Goals as goal

pub returns-in-Some : goal.returns-in-Some
unfolding exact_size
returns-in-Some c =
    let number = c.args.number.now in
    let digits : chars c.digits-digits.result.now ≡ decimal_digits number = ap chars c.digits-digits.ensures ∙ normal_characters _ _ number.normal in
    let first : begins (48 ∷ []) (decimal_digits number) ≡ true = ap (begins (48 ∷ [])) (sym digits) ∙ c.in-Some.ensures.some.0 in
    ap (λ n. n == 0) (c.count_digits.ensures ∙ ap length c.without_zeros-significant.ensures) ∙ sym (zero_size _ _ _ number.normal first)

pub returns-in-Some-zeros_after : goal.returns-in-Some-zeros_after
unfolding exact_size
returns-in-Some-zeros_after c =
    let number = c.args.number.now in
    let digits : chars c.digits-digits.result.now ≡ decimal_digits number = ap chars c.digits-digits.ensures ∙ normal_characters _ _ number.normal in
    let first : begins (48 ∷ []) (decimal_digits number) ≡ false = ap (begins (48 ∷ [])) (sym digits) ∙ c.in-None.ensures.none in
    let some = zeros_found _ _ _ _ _ c.in-Some-zeros_after.ensures digits c.without_zeros-significant.ensures in
    let places = c.count_digits-in-Some-zeros_after.ensures ∙ ap length c.after_dot.ensures in
    c.is_balanced.ensures ∙ (same_sums _ _ _ _ _ _ _ _ _ c.tenths.ensures places c.tens.ensures c.after_mark.ensures ∙ sym (lean_some _ _ _ _ number.normal first some))

pub returns-in-None-zeros_after : goal.returns-in-None-zeros_after
unfolding exact_size
returns-in-None-zeros_after c =
    let number = c.args.number.now in
    let digits : chars c.digits-digits.result.now ≡ decimal_digits number = ap chars c.digits-digits.ensures ∙ normal_characters _ _ number.normal in
    let first : begins (48 ∷ []) (decimal_digits number) ≡ false = ap (begins (48 ∷ [])) (sym digits) ∙ c.in-None.ensures.none in
    let none = zeros_found _ _ _ _ _ c.in-None-zeros_after.ensures digits c.without_zeros-significant.ensures in
    sym (lean_none _ _ _ number.normal first none)
