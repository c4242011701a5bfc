use Rattle.std.proofs.Common.{◌≡◌, sym, true, List, ℕ, ◌∙◌, ap, ◌++◌, int_le, pos, rules, Some, None, nat_le, ◌^◌}
use Rattle.std.proofs.lemmas.Bool.{le-leb, lt-leb, cond-true, cond-false}
use Rattle.swc_ecma_codegen_common.specs.DecimalParts.{is_decimal}
use Rattle.swc_ecma_codegen_grammar.specs.DecimalValues.{decimal_digits}
use Rattle.swc_ecma_codegen_literals.specs.NumberTexts.{plain_size, whole_size}
use Rattle.swc_ecma_codegen_literals.proofs.DecimalTexts.{parsed_whole, small}
use Rattle.swc_ecma_codegen_literals.proofs.numbers.whole_size.Goals as goal

pub returns-then-size : goal.returns-then-size
returns-then-size c =
    let n : is_decimal (decimal_digits c.args.number.now) c.args.number.now.exponent ≡ true = c.args.number.now.normal in
    let l : int_le (pos 0) c.args.number.now.exponent ≡ true = search rules in
    let bs : c.deref.result.now ≡ plain_size (decimal_digits c.args.number.now) c.args.number.now.exponent =
    c.deref.ensures ∙ (c.in_ok-push_plain.ensures ∙ ap (λ (x : List ℕ). x ++ plain_size (decimal_digits c.args.number.now) c.args.number.now.exponent) c.new-digits.ensures.bytes) in
    let r : whole_size (decimal_digits c.args.number.now) c.args.number.now.exponent ≡ small c.in-Ok.size = (rw c.in-Ok.is at (parsed_whole _ _ _ _ n l bs c.parse.ensures.value.0)) in
    sym (r ∙ cond-true (nat_le c.in-Ok.size (2 ^ 63)) (Some c.in-Ok.size) None (le-leb c.in-Ok.size (2 ^ 63) c.if-size.true))

pub returns-in-Ok : goal.returns-in-Ok
returns-in-Ok c =
    let n : is_decimal (decimal_digits c.args.number.now) c.args.number.now.exponent ≡ true = c.args.number.now.normal in
    let l : int_le (pos 0) c.args.number.now.exponent ≡ true = search rules in
    let bs : c.deref.result.now ≡ plain_size (decimal_digits c.args.number.now) c.args.number.now.exponent =
    c.deref.ensures ∙ (c.in_ok-push_plain.ensures ∙ ap (λ (x : List ℕ). x ++ plain_size (decimal_digits c.args.number.now) c.args.number.now.exponent) c.new-digits.ensures.bytes) in
    let r : whole_size (decimal_digits c.args.number.now) c.args.number.now.exponent ≡ small c.in-Ok.size = (rw c.in-Ok.is at (parsed_whole _ _ _ _ n l bs c.parse.ensures.value.0)) in
    sym (r ∙ cond-false (nat_le c.in-Ok.size (2 ^ 63)) (Some c.in-Ok.size) None (lt-leb c.in-Ok.size (2 ^ 63) c.if-size.false))

pub returns : goal.returns
returns c =
    let n : is_decimal (decimal_digits c.args.number.now) c.args.number.now.exponent ≡ true = c.args.number.now.normal in
    let l : int_le (pos 0) c.args.number.now.exponent ≡ true = search rules in
    let bs : c.deref.result.now ≡ plain_size (decimal_digits c.args.number.now) c.args.number.now.exponent =
    c.deref.ensures ∙ (c.in_ok-push_plain.ensures ∙ ap (λ (x : List ℕ). x ++ plain_size (decimal_digits c.args.number.now) c.args.number.now.exponent) c.new-digits.ensures.bytes) in
    sym (rw c.in-Err.is at (parsed_whole _ _ _ _ n l bs c.parse.ensures.value.0))
