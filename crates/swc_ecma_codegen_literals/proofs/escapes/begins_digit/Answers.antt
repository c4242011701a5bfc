use Rattle.std.proofs.Common.{◌<◌, sym, ◌∙◌, ap, not, length, arith, true, false, refl}
use Rattle.std.proofs.lemmas.Bool.{eqb-true, eqb-false}
use Rattle.swc_ecma_codegen_grammar.specs.Chars.{is_digit}
use Rattle.swc_ecma_codegen_literals.proofs.Fronts.{digit_place, no_digit}
use Rattle.swc_ecma_codegen_literals.proofs.escapes.begins_digit.Goals as goal

pub returns-then-not-is_empty : goal.returns-then-not-is_empty
unfolding is_digit
returns-then-not-is_empty c =
    let some = eqb-false (length c.as_bytes-bytes.result.now) 0 (sym c.is_empty.ensures ∙ c.if-not-is_empty.true) in
    let l : 0 < length c.as_bytes-bytes.result.now = omega (arith, some) in
    c.is_ascii_digit.ensures.value ∙ digit_place c.as_bytes-bytes.result.now c.args.text.now _ c.as_bytes-bytes.ensures.value c.utf8.text l refl

pub returns-else-not-is_empty : goal.returns-else-not-is_empty
returns-else-not-is_empty c =
    let none = eqb-true (length c.as_bytes-bytes.result.now) 0 (sym c.is_empty.ensures ∙ c.if-not-is_empty.false) in
    ap not c.if-not-is_empty.false ∙ sym (no_digit c.as_bytes-bytes.result.now c.args.text.now c.as_bytes-bytes.ensures.value none)
