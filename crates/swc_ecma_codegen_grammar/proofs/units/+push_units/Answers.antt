use Rattle.swc_ecma_codegen_grammar.proofs.TurnLaws.{text_parts}
use Rattle.swc_ecma_codegen_grammar.proofs.UnitLaws.{units_step}
use Rattle.swc_ecma_codegen_grammar.proofs.units.+push_units.Goals as goal

pub returns-in_ok-push_utf16-in-Some : goal.returns-in_ok-push_utf16-in-Some
returns-in_ok-push_utf16-in-Some t c =
    let parts = rw c.if-c-eq92.true at (text_parts c.args.text.now c.c-item.result c.in-len1-up.len_at_least c.c-item.is) in
    rw (units_step _ _ _ _ _ _ parts c.in-Some.ensures.some c.in_ok-push_utf16-in-Some.ensures) c.push_units.ensures
