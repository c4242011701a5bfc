use Rattle.std.proofs.Common.{ap, is_some, sym, ◌∙◌}
use Rattle.swc_ecma_codegen_grammar.specs.Turns.{after}
use Rattle.swc_ecma_codegen_grammar.proofs.TurnLaws.{is_some_before, text_parts}
use Rattle.swc_ecma_codegen_grammar.proofs.string_values.+has_string_rest.Goals as goal

pub returns-in-Gives : goal.returns-in-Gives
unfolding after
returns-in-Gives t c =
    let e = rw c.in-Gives.is at c.turn.ensures.0 in
    let f = rw (text_parts c.args.text.now c.c-item.result c.in-len1-up.len_at_least c.c-item.is) at e in
    c.has_string_rest-in-Gives.ensures ∙ sym (ap is_some f ∙ is_some_before _ _)
