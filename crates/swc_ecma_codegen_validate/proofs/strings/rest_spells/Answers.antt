use Rattle.std.proofs.Common.{rules, sym, ◌∙◌}
use Rattle.swc_ecma_codegen_grammar.specs.LitPhrases.{are_units}
use Rattle.swc_ecma_codegen_grammar.specs.Turns.{after, LeadsOn}
use Rattle.swc_ecma_codegen_validate.proofs.SpelledUnits.{turned, units_given, units_differ, units_end}
use Rattle.swc_ecma_codegen_validate.proofs.strings.rest_spells.Goals as goal

pub returns-in-Malformed : goal.returns-in-Malformed
unfolding after are_units
returns-in-Malformed c = sym (turned _ _ _ _ _ _ _ _ c.loop-c.invariant.goes c.in-Some.ensures.some c.in-Malformed.ensures.0)

pub returns-in-Ends : goal.returns-in-Ends
unfolding after
returns-in-Ends c = c.is_at_end.ensures ∙ sym (turned _ _ _ _ _ _ _ _ c.loop-c.invariant.goes c.in-Some.ensures.some c.in-Ends.ensures.0 ∙ units_end _)

pub returns-in-None : goal.returns-in-None
unfolding after
returns-in-None c = sym (turned _ _ _ _ _ _ _ _ c.loop-c.invariant.goes c.in-Some.ensures.some c.in-Gives.ensures.0 ∙ units_differ _ _ _ c.in-None.ensures.none)

pub loop-c-preserved-in-Goes : goal.loop-c-preserved-in-Goes
unfolding after LeadsOn
loop-c-preserved-in-Goes c = record {
  goes = turned _ _ _ _ _ _ _ _ c.loop-c.invariant.goes c.in-Some.ensures.some c.in-Goes.ensures.0;
  reached = c.in-Goes.ensures.1;
  text = search rules;
  units = search rules;
}

pub loop-c-preserved : goal.loop-c-preserved
unfolding after LeadsOn
loop-c-preserved c = record {
  goes = turned _ _ _ _ _ _ _ _ c.loop-c.invariant.goes c.in-Some.ensures.some c.in-Gives.ensures.0 ∙ units_given _ _ _ _ c.in-Some-after_character.ensures.some;
  reached = c.in-Gives.ensures.1.1;
  text = search rules;
  units = search rules;
}
