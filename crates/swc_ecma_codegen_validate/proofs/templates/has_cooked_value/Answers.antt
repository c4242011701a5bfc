use Rattle.std.proofs.Common.{rules, sym, ◌∙◌}
use Rattle.swc_ecma_codegen_grammar.specs.Turns.{after, LeadsOn}
use Rattle.swc_ecma_codegen_validate.proofs.Insides.{cooks_on, some_before}
use Rattle.swc_ecma_codegen_validate.proofs.templates.has_cooked_value.Goals as goal

pub returns-in-Malformed : goal.returns-in-Malformed
unfolding after
returns-in-Malformed c = sym (cooks_on _ _ _ _ _ _ c.loop-c.invariant.goes c.in-Some.ensures.some c.in-Malformed.ensures.0)

pub returns-in-Ends : goal.returns-in-Ends
unfolding after
returns-in-Ends c = sym (cooks_on _ _ _ _ _ _ c.loop-c.invariant.goes c.in-Some.ensures.some c.in-Ends.ensures.0)

pub loop-c-preserved-in-Goes : goal.loop-c-preserved-in-Goes
unfolding after LeadsOn
loop-c-preserved-in-Goes c = record {
  goes = cooks_on _ _ _ _ _ _ c.loop-c.invariant.goes c.in-Some.ensures.some c.in-Goes.ensures.0;
  reached = c.in-Goes.ensures.1;
  text = search rules;
}

pub loop-c-preserved : goal.loop-c-preserved
unfolding after LeadsOn
loop-c-preserved c = record {
  goes = cooks_on _ _ _ _ _ _ c.loop-c.invariant.goes c.in-Some.ensures.some c.in-Gives.ensures.0 ∙ some_before _ _;
  reached = c.in-Gives.ensures.1.1;
  text = search rules;
}
