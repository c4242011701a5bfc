use Rattle.std.proofs.Common.{◌≡◌, false, sym, ◌∙◌}
use Rattle.std.proofs.lemmas.Bool.{false_from_ne_true, false≢true, not-true, not-false}
use Rattle.swc_ecma_codegen_tokens.proofs.LowerEmitter.may_go_on.Goals as goal

pub returns-clause-unfailed : goal.returns-clause-unfailed
returns-clause-unfailed c = λ yes. false_from_ne_true c.args.self.now.failed (λ bad. false≢true (sym (not-true c.blank_due_after.result yes) ∙ c.blank_due_after.ensures.refused (c.args.self.now.refused bad)))

pub returns-clause-passes : goal.returns-clause-passes
returns-clause-passes c = λ text yes start.
    let free : c.blank_due_after.result ≡ false = not-true c.blank_due_after.result yes in
    let unfailed : c.args.self.now.failed ≡ false = false_from_ne_true c.args.self.now.failed (λ bad. false≢true (sym free ∙ c.blank_due_after.ensures.refused (c.args.self.now.refused bad))) in
    sym (c.blank_due_after.ensures.class c.args.self.now.last c.args.self.now.token.value text (c.args.self.now.of_class unfailed) (c.args.self.now.class unfailed) start) ∙ free

pub returns-clause-due : goal.returns-clause-due
returns-clause-due c = λ text no unfailed start.
    sym (c.blank_due_after.ensures.class c.args.self.now.last c.args.self.now.token.value text (c.args.self.now.of_class unfailed) (c.args.self.now.class unfailed) start) ∙ not-false c.blank_due_after.result no
