use Rattle.std.proofs.Common.{◌≡◌, false, sym, ◌∙◌}
use Rattle.std.proofs.lemmas.Bool.{false_from_ne_true, false≢true}
use Rattle.swc_ecma_codegen_tokens.proofs.LowerEmitter.may_go_on_anyhow.Goals as goal

pub returns-clause-unfailed : goal.returns-clause-unfailed
returns-clause-unfailed c = λ yes. false_from_ne_true c.args.self.now.failed (λ bad. false≢true (sym (c.never_due_after.ensures.refused (c.args.self.now.refused bad)) ∙ yes))

pub returns-clause-passes : goal.returns-clause-passes
returns-clause-passes c = λ text yes.
    let unfailed : c.args.self.now.failed ≡ false = false_from_ne_true c.args.self.now.failed (λ bad. false≢true (sym (c.never_due_after.ensures.refused (c.args.self.now.refused bad)) ∙ yes)) in
    c.never_due_after.ensures.class c.args.self.now.last c.args.self.now.token.value text yes (c.args.self.now.of_class unfailed) (c.args.self.now.class unfailed)
