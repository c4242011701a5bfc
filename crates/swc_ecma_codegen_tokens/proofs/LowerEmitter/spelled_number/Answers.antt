use Rattle.swc_ecma_codegen_tokens.proofs.LiteralTokens.RewrittenLiterals.{taking_anew, taking_not_anew}
use Rattle.swc_ecma_codegen_tokens.proofs.Commenting.CommentSteps.{taking_failed}
use Rattle.std.proofs.Common.{refl, ap, ◌∙◌}
use Rattle.swc_ecma_codegen_common.specs.Refusals.{reason_of}
use Rattle.swc_ecma_codegen_tokens.specs.Lits.{spelled_number, number_by, number_text, prints_number_raw, makes_number}
use Rattle.swc_ecma_codegen_tokens.specs.View.{state_of}
use Rattle.swc_ecma_codegen_tokens.proofs.LowerEmitter.spelled_number.Goals as goal

pub returns-then-self-clause-items : goal.returns-then-self-clause-items
returns-then-self-clause-items g c = taking_failed _ _ _ c.if-self.true

pub returns-in-Ok-clause-items : goal.returns-in-Ok-clause-items
unfolding spelled_number number_text prints_number_raw
returns-in-Ok-clause-items g c = taking_anew (spelled_number c.args.in_lit c.args.n.now) _ (number_by c.args.in_lit c.args.n.now.span) _ _ _ _ (state_of c.args.cfg.now (g.W.WriteJs.sheet c.args.wr.now) c.args.self.now) _ _ c.if-self.false (λ lines maps rest. refl) (c.deref.ensures.value ∙ c.in-Ok.ensures.exactly) c.number_by.ensures.items

pub returns-in-Err-clause-items : goal.returns-in-Err-clause-items
unfolding spelled_number makes_number prints_number_raw
returns-in-Err-clause-items g c = taking_not_anew (spelled_number c.args.in_lit c.args.n.now) _ _ _ _ (state_of c.args.cfg.now (g.W.WriteJs.sheet c.args.wr.now) c.args.self.now) _ c.if-self.false (λ lines maps rest. refl) (c.refusal.ensures ∙ ap reason_of c.in-Err.ensures.refused) (c.in-Err.ensures.due) refl
