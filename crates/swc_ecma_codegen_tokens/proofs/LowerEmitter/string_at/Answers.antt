use Rattle.swc_ecma_codegen_tokens.proofs.LiteralTokens.RewrittenLiterals.{taking_anew, taking_not_anew}
use Rattle.swc_ecma_codegen_tokens.proofs.Commenting.CommentSteps.{taking_failed}
use Rattle.std.proofs.Common.{refl, ap, ◌∙◌, not}
use Rattle.swc_ecma_codegen_common.specs.Refusals.{reason_of}
use Rattle.swc_ecma_codegen_tokens.specs.Lits.{string_at, string_by, string_text, prints_raw, takes_raw, value_text}
use Rattle.swc_ecma_codegen_tokens.specs.View.{state_of}
use Rattle.swc_ecma_codegen_tokens.proofs.LowerEmitter.string_at.Goals as goal

pub returns-then-self-clause-items : goal.returns-then-self-clause-items
returns-then-self-clause-items g c = taking_failed _ _ _ c.if-self.true

pub returns-in-Ok-clause-items : goal.returns-in-Ok-clause-items
unfolding string_at string_text prints_raw takes_raw value_text
returns-in-Ok-clause-items g c = taking_anew (string_at c.args.in_lit c.args.n.now) _ (string_by c.args.in_lit c.args.n.now) _ _ _ _ (state_of c.args.cfg.now (g.W.WriteJs.sheet c.args.wr.now) c.args.self.now) _ _ c.if-self.false (λ lines maps rest. refl) (c.deref.ensures.value ∙ c.in-Ok.ensures.exactly) c.string_by.ensures.items

pub returns-in-Err-clause-items : goal.returns-in-Err-clause-items
unfolding string_at prints_raw takes_raw
returns-in-Err-clause-items g c = taking_not_anew (string_at c.args.in_lit c.args.n.now) _ _ _ _ (state_of c.args.cfg.now (g.W.WriteJs.sheet c.args.wr.now) c.args.self.now) _ c.if-self.false (λ lines maps rest. refl) (c.refusal.ensures ∙ ap reason_of c.in-Err.ensures.refused) (ap not c.in-Err.ensures.due) refl
