use Rattle.swc_ecma_codegen_tokens.proofs.LiteralTokens.RewrittenLiterals.{taking_anew, taking_not_anew}
use Rattle.swc_ecma_codegen_tokens.proofs.Commenting.CommentSteps.{taking_failed}
use Rattle.std.proofs.Common.{refl, ap, ◌∙◌}
use Rattle.swc_ecma_codegen_common.specs.Refusals.{reason_of}
use Rattle.swc_ecma_codegen_tokens.specs.Attributes.{spelled_string, attribute_by}
use Rattle.swc_ecma_codegen_tokens.proofs.LowerEmitter.attribute_spelled.Goals as goal

pub returns-then-self-clause-items : goal.returns-then-self-clause-items
returns-then-self-clause-items g c = taking_failed _ _ _ c.if-self.true

pub returns-in-Ok-clause-items : goal.returns-in-Ok-clause-items
unfolding spelled_string
returns-in-Ok-clause-items g c = taking_anew (spelled_string c.args.n.now) _ (attribute_by c.args.n.now.span) _ _ _ _ _ _ _ c.if-self.false (λ lines maps rest. refl) (c.deref.ensures.value ∙ c.in-Ok.ensures.exactly) c.attribute_by.ensures.items

pub returns-in-Err-clause-items : goal.returns-in-Err-clause-items
unfolding spelled_string
returns-in-Err-clause-items g c = taking_not_anew (spelled_string c.args.n.now) _ _ _ _ _ _ c.if-self.false (λ lines maps rest. refl) (c.refusal.ensures ∙ ap reason_of c.in-Err.ensures.refused) c.in-Err.ensures.due refl
