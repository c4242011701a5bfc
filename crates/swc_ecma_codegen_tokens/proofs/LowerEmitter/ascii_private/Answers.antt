use Rattle.std.proofs.Common.{refl, ap, ◌∙◌}
use Rattle.swc_ecma_codegen_common.specs.Refusals.{reason_of}
use Rattle.swc_ecma_codegen_tokens.proofs.Emission.Emitting.{does_failed}
use Rattle.swc_ecma_codegen_tokens.proofs.NameTokens.PrivateSteps.{private_in_ascii, private_not_spelled}
use Rattle.swc_ecma_codegen_tokens.specs.Targets.{wants_escapes}
use Rattle.swc_ecma_codegen_tokens.specs.View.{state_of}
use Rattle.swc_ecma_codegen_tokens.proofs.LowerEmitter.ascii_private.Goals as goal

pub returns-then-self-clause-items : goal.returns-then-self-clause-items
returns-then-self-clause-items g c = λ lines maps rest. does_failed _ _ c.if-self.true lines maps

pub returns-in-Ok-clause-items : goal.returns-in-Ok-clause-items
unfolding wants_escapes
returns-in-Ok-clause-items g c = private_in_ascii _ _ _ (state_of c.args.cfg.now (g.W.WriteJs.sheet c.args.wr.now) c.args.self.now) _ _ c.requires c.in-Ok.ensures.out_of_target (c.deref.ensures ∙ c.in-Ok.ensures.exactly) c.private_symbol.ensures.items

pub returns-in-Err-clause-items : goal.returns-in-Err-clause-items
unfolding wants_escapes
returns-in-Err-clause-items g c =
    private_not_spelled _ _ _ (state_of c.args.cfg.now (g.W.WriteJs.sheet c.args.wr.now) c.args.self.now) _ c.if-self.false c.requires (λ o. c.refusal.ensures ∙ ap reason_of (c.in-Err.ensures.out_of_target o)) (λ o. c.refusal.ensures ∙ ap reason_of (c.in-Err.ensures.refused o)) refl
