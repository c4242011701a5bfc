use Rattle.std.proofs.Common.{refl, ap, ◌∙◌}
use Rattle.swc_ecma_codegen_common.specs.Refusals.{reason_of}
use Rattle.swc_ecma_codegen_literals.specs.AsciiNames.{is_out_of_target}
use Rattle.swc_ecma_codegen_tokens.proofs.Emission.Emitting.{does_failed}
use Rattle.swc_ecma_codegen_tokens.proofs.NameTokens.KeySteps.{key_in_ascii, key_not_made}
use Rattle.swc_ecma_codegen_tokens.specs.Targets.{wants_escapes}
use Rattle.swc_ecma_codegen_tokens.specs.View.{state_of}
use Rattle.swc_ecma_codegen_tokens.proofs.LowerEmitter.escaped_key.Goals as goal

pub returns-then-self-clause-items : goal.returns-then-self-clause-items
returns-then-self-clause-items g c = λ lines maps rest. does_failed _ _ c.if-self.true lines maps

pub returns-in-Ok-clause-items : goal.returns-in-Ok-clause-items
unfolding wants_escapes
returns-in-Ok-clause-items g c = key_in_ascii _ _ _ _ (state_of c.args.cfg.now (g.W.WriteJs.sheet c.args.wr.now) c.args.self.now) _ _ c.if-self.false c.requires c.wants_quotes-quoted.ensures (c.deref.ensures ∙ c.in-Ok.ensures.exactly) c.ascii_key.ensures.items

pub returns-in-Err-clause-items : goal.returns-in-Err-clause-items
unfolding is_out_of_target wants_escapes
returns-in-Err-clause-items g c = key_not_made _ _ _ (state_of c.args.cfg.now (g.W.WriteJs.sheet c.args.wr.now) c.args.self.now) _ c.if-self.false c.requires (c.refusal.ensures ∙ ap reason_of (c.in-Err.ensures.refused refl)) refl
