use Rattle.std.proofs.Common.{refl, sym, ap, ◌∙◌}
use Rattle.swc_ecma_codegen_common.specs.Refusals.{reason_of}
use Rattle.swc_ecma_codegen_tokens.specs.Templates.{cooked_part, cooked_text, makes_cooked, part_by, cooked_chars, is_respelled}
use Rattle.swc_ecma_codegen_tokens.proofs.LiteralTokens.RewrittenLiterals.{spelled_anew, not_anew}
use Rattle.swc_ecma_codegen_tokens.proofs.Emission.Emitting.{does_failed}
use Rattle.swc_ecma_codegen_tokens.specs.View.{state_of}
use Rattle.swc_ecma_codegen_tokens.proofs.LowerEmitter.cooked_part.Goals as goal

pub returns-then-self-clause-items : goal.returns-then-self-clause-items
returns-then-self-clause-items g c = λ lines maps rest. does_failed _ _ c.if-self.true lines maps

pub returns-in-Ok-clause-items : goal.returns-in-Ok-clause-items
unfolding cooked_part cooked_chars is_respelled
returns-in-Ok-clause-items g c = spelled_anew (cooked_part c.args.first c.args.part c.args.n.now) _ (part_by c.args.first c.args.part c.args.n.now.span) _ _ (state_of c.args.cfg.now (g.W.WriteJs.sheet c.args.wr.now) c.args.self.now) _ _ c.if-self.false (λ lines maps rest. refl) (c.deref-in-Ok.ensures.value ∙ c.in-Ok.ensures.exactly ∙ ap (cooked_text c.args.cfg.now) c.deref.ensures) c.part_by.ensures.items

pub returns-in-Err-clause-items : goal.returns-in-Err-clause-items
unfolding cooked_part makes_cooked is_respelled
returns-in-Err-clause-items g c = not_anew (cooked_part c.args.first c.args.part c.args.n.now) _ _ _ (state_of c.args.cfg.now (g.W.WriteJs.sheet c.args.wr.now) c.args.self.now) _ c.if-self.false (λ lines maps rest. refl) (c.refusal.ensures ∙ ap reason_of c.in-Err.ensures.refused) (sym (ap (makes_cooked c.args.cfg.now) c.deref.ensures) ∙ c.in-Err.ensures.due) refl
