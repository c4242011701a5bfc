use Rattle.std.proofs.Common.{refl, ap, ◌∙◌}
use Rattle.swc_ecma_codegen_common.specs.Refusals.{reason_of}
use Rattle.swc_ecma_codegen_tokens.proofs.Emission.Emitting.{does_failed}
use Rattle.swc_ecma_codegen_tokens.proofs.NameTokens.Spelled.{remade, not_remade}
use Rattle.swc_ecma_codegen_tokens.proofs.LowerEmitter.mended_symbol.Goals as goal

pub returns-then-self-clause-items : goal.returns-then-self-clause-items
returns-then-self-clause-items g c = λ lines maps rest. does_failed _ _ c.if-self.true lines maps

pub returns-in-Ok-clause-items : goal.returns-in-Ok-clause-items
returns-in-Ok-clause-items g c = remade _ _ _ _ _ _ (c.deref.ensures.value ∙ c.in-Ok.ensures.value) c.spelled_symbol.ensures.items

pub returns-in-Err-clause-items : goal.returns-in-Err-clause-items
returns-in-Err-clause-items g c = not_remade _ _ _ _ _ c.if-self.false (c.refusal.ensures ∙ ap reason_of c.in-Err.ensures.refused) c.in-Err.ensures.no_backslash refl
