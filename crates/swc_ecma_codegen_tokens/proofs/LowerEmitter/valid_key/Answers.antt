use Rattle.swc_ecma_codegen_tokens.proofs.NameTokens.KeySteps.{taking_remade, taking_not_remade}
use Rattle.swc_ecma_codegen_tokens.proofs.Commenting.CommentSteps.{taking_failed}
use Rattle.std.proofs.Common.{refl, sym, ap, ◌∙◌}
use Rattle.swc_ecma_codegen_common.specs.Refusals.{reason_of}
use Rattle.swc_ecma_codegen_literals.proofs.Nulls.{turned_no_backslash}
use Rattle.swc_ecma_codegen_tokens.proofs.LowerEmitter.valid_key.Goals as goal

pub returns-then-self-clause-items : goal.returns-then-self-clause-items
returns-then-self-clause-items g c = taking_failed _ _ _ c.if-self.true

pub returns-then-not-holds_backslash-clause-items : goal.returns-then-not-holds_backslash-clause-items
returns-then-not-holds_backslash-clause-items g c = taking_remade _ _ _ _ _ _ _ _ c.if-self.false (sym (turned_no_backslash c.args.name.now (sym c.holds_backslash.ensures ∙ c.if-not-holds_backslash.true))) c.spelled_key.ensures.items

pub returns-in-Ok-clause-items : goal.returns-in-Ok-clause-items
returns-in-Ok-clause-items g c = taking_remade _ _ _ _ _ _ _ _ c.if-self.false (c.deref.ensures.value ∙ c.in-Ok.ensures.value) c.spelled_key-in-Ok.ensures.items

pub returns-in-Err-clause-items : goal.returns-in-Err-clause-items
returns-in-Err-clause-items g c = taking_not_remade _ _ _ _ _ _ c.if-self.false (c.refusal.ensures ∙ ap reason_of c.in-Err.ensures.refused) c.in-Err.ensures.no_backslash refl
