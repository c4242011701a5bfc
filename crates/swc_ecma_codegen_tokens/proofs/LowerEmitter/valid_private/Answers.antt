use Rattle.std.proofs.Common.{sym, ◌∙◌}
use Rattle.swc_ecma_codegen_literals.proofs.Nulls.{turned_no_backslash}
use Rattle.swc_ecma_codegen_tokens.proofs.Emission.Emitting.{does_failed}
use Rattle.swc_ecma_codegen_tokens.proofs.NameTokens.PrivateSteps.{private_remade}
use Rattle.swc_ecma_codegen_tokens.proofs.LowerEmitter.valid_private.Goals as goal

pub returns-then-self-clause-items : goal.returns-then-self-clause-items
returns-then-self-clause-items g c = λ lines maps rest. does_failed _ _ c.if-self.true lines maps

pub returns-then-not-holds_backslash-clause-items : goal.returns-then-not-holds_backslash-clause-items
returns-then-not-holds_backslash-clause-items g c = private_remade _ _ _ _ _ _ c.if-self.false (sym (turned_no_backslash c.args.name.now (sym c.holds_backslash.ensures ∙ c.if-not-holds_backslash.true))) c.spelled_private.ensures.items
