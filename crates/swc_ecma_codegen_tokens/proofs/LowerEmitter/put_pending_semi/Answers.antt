use Rattle.std.proofs.Common.{sym, ◌∙◌}
use Rattle.swc_ecma_codegen_tokens.specs.Run.{with_source}
use Rattle.swc_ecma_codegen_tokens.proofs.Emission.Emitting.{does_failed}
use Rattle.swc_ecma_codegen_tokens.proofs.NameTokens.Alone.{silent_commit}
use Rattle.swc_ecma_codegen_tokens.proofs.LowerEmitter.put_pending_semi.Goals as goal

-- where none is held nothing comes of it, also where an earlier call was refused
pub returns-then-is_settled-clause-items : goal.returns-then-is_settled-clause-items
unfolding with_source
returns-then-is_settled-clause-items g c = λ lines maps rest after r f. silent_commit rest _ after r (sym c.is_settled.ensures ∙ c.if-is_settled.true) f

pub returns-then-self-clause-items : goal.returns-then-self-clause-items
returns-then-self-clause-items g c = λ lines maps rest. does_failed _ _ c.if-self.true lines maps
