use Rattle.swc_ecma_codegen_tokens.proofs.Emission.Emitting.{does_failed}
use Rattle.swc_ecma_codegen_tokens.proofs.LowerEmitter.puts_space.Goals as goal

pub returns-then-self-clause-items : goal.returns-then-self-clause-items
returns-then-self-clause-items g c = λ lines maps rest. does_failed _ _ c.if-self.true lines maps
