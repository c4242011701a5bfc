use Rattle.std.proofs.Common.{refl}
use Rattle.swc_ecma_codegen_text_writer.specs.Sheet.{Deeper}
use Rattle.swc_ecma_codegen_tokens.specs.Run.{after_plain}
use Rattle.swc_ecma_codegen_tokens.specs.Lists.{deeper}
use Rattle.swc_ecma_codegen_tokens.proofs.Emission.Calls.{called_kept, deeper_level}
use Rattle.swc_ecma_codegen_tokens.proofs.Emission.Emitting.{does_failed}
use Rattle.swc_ecma_codegen_tokens.proofs.LowerEmitter.deeper.Goals as goal

pub returns-then-self-clause-items : goal.returns-then-self-clause-items
returns-then-self-clause-items g c = λ lines maps rest. does_failed _ _ c.if-self.true lines maps

pub returns-clause-items : goal.returns-clause-items
unfolding after_plain deeper
returns-clause-items g c = called_kept Deeper _ c.args.self.now c.keep.new.self _ _ _ _ c.if-self.false c.increase_indent-answer.ensures c.keep.ensures.token c.keep.ensures.ok c.keep.ensures.err c.keep.ensures.same refl

pub returns-clause-level : goal.returns-clause-level
returns-clause-level g c = deeper_level _ _ _ _ c.increase_indent-answer.ensures c.keep.ensures.same
