use Rattle.std.proofs.Common.{refl}
use Rattle.swc_ecma_codegen_text_writer.specs.Sheet.{Line}
use Rattle.swc_ecma_codegen_tokens.specs.PreviousToken.{last_at}
use Rattle.swc_ecma_codegen_tokens.specs.Run.{after_plain}
use Rattle.swc_ecma_codegen_tokens.specs.Words.{line_end}
use Rattle.swc_ecma_codegen_tokens.proofs.Emission.Calls.{called_plain, level, is_level, noted_ok, noted_err}
use Rattle.swc_ecma_codegen_tokens.proofs.Emission.Emitting.{does_failed}
use Rattle.swc_ecma_codegen_tokens.proofs.LowerEmitter.writes_line.Goals as goal

pub returns-then-self-clause-items : goal.returns-then-self-clause-items
returns-then-self-clause-items g c = λ lines maps rest. does_failed _ _ c.if-self.true lines maps

pub returns-clause-items : goal.returns-clause-items
unfolding last_at after_plain line_end
returns-clause-items g c = called_plain (Line) _ c.args.self.now c.settles_noted.new.self _ _ _ _ _ c.if-self.false c.write_line-answer.ensures (noted_ok _ c.settles_noted.new.self c.note-before.new.self c.args.self.now _ c.note-before.ensures.token c.note-before.ensures.failed c.settles_noted.ensures.ok) (noted_err _ c.settles_noted.new.self c.args.self.now _ c.note-before.ensures.before c.settles_noted.ensures.err) c.settles_noted.ensures.same refl

pub returns-clause-level : goal.returns-clause-level
unfolding is_level
returns-clause-level g c = level _ _ _ _ _ c.write_line-answer.ensures c.settles_noted.ensures.same refl
