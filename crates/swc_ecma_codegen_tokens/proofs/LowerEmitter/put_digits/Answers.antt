use Rattle.std.proofs.Common.{refl}
use Rattle.swc_ecma_codegen_text_writer.specs.Sheet.{Lit}
use Rattle.swc_ecma_codegen_tokens.specs.Run.{after_plain}
use Rattle.swc_ecma_codegen_tokens.proofs.Emission.Calls.{called_kept, level, is_level}
use Rattle.swc_ecma_codegen_tokens.proofs.LowerEmitter.put_digits.Goals as goal

pub returns-clause-items : goal.returns-clause-items
unfolding after_plain
returns-clause-items g c = called_kept (Lit c.args.span c.args.text.now) _ c.args.self.now c.keep.new.self _ _ _ _ c.requires c.write_lit-answer.ensures c.keep.ensures.token c.keep.ensures.ok c.keep.ensures.err c.keep.ensures.same refl

pub returns-clause-level : goal.returns-clause-level
unfolding is_level
returns-clause-level g c = level _ _ _ _ _ c.write_lit-answer.ensures c.keep.ensures.same refl
