use Rattle.std.proofs.Common.{refl}
use Rattle.swc_ecma_codegen_tokens.proofs.Emission.Calls.{guarded, level, is_level}
use Rattle.swc_ecma_codegen_tokens.proofs.LowerEmitter.put_blank.Goals as goal

pub returns-clause-items : goal.returns-clause-items
returns-clause-items g c = guarded c.args.text.now _ c.args.self.now c.settle.new.self _ _ _ _ c.requires.unfailed c.write_space-answer.ensures c.settle.ensures.ok c.settle.ensures.err c.settle.ensures.same c.requires.due

pub returns-clause-level : goal.returns-clause-level
unfolding is_level
returns-clause-level g c = level _ _ _ _ _ c.write_space-answer.ensures c.settle.ensures.same refl
