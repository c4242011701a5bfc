use Rattle.std.proofs.Common.{refl}
use Rattle.swc_ecma_codegen_text_writer.specs.Sheet.{Commit}
use Rattle.swc_ecma_codegen_tokens.specs.Run.{after_plain}
use Rattle.swc_ecma_codegen_tokens.specs.Words.{commit_pending_semi}
use Rattle.swc_ecma_codegen_tokens.proofs.Emission.Calls.{called_kept, level, is_level}
use Rattle.swc_ecma_codegen_tokens.proofs.LowerEmitter.call_pending_semi.Goals as goal

pub returns-clause-items : goal.returns-clause-items
unfolding after_plain commit_pending_semi
returns-clause-items g c = called_kept (Commit) _ c.args.self.now c.keep.new.self _ _ _ _ c.requires c.commit_pending_semi-answer.ensures c.keep.ensures.token c.keep.ensures.ok c.keep.ensures.err c.keep.ensures.same refl

pub returns-clause-level : goal.returns-clause-level
unfolding is_level
returns-clause-level g c = level _ _ _ _ _ c.commit_pending_semi-answer.ensures c.keep.ensures.same refl
