use Rattle.std.proofs.Common.{refl}
use Rattle.swc_ecma_codegen_tokens.proofs.Emission.Calls.{level, is_level}
use Rattle.swc_ecma_codegen_tokens.proofs.Emission.Between.{punct_is_between}
use Rattle.swc_ecma_codegen_tokens.proofs.LowerEmitter.sends_punct_between.Goals as goal

pub returns-clause-items : goal.returns-clause-items
returns-clause-items g c = punct_is_between c.args.mark _ c.args.self.now c.sends_between.new.self _ _ _ c.requires.unbounded c.requires.unfailed c.requires.settled c.requires.unplaced c.sends_between.ensures.writes c.sends_between.ensures.ok c.sends_between.ensures.err

pub returns-clause-level : goal.returns-clause-level
unfolding is_level
returns-clause-level g c = level _ _ _ _ _ c.sends_between.ensures.writes refl refl
