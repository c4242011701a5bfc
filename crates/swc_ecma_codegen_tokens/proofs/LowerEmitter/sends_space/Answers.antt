use Rattle.std.proofs.Common.{rules, refl}
use Rattle.swc_ecma_codegen_text_writer.specs.Reach.{is_one_column}
use Rattle.swc_ecma_codegen_text_writer.specs.Sheet.{Space}
use Rattle.swc_ecma_codegen_text_writer.proofs.AsStrings.{space_as}
use Rattle.swc_ecma_codegen_tokens.specs.PreviousToken.{last_at}
use Rattle.swc_ecma_codegen_tokens.specs.Run.{after_plain}
use Rattle.swc_ecma_codegen_tokens.specs.Words.{space}
use Rattle.swc_ecma_codegen_tokens.proofs.Emission.Calls.{called_plain, level, is_level}
use Rattle.swc_ecma_codegen_tokens.proofs.LowerEmitter.sends_space.Goals as goal

pub sends-requires-clause-settled : goal.sends-requires-clause-settled
sends-requires-clause-settled g c = λ f. c.requires.settled

pub sends-requires-clause-in_line : goal.sends-requires-clause-in_line
unfolding is_one_column
sends-requires-clause-in_line g c = search rules

pub returns-clause-items : goal.returns-clause-items
unfolding last_at after_plain space
returns-clause-items g c = called_plain Space _ c.args.self.now c.sends.new.self _ _ _ _ _ c.requires.unfailed (space_as _ _ _ c.sends.ensures.writes) c.sends.ensures.ok c.sends.ensures.err refl refl

pub returns-clause-level : goal.returns-clause-level
unfolding is_level
returns-clause-level g c = level _ _ _ _ _ (space_as _ _ _ c.sends.ensures.writes) refl refl
