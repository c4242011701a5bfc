use Rattle.std.proofs.Common.{None, refl}
use Rattle.swc_ecma_codegen_grammar.specs.declared.kinds.Kind.TheVariants.{Word}
use Rattle.swc_ecma_codegen_grammar.specs.GapRules.{last_after}
use Rattle.swc_ecma_codegen_text_writer.specs.Sheet.{Operator}
use Rattle.swc_ecma_codegen_text_writer.proofs.AsStrings.{operator_as}
use Rattle.swc_ecma_codegen_tokens.specs.PreviousToken.{last_at}
use Rattle.swc_ecma_codegen_tokens.specs.Run.{after_token, text_of}
use Rattle.swc_ecma_codegen_tokens.proofs.Emission.Calls.{called, level, is_level}
use Rattle.swc_ecma_codegen_tokens.proofs.LowerEmitter.sends_word_operator.Goals as goal

pub sends-requires-clause-settled : goal.sends-requires-clause-settled
sends-requires-clause-settled g c = λ f. c.requires.settled

pub returns-clause-items : goal.returns-clause-items
unfolding last_at after_token last_after text_of
returns-clause-items g c = called Word (Operator None c.args.text.now) _ c.args.self.now c.sends.new.self _ _ _ _ _ c.requires.unfailed (operator_as c.args.text.now _ _ _ c.sends.ensures.writes) c.sends.ensures.ok c.sends.ensures.err refl refl

pub returns-clause-level : goal.returns-clause-level
unfolding is_level
returns-clause-level g c = level _ _ _ _ _ (operator_as c.args.text.now _ _ _ c.sends.ensures.writes) refl refl
