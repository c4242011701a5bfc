use Rattle.std.proofs.Common.{None, refl}
use Rattle.swc_ecma_codegen_grammar.specs.declared.kinds.Kind.TheVariants.{Name}
use Rattle.swc_ecma_codegen_grammar.specs.GapRules.{last_after}
use Rattle.swc_ecma_codegen_spans.specs.Spans.{dummy_span}
use Rattle.swc_ecma_codegen_text_writer.specs.Sheet.{Symbol}
use Rattle.swc_ecma_codegen_text_writer.proofs.AsStrings.{symbol_as}
use Rattle.swc_ecma_codegen_tokens.specs.PreviousToken.{last_at}
use Rattle.swc_ecma_codegen_tokens.specs.Run.{after_token, text_of}
use Rattle.swc_ecma_codegen_tokens.proofs.Emission.Calls.{called, level, is_level}
use Rattle.swc_ecma_codegen_tokens.proofs.LowerEmitter.sends_symbol.Goals as goal

pub sends-requires-clause-settled : goal.sends-requires-clause-settled
sends-requires-clause-settled g c = λ f. c.requires.settled

pub returns-clause-items : goal.returns-clause-items
unfolding last_at after_token last_after text_of
returns-clause-items g c = called Name (Symbol dummy_span c.args.text.now) _ c.args.self.now c.sends.new.self _ _ _ _ _ c.requires.unfailed (symbol_as dummy_span c.args.text.now _ _ _ refl refl c.sends.ensures.writes) c.sends.ensures.ok c.sends.ensures.err refl refl

pub returns-clause-level : goal.returns-clause-level
unfolding is_level
returns-clause-level g c = level _ _ _ _ _ (symbol_as dummy_span c.args.text.now _ _ _ refl refl c.sends.ensures.writes) refl refl
