use Rattle.std.proofs.Common.{rules, refl, sym, ◌∙◌, ap, None}
use Rattle.swc_ecma_codegen_grammar.specs.declared.kinds.Kind.TheVariants.{Ending}
use Rattle.swc_ecma_codegen_grammar.specs.GapRules.{last_after}
use Rattle.swc_ecma_codegen_text_writer.specs.Reach.{is_one_column}
use Rattle.swc_ecma_codegen_text_writer.specs.Sheet.{Semi}
use Rattle.swc_ecma_codegen_text_writer.proofs.AsStrings.{semi_as}
use Rattle.swc_ecma_codegen_literals.specs.declared.punctuators.Punctuator.TheVariants.{Semicolon}
use Rattle.swc_ecma_codegen_tokens.specs.PreviousToken.{last_at, after_mark}
use Rattle.swc_ecma_codegen_tokens.specs.Run.{spelling as characters, after_token, text_of}
use Rattle.swc_ecma_codegen_tokens.proofs.Gaps.AfterPunctuators.{after_is}
use Rattle.swc_ecma_codegen_tokens.proofs.Emission.Calls.{called, level, is_level}
use Rattle.swc_ecma_codegen_tokens.proofs.LowerEmitter.sends_semi.Goals as goal

pub sends-requires-clause-settled : goal.sends-requires-clause-settled
sends-requires-clause-settled g c = λ f. c.requires.settled

pub sends-requires-clause-in_line : goal.sends-requires-clause-in_line
unfolding is_one_column
sends-requires-clause-in_line g c = search rules

pub returns-clause-items : goal.returns-clause-items
unfolding after_token last_after text_of characters
returns-clause-items g c =
    let last = ap last_at (c.after-last.ensures ∙ ap (λ k. after_mark k Semicolon) (sym (c.args.self.now.class c.requires.unfailed))) ∙ after_is c.args.self.now.token.value Semicolon in
    called Ending (Semi None) _ c.args.self.now c.sends.new.self _ _ _ _ _ c.requires.unfailed (semi_as _ _ _ c.requires.at_once c.sends.ensures.writes) c.sends.ensures.ok c.sends.ensures.err refl last

pub returns-clause-level : goal.returns-clause-level
unfolding is_level
returns-clause-level g c = level _ _ _ _ _ (semi_as _ _ _ c.requires.at_once c.sends.ensures.writes) refl refl
