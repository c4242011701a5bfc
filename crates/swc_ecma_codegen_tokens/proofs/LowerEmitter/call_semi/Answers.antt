use Rattle.std.proofs.Common.{refl, sym, ◌∙◌, ap, None}
use Rattle.swc_ecma_codegen_grammar.specs.declared.kinds.Kind.TheVariants.{Ending}
use Rattle.swc_ecma_codegen_grammar.specs.GapRules.{last_after}
use Rattle.swc_ecma_codegen_text_writer.specs.Sheet.{Semi}
use Rattle.swc_ecma_codegen_literals.specs.declared.punctuators.Punctuator.TheVariants.{Semicolon}
use Rattle.swc_ecma_codegen_tokens.specs.PreviousToken.{last_at, after_mark}
use Rattle.swc_ecma_codegen_tokens.specs.Run.{spelling as characters, after_token, text_of}
use Rattle.swc_ecma_codegen_tokens.proofs.Gaps.AfterPunctuators.{after_is}
use Rattle.swc_ecma_codegen_tokens.proofs.Emission.Calls.{called, level, is_level, noted_ok, noted_err}
use Rattle.swc_ecma_codegen_tokens.proofs.LowerEmitter.call_semi.Goals as goal

pub returns-clause-items : goal.returns-clause-items
unfolding after_token last_after text_of characters
returns-clause-items g c =
    let last = ap last_at (c.after-last.ensures ∙ ap (λ k. after_mark k Semicolon) (sym (c.args.self.now.class c.requires))) ∙ after_is c.args.self.now.token.value Semicolon in
    called Ending (Semi None) _ c.args.self.now c.settles_noted.new.self _ _ _ _ _ c.requires c.write_semi-answer.ensures (noted_ok _ c.settles_noted.new.self c.note-before.new.self c.args.self.now _ c.note-before.ensures.token c.note-before.ensures.failed c.settles_noted.ensures.ok) (noted_err _ c.settles_noted.new.self c.args.self.now _ c.note-before.ensures.before c.settles_noted.ensures.err) c.settles_noted.ensures.same last

pub returns-clause-level : goal.returns-clause-level
unfolding is_level
returns-clause-level g c = level _ _ _ _ _ c.write_semi-answer.ensures c.settles_noted.ensures.same refl
