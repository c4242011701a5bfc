use Rattle.std.proofs.Common.{refl, ◌≡◌, codes, sym, ap, ◌∙◌}
use Rattle.swc_ecma_codegen_grammar.specs.declared.kinds.Kind.TheVariants.{Punctuator}
use Rattle.swc_ecma_codegen_grammar.specs.GapRules.{last_after, mark_after}
use Rattle.swc_ecma_codegen_literals.specs.declared.punctuators.Punctuator.TheVariants.{Minus}
use Rattle.swc_ecma_codegen_text_writer.specs.Sheet.{StrLit}
use Rattle.swc_ecma_codegen_tokens.specs.PreviousToken.{last_at, after_mark}
use Rattle.swc_ecma_codegen_tokens.specs.Run.{spelling as characters, after_token, text_of}
use Rattle.swc_ecma_codegen_tokens.proofs.Gaps.AfterPunctuators.{after_is}
use Rattle.swc_ecma_codegen_tokens.proofs.Emission.Calls.{called, level, is_level}
use Rattle.swc_ecma_codegen_tokens.proofs.LowerEmitter.put_sign.Goals as goal

pub returns-clause-items : goal.returns-clause-items
unfolding after_token last_after text_of characters
returns-clause-items g c =
    let last : last_at c.after-last.result ≡ mark_after (last_at c.args.self.now.token.value) (codes "-") =
    ap last_at (c.after-last.ensures ∙ ap (λ k. after_mark k Minus) (sym (c.args.self.now.class c.requires))) ∙ after_is c.args.self.now.token.value Minus in
    called Punctuator (StrLit c.args.span (codes "-")) _ c.args.self.now c.settle.new.self _ _ _ _ _ c.requires c.write_str_lit-answer.ensures c.settle.ensures.ok c.settle.ensures.err c.settle.ensures.same last

pub returns-clause-level : goal.returns-clause-level
unfolding is_level
returns-clause-level g c = level _ _ _ _ _ c.write_str_lit-answer.ensures c.settle.ensures.same refl
