use Rattle.std.proofs.Common.{◌≡◌, List, ℕ, refl, sym, ◌∙◌, ap, subst}
use Rattle.swc_ecma_codegen_grammar.specs.declared.kinds.Kind.TheVariants.{Punctuator}
use Rattle.swc_ecma_codegen_grammar.specs.GapRules.{last_after, mark_after}
use Rattle.swc_ecma_codegen_text_writer.specs.Sheet.{Punct, answered}
use Rattle.swc_ecma_codegen_tokens.specs.PreviousToken.{last_at, after_mark}
use Rattle.swc_ecma_codegen_tokens.specs.Run.{Does, Token, step, spelling as characters, after_token, text_of}
use Rattle.swc_ecma_codegen_tokens.specs.View.{state_of}
use Rattle.swc_ecma_codegen_tokens.proofs.Gaps.AfterPunctuators.{after_is}
use Rattle.swc_ecma_codegen_tokens.proofs.Emission.Calls.{called, level, is_level, noted_ok, noted_err}
use Rattle.swc_ecma_codegen_tokens.proofs.LowerEmitter.call_punct.Goals as goal

pub returns-clause-items : goal.returns-clause-items
unfolding after_token last_after text_of characters
returns-clause-items g c =
    let mark = c.args.mark in
    let span = c.args.span in
    let P : List ℕ → Type 0 = λ t. Does (step (Token Punctuator (Punct span t))) (state_of c.args.cfg.now (g.W.WriteJs.sheet c.args.wr.now) c.args.self.now) (state_of c.args.cfg.now (g.W.WriteJs.sheet c.write_punct-answer.new.self) c.settles_noted.new.self) (answered c.settles_noted.result c.settles_noted.new.self.reason) in
    let last : last_at c.after-last.result ≡ mark_after (last_at c.args.self.now.token.value) c.as_str.result.now =
    ap last_at (c.after-last.ensures ∙ ap (λ k. after_mark k mark) (sym (c.args.self.now.class c.requires))) ∙ after_is c.args.self.now.token.value mark ∙ ap (mark_after (last_at c.args.self.now.token.value)) (sym c.as_str.ensures) in
    subst P c.as_str.ensures (called Punctuator (Punct span c.as_str.result.now) _ c.args.self.now c.settles_noted.new.self _ _ _ _ _ c.requires c.write_punct-answer.ensures (noted_ok _ c.settles_noted.new.self c.note-before.new.self c.args.self.now _ c.note-before.ensures.token c.note-before.ensures.failed c.settles_noted.ensures.ok) (noted_err _ c.settles_noted.new.self c.args.self.now _ c.note-before.ensures.before c.settles_noted.ensures.err) c.settles_noted.ensures.same last)

pub returns-clause-level : goal.returns-clause-level
unfolding is_level
returns-clause-level g c = level _ _ _ _ _ c.write_punct-answer.ensures c.settles_noted.ensures.same refl
