use Rattle.std.proofs.Common.{◌≡◌, List, ℕ, None, refl, sym, ◌∙◌, ap, subst}
use Rattle.swc_ecma_codegen_grammar.specs.declared.kinds.Kind.TheVariants.{Punctuator}
use Rattle.swc_ecma_codegen_grammar.specs.GapRules.{last_after, mark_after}
use Rattle.swc_ecma_codegen_text_writer.specs.Sheet.{Operator, answered}
use Rattle.swc_ecma_codegen_text_writer.specs.Reach.{is_in_line}
use Rattle.swc_ecma_codegen_text_writer.proofs.AsStrings.{operator_as}
use Rattle.swc_ecma_codegen_tokens.specs.PreviousToken.{last_at, after_mark}
use Rattle.swc_ecma_codegen_tokens.specs.Run.{Does, Token, step, spelling as characters, after_token, text_of}
use Rattle.swc_ecma_codegen_tokens.specs.View.{state_of}
use Rattle.swc_ecma_codegen_tokens.proofs.Gaps.AfterPunctuators.{after_is}
use Rattle.swc_ecma_codegen_tokens.proofs.Gaps.InLine.{mark_in_line}
use Rattle.swc_ecma_codegen_tokens.proofs.Emission.Calls.{called, level, is_level}
use Rattle.swc_ecma_codegen_tokens.proofs.LowerEmitter.sends_operator.Goals as goal

pub sends-requires-clause-settled : goal.sends-requires-clause-settled
sends-requires-clause-settled g c = λ f. c.requires.settled

pub sends-requires-clause-in_line : goal.sends-requires-clause-in_line
sends-requires-clause-in_line g c = ap is_in_line c.as_str.ensures ∙ mark_in_line c.args.mark

pub returns-clause-items : goal.returns-clause-items
unfolding after_token last_after text_of characters
returns-clause-items g c =
    let mark = c.args.mark in
    let P : List ℕ → Type 0 = λ t. Does (step (Token Punctuator (Operator None t))) (state_of c.args.cfg.now (g.W.WriteJs.sheet c.args.wr.now) c.args.self.now) (state_of c.args.cfg.now (g.W.WriteJs.sheet c.sends.new.wr) c.sends.new.self) (answered c.sends.result c.sends.new.self.reason) in
    let last : last_at c.after-last.result ≡ mark_after (last_at c.args.self.now.token.value) c.as_str.result.now =
    ap last_at (c.after-last.ensures ∙ ap (λ k. after_mark k mark) (sym (c.args.self.now.class c.requires.unfailed))) ∙ after_is c.args.self.now.token.value mark ∙ ap (mark_after (last_at c.args.self.now.token.value)) (sym c.as_str.ensures) in
    subst P c.as_str.ensures (called Punctuator (Operator None c.as_str.result.now) _ c.args.self.now c.sends.new.self _ _ _ _ _ c.requires.unfailed (operator_as c.as_str.result.now _ _ _ c.sends.ensures.writes) c.sends.ensures.ok c.sends.ensures.err refl last)

pub returns-clause-level : goal.returns-clause-level
unfolding is_level
returns-clause-level g c = level _ _ _ _ _ (operator_as c.as_str.result.now _ _ _ c.sends.ensures.writes) refl refl
