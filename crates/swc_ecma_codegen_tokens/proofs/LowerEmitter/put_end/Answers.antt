use Rattle.std.proofs.Common.{List, ℕ, refl, sym, subst, ◌∷◌, [], None}
use Rattle.swc_ecma_codegen_grammar.specs.TemplatePhrases.{part_kind, part_text}
use Rattle.swc_ecma_codegen_text_writer.specs.Sheet.{Punct}
use Rattle.swc_ecma_codegen_tokens.specs.PreviousToken.{last_at}
use Rattle.swc_ecma_codegen_tokens.specs.Run.{Does, Ends, step}
use Rattle.swc_ecma_codegen_tokens.specs.Templates.{closed}
use Rattle.swc_ecma_codegen_tokens.specs.View.{state_of}
use Rattle.swc_ecma_codegen_tokens.proofs.Emission.Calls.{called_ends, level, is_level}
use Rattle.swc_ecma_codegen_tokens.proofs.LiteralTokens.TemplateLaws.{after_part}
use Rattle.swc_ecma_codegen_tokens.proofs.LowerEmitter.put_end.Goals as goal

pub returns-clause-items : goal.returns-clause-items
unfolding closed last_at
returns-clause-items g c =
    let tokens = (part_kind c.args.first c.args.part, part_text c.args.first c.args.part c.args.text.now) ∷ [] in
    let P : List ℕ → Type 0 = λ t. Does (step (Ends tokens (Punct None t))) (state_of c.args.cfg.now (g.W.WriteJs.sheet c.args.wr.now) c.args.self.now) (state_of c.args.cfg.now (g.W.WriteJs.sheet c.write_punct-answer.new.self) c.settle.new.self) c.settle.result in
    subst P c.part_end.ensures (called_ends tokens (Punct None c.part_end.result.now) _ c.args.self.now c.settle.new.self _ _ _ _ _ c.requires c.write_punct-answer.ensures c.settle.ensures.ok c.settle.ensures.err c.settle.ensures.same (sym (after_part c.args.first c.args.part _ _)))

pub returns-clause-level : goal.returns-clause-level
unfolding is_level
returns-clause-level g c = level _ _ _ _ _ c.write_punct-answer.ensures c.settle.ensures.same refl
