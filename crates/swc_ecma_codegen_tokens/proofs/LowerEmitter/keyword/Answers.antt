use Rattle.std.specs.Prelude.{[], ◌∷◌}
use Rattle.swc_ecma_codegen_grammar.specs.Tokens as lexical
use Rattle.swc_ecma_codegen_tokens.specs.Words.{keyword}
use Rattle.swc_ecma_codegen_tokens.proofs.Reading.Answered.{adds_answered}
use Rattle.swc_ecma_codegen_tokens.proofs.Reading.SoFar.{keyword_so_far}
use Rattle.swc_ecma_codegen_tokens.proofs.LowerEmitter.keyword.Goals as goal

pub returns-clause-reads : goal.returns-clause-reads
returns-clause-reads g c = λ w. adds_answered (keyword c.args.span c.args.word.now) (lexical.word c.args.word.now ∷ []) c.args.cfg.now (g.W.WriteJs.sheet c.args.wr.now) c.args.self.now (g.W.WriteJs.sheet c.writes_keyword-done.new.wr) c.writes_keyword-done.new.self _ _ c.answer.ensures (λ old tokens rs. keyword_so_far c.args.span c.args.word.now old tokens rs _ _ w) c.writes_keyword-done.ensures.items
