use Rattle.std.specs.Prelude.{[], ◌∷◌}
use Rattle.swc_ecma_codegen_grammar.specs.Tokens as lexical
use Rattle.swc_ecma_codegen_literals.specs.Punctuators.{spelling}
use Rattle.swc_ecma_codegen_tokens.proofs.Gaps.Marks.{is_mark}
use Rattle.swc_ecma_codegen_tokens.specs.Words.{bare_punct}
use Rattle.swc_ecma_codegen_tokens.proofs.Reading.Answered.{adds_answered}
use Rattle.swc_ecma_codegen_tokens.proofs.Reading.SoFar.{bare_punct_so_far}
use Rattle.swc_ecma_codegen_tokens.proofs.LowerEmitter.bare_punct.Goals as goal

pub returns-clause-reads : goal.returns-clause-reads
returns-clause-reads g c = adds_answered (bare_punct (spelling c.args.mark)) (lexical.punctuator (spelling c.args.mark) ∷ []) c.args.cfg.now (g.W.WriteJs.sheet c.args.wr.now) c.args.self.now (g.W.WriteJs.sheet c.writes_bare_punct-done.new.wr) c.writes_bare_punct-done.new.self _ _ c.answer.ensures (λ old tokens rs. bare_punct_so_far (spelling c.args.mark) old tokens rs _ _ (is_mark c.args.mark)) c.writes_bare_punct-done.ensures.items
