use Rattle.std.proofs.Common.{Option, sym, subst}
use Rattle.swc_ecma_codegen_common.specs.declared.positions.Span.{Span}
use Rattle.swc_ecma_codegen_text_writer.specs.Sheet.{answered}
use Rattle.swc_ecma_codegen_tokens.specs.Run.{Does}
use Rattle.swc_ecma_codegen_tokens.specs.View.{state_of}
use Rattle.swc_ecma_codegen_tokens.specs.Words.{keyword}
use Rattle.swc_ecma_codegen_tokens.proofs.Reading.Answered.{keyword_adds}
use Rattle.swc_ecma_codegen_tokens.proofs.LowerEmitter.writes_keyword.Goals as goal

pub returns-in-None-clause-items : goal.returns-in-None-clause-items
returns-in-None-clause-items g c =
    let P : Option Span → Type 0 = λ span. Does (keyword span c.args.word.now) (state_of c.args.cfg.now (g.W.WriteJs.sheet c.args.wr.now) c.args.self.now) (state_of c.args.cfg.now (g.W.WriteJs.sheet c.writes_plain_keyword.new.wr) c.writes_plain_keyword.new.self) (answered c.writes_plain_keyword.result c.writes_plain_keyword.new.self.reason) in
    subst P (sym c.in-None.is) c.writes_plain_keyword.ensures.items

pub returns-in-None-clause-reads : goal.returns-in-None-clause-reads
returns-in-None-clause-reads g c = λ w. keyword_adds c.args.span c.args.word.now c.args.cfg.now (g.W.WriteJs.sheet c.args.wr.now) c.args.self.now (g.W.WriteJs.sheet c.writes_plain_keyword.new.wr) c.writes_plain_keyword.new.self _ w (returns-in-None-clause-items g c)

pub returns-in-Some-clause-reads : goal.returns-in-Some-clause-reads
returns-in-Some-clause-reads g c = λ w. keyword_adds c.args.span c.args.word.now c.args.cfg.now (g.W.WriteJs.sheet c.args.wr.now) c.args.self.now (g.W.WriteJs.sheet c.writes_keyword_apart.new.wr) c.writes_keyword_apart.new.self _ w c.writes_keyword_apart.ensures.items
