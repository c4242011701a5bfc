use Rattle.swc_ecma_codegen_tokens.proofs.Reading.Answered.{punct_between_adds}
use Rattle.swc_ecma_codegen_tokens.proofs.LowerEmitter.writes_punct_between.Goals as goal

pub returns-then-self-clause-reads : goal.returns-then-self-clause-reads
returns-then-self-clause-reads g c = punct_between_adds c.args.mark c.args.cfg.now (g.W.WriteJs.sheet c.args.wr.now) c.args.self.now (g.W.WriteJs.sheet c.writes_punct_and_blanks_apart.new.wr) c.writes_punct_and_blanks_apart.new.self _ c.writes_punct_and_blanks_apart.ensures.items

pub returns-clause-reads : goal.returns-clause-reads
returns-clause-reads g c = punct_between_adds c.args.mark c.args.cfg.now (g.W.WriteJs.sheet c.args.wr.now) c.args.self.now (g.W.WriteJs.sheet c.sends_punct_between.new.wr) c.sends_punct_between.new.self _ c.sends_punct_between.ensures.items
