use Rattle.swc_ecma_codegen_tokens.proofs.Reading.Answered.{operator_adds}
use Rattle.swc_ecma_codegen_tokens.proofs.LowerEmitter.writes_operator.Goals as goal

pub returns-then-is_apart-clause-reads : goal.returns-then-is_apart-clause-reads
returns-then-is_apart-clause-reads g c = operator_adds c.args.mark c.args.cfg.now (g.W.WriteJs.sheet c.args.wr.now) c.args.self.now (g.W.WriteJs.sheet c.writes_operator_apart.new.wr) c.writes_operator_apart.new.self _ c.writes_operator_apart.ensures.items

pub returns-clause-reads : goal.returns-clause-reads
returns-clause-reads g c = operator_adds c.args.mark c.args.cfg.now (g.W.WriteJs.sheet c.args.wr.now) c.args.self.now (g.W.WriteJs.sheet c.writes_operator_here.new.wr) c.writes_operator_here.new.self _ c.writes_operator_here.ensures.items
