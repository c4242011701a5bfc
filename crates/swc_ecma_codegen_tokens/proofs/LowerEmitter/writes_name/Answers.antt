use Rattle.swc_ecma_codegen_tokens.proofs.Reading.Answered.{name_adds}
use Rattle.swc_ecma_codegen_tokens.proofs.LowerEmitter.writes_name.Goals as goal

pub returns-clause-reads : goal.returns-clause-reads
returns-clause-reads g c = name_adds c.args.span c.args.sym.now c.args.optional c.args.cfg.now _ _ (g.W.WriteJs.sheet c.args.wr.now) c.args.self.now (g.W.WriteJs.sheet c.writes_name_here.new.wr) c.writes_name_here.new.self _ c.writes_name_here.ensures.items
