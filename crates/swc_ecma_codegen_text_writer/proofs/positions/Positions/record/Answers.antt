use Rattle.swc_ecma_codegen_text_writer.proofs.Recording.{records_none}
use Rattle.swc_ecma_codegen_text_writer.proofs.positions.Positions.record.Goals as goal

pub returns-then-pos-eq0-clause-pairs : goal.returns-then-pos-eq0-clause-pairs
returns-then-pos-eq0-clause-pairs g c = λ p h. records_none c.args.pos p (g.L.HoldsPairs.pairs c.args.self.now.list) c.if-pos-eq0.true
