use Rattle.swc_ecma_codegen_grammar.specs.Comments.{maps_in}
use Rattle.std.proofs.Common.{rules}
use Rattle.swc_ecma_codegen_emit.proofs.Standings.{makes_emitted}
use Rattle.swc_ecma_codegen_emit.proofs.emitter.Emitter.trailing_comma.Goals as goal

pub returns-clause-items : goal.returns-clause-items
returns-clause-items g c = makes_emitted _ _ _ _ _ _ (c.trailing_comma.ensures.items (maps_in g.C.Comments.maps c.args.self.now.comments)) c.trailing_comma.ensures.level (search rules) c.keep.ensures
