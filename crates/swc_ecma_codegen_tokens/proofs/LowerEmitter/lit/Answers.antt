use Rattle.swc_ecma_codegen_grammar.specs.Comments.{maps_in}
use Rattle.swc_ecma_codegen_grammar.specs.LitPhrases as phrases
use Rattle.swc_ecma_codegen_tokens.specs.Lits.{lit}
use Rattle.swc_ecma_codegen_tokens.proofs.LiteralTokens.EachLit.{prints_lit}
use Rattle.swc_ecma_codegen_tokens.proofs.Reading.TokensSoFar.{adds_taking, lit_jointless}
use Rattle.swc_ecma_codegen_tokens.proofs.LowerEmitter.lit.Goals as goal

pub returns-clause-reads : goal.returns-clause-reads
returns-clause-reads g c = adds_taking (phrases.lit c.args.n.now) (lit c.args.n.now) (maps_in g.C.Comments.maps c.args.comments.now) (maps_in g.C.Comments.maps c.lit_at.new.comments) _ _ c.lit_at.result (prints_lit _ c.args.n.now) (lit_jointless c.args.n.now) c.lit_at.ensures.items
