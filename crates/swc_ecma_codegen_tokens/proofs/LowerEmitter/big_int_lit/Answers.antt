use Rattle.swc_ecma_codegen_grammar.specs.Comments.{maps_in}
use Rattle.swc_ecma_codegen_grammar.specs.LitPhrases as phrases
use Rattle.swc_ecma_codegen_tokens.specs.Lits.{big_int_lit}
use Rattle.swc_ecma_codegen_tokens.proofs.LiteralTokens.BigPrints.{prints_big_int}
use Rattle.swc_ecma_codegen_tokens.proofs.Reading.TokensSoFar.{adds_taking, big_int_jointless}
use Rattle.swc_ecma_codegen_tokens.proofs.LowerEmitter.big_int_lit.Goals as goal

pub returns-clause-reads : goal.returns-clause-reads
returns-clause-reads g c = adds_taking (phrases.big_int c.args.n.now) (big_int_lit c.args.n.now) (maps_in g.C.Comments.maps c.args.comments.now) (maps_in g.C.Comments.maps c.big_int_at.new.comments) _ _ c.big_int_at.result (prints_big_int _ c.args.n.now) (big_int_jointless c.args.n.now) c.big_int_at.ensures.items
