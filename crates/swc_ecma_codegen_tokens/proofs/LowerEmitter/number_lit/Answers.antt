use Rattle.swc_ecma_codegen_grammar.specs.Comments.{maps_in}
use Rattle.swc_ecma_codegen_grammar.specs.LitPhrases as phrases
use Rattle.swc_ecma_codegen_tokens.specs.Lits.{number_lit}
use Rattle.swc_ecma_codegen_tokens.proofs.LiteralTokens.NumberPrints.{prints_number}
use Rattle.swc_ecma_codegen_tokens.proofs.Reading.TokensSoFar.{adds_taking, number_jointless}
use Rattle.swc_ecma_codegen_tokens.proofs.LowerEmitter.number_lit.Goals as goal

pub returns-clause-reads : goal.returns-clause-reads
returns-clause-reads g c = adds_taking (phrases.number c.args.n.now) (number_lit c.args.n.now) (maps_in g.C.Comments.maps c.args.comments.now) (maps_in g.C.Comments.maps c.number_at.new.comments) _ _ c.number_at.result (prints_number _ c.args.n.now) (number_jointless c.args.n.now) c.number_at.ensures.items
