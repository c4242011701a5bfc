use Rattle.swc_ecma_codegen_grammar.specs.Comments.{maps_in}
use Rattle.swc_ecma_codegen_grammar.specs.LitPhrases as phrases
use Rattle.swc_ecma_codegen_tokens.specs.Lits.{str_lit}
use Rattle.swc_ecma_codegen_tokens.proofs.LiteralTokens.StringPrints.{prints_str}
use Rattle.swc_ecma_codegen_tokens.proofs.Reading.TokensSoFar.{adds_taking, str_jointless}
use Rattle.swc_ecma_codegen_tokens.proofs.LowerEmitter.str_lit.Goals as goal

pub returns-clause-reads : goal.returns-clause-reads
returns-clause-reads g c = adds_taking (phrases.str_lit c.args.n.now) (str_lit c.args.n.now) (maps_in g.C.Comments.maps c.args.comments.now) (maps_in g.C.Comments.maps c.string_at.new.comments) _ _ c.string_at.result (prints_str _ c.args.n.now) (str_jointless c.args.n.now) c.string_at.ensures.items
