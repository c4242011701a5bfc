use Rattle.std.proofs.Common.{Ok}
use Rattle.swc_ecma_codegen_grammar.specs.LitPhrases as phrases
use Rattle.swc_ecma_codegen_tokens.specs.Lits.{null_lit}
use Rattle.swc_ecma_codegen_tokens.proofs.LiteralTokens.LitPrints.{prints_null}
use Rattle.swc_ecma_codegen_tokens.proofs.Reading.TokensSoFar.{adds_list, null_jointless}
use Rattle.swc_ecma_codegen_tokens.proofs.LowerEmitter.null_lit.Goals as goal

pub returns-clause-reads : goal.returns-clause-reads
unfolding null_lit
returns-clause-reads g c = adds_list (phrases.null_lit c.args.n.now) (null_lit c.args.n.now) _ _ (Ok tt) (prints_null _ c.args.n.now) (null_jointless c.args.n.now) c.in_ok-keyword.ensures.items
