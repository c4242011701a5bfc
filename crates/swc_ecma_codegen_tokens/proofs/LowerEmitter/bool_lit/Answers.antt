use Rattle.std.proofs.Common.{Ok, None}
use Rattle.swc_ecma_codegen_grammar.specs.LitPhrases as phrases
use Rattle.swc_ecma_codegen_tokens.specs.Lits.{bool_text, bool_lit}
use Rattle.swc_ecma_codegen_tokens.specs.Words.{keyword}
use Rattle.swc_ecma_codegen_tokens.proofs.LiteralTokens.LitPrints.{prints_bool}
use Rattle.swc_ecma_codegen_tokens.proofs.Reading.NodesSoFar.{does_text}
use Rattle.swc_ecma_codegen_tokens.proofs.Reading.TokensSoFar.{adds_list, bool_jointless}
use Rattle.swc_ecma_codegen_tokens.proofs.LowerEmitter.bool_lit.Goals as goal

pub returns-clause-reads : goal.returns-clause-reads
unfolding bool_lit
returns-clause-reads g c =
    adds_list (phrases.bool_lit c.args.n.now) (bool_lit c.args.n.now) _ _ (Ok tt) (prints_bool _ c.args.n.now) (bool_jointless c.args.n.now)
    (does_text (keyword None) c.bool_text.result.now (bool_text c.args.n.now.value) _ _ (Ok tt) c.bool_text.ensures.text c.in_ok-keyword.ensures.items)
