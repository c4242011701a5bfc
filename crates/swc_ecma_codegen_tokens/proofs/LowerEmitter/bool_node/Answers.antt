use Rattle.std.proofs.Common.{Ok, Some}
use Rattle.swc_ecma_codegen_grammar.specs.CommentMaps.{Maps}
use Rattle.swc_ecma_codegen_grammar.specs.Comments.{maps_in}
use Rattle.swc_ecma_codegen_grammar.specs.LitPhrases as phrases
use Rattle.swc_ecma_codegen_tokens.specs.Lits.{bool_text, bool_node}
use Rattle.swc_ecma_codegen_tokens.specs.Words.{keyword}
use Rattle.swc_ecma_codegen_tokens.proofs.LiteralTokens.LitPrints.{prints_bool_node}
use Rattle.swc_ecma_codegen_tokens.proofs.Reading.NodesSoFar.{does_text}
use Rattle.swc_ecma_codegen_tokens.proofs.Reading.TokensSoFar.{adds_taking, bool_jointless}
use Rattle.swc_ecma_codegen_tokens.proofs.LowerEmitter.bool_node.Goals as goal

pub returns-clause-reads : goal.returns-clause-reads
unfolding bool_node
returns-clause-reads g c =
    let before : Maps = maps_in g.C.Comments.maps c.args.comments.now in
    let left : Maps = maps_in g.C.Comments.maps c.leading_comments.new.comments in
    let word = does_text (keyword (Some c.args.n.now.span)) c.bool_text.result.now (bool_text c.args.n.now.value) _ _ (Ok tt) c.bool_text.ensures.text c.in_ok-keyword.ensures.items in
    adds_taking (phrases.bool_lit c.args.n.now) (bool_node c.args.n.now) before left _ _ (Ok tt) (prints_bool_node _ c.args.n.now) (bool_jointless c.args.n.now)
    (λ lines rest z r f. c.in_ok-leading_comments.ensures.items lines _ z r (word lines left rest z r f))
