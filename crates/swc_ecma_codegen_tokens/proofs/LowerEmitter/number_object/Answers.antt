use Rattle.swc_ecma_codegen_grammar.specs.CommentMaps.{Maps}
use Rattle.swc_ecma_codegen_grammar.specs.Comments.{maps_in}
use Rattle.swc_ecma_codegen_grammar.specs.LitPhrases as phrases
use Rattle.swc_ecma_codegen_tokens.specs.Lits.{number_object}
use Rattle.swc_ecma_codegen_tokens.proofs.Reading.NodesSoFar.{literal_object, named_object}
use Rattle.swc_ecma_codegen_tokens.proofs.LiteralTokens.NumberPrints.{prints_number_object}
use Rattle.swc_ecma_codegen_tokens.proofs.Reading.TokensSoFar.{adds_taking, number_jointless}
use Rattle.swc_ecma_codegen_tokens.proofs.LowerEmitter.number_object.Goals as goal

pub returns-then-is_named-clause-reads : goal.returns-then-is_named-clause-reads
returns-then-is_named-clause-reads g c =
    let before : Maps = maps_in g.C.Comments.maps c.args.comments.now in
    let left : Maps = maps_in g.C.Comments.maps c.named_number.new.comments in
    adds_taking (phrases.number c.args.n.now) (number_object c.args.n.now c.args.pos) before left _ _ c.named_number.result (prints_number_object _ c.args.n.now c.args.pos) (number_jointless c.args.n.now)
    (named_object c.args.n.now c.args.pos _ before left _ _ c.named_number.result c.is_named.ensures c.if-is_named.true c.named_number.ensures.items)

pub returns-else-is_named-clause-reads : goal.returns-else-is_named-clause-reads
returns-else-is_named-clause-reads g c =
    let before : Maps = maps_in g.C.Comments.maps c.args.comments.now in
    let left : Maps = maps_in g.C.Comments.maps c.spelled_object.new.comments in
    adds_taking (phrases.number c.args.n.now) (number_object c.args.n.now c.args.pos) before left _ _ c.spelled_object.result (prints_number_object _ c.args.n.now c.args.pos) (number_jointless c.args.n.now)
    (literal_object c.args.n.now c.args.pos _ before left _ _ c.spelled_object.result c.is_named.ensures c.if-is_named.false c.spelled_object.ensures.items)
