use Rattle.std.proofs.Common.{refl, Ok}
use Rattle.swc_ecma_codegen_grammar.specs.Comments.{maps_in}
use Rattle.swc_ecma_codegen_grammar.specs.Phrases.{PrivateOf}
use Rattle.swc_ecma_codegen_tokens.specs.PrivateNames as words
use Rattle.swc_ecma_codegen_tokens.proofs.NameTokens.PrivatePrints.{prints_private}
use Rattle.swc_ecma_codegen_tokens.proofs.Reading.TokensSoFar.{is_jointless, adds_taking}
use Rattle.swc_ecma_codegen_tokens.proofs.LowerEmitter.private_name.Goals as goal

pub returns-clause-reads : goal.returns-clause-reads
unfolding words.private_name is_jointless
returns-clause-reads g c = λ k.
    adds_taking (PrivateOf c.args.name.now) (words.private_name c.args.span c.args.name.now) (maps_in g.C.Comments.maps c.args.comments.now) (maps_in g.C.Comments.maps c.leading_comments.new.comments) _ _ (Ok tt) (prints_private _ c.args.span c.args.name.now k) refl
    (λ lines rest z r f. c.in_ok-leading_comments.ensures.items lines _ z r (c.in_ok-private_text.ensures.items lines (maps_in g.C.Comments.maps c.leading_comments.new.comments) _ z r (c.in_ok-position.ensures.items lines (maps_in g.C.Comments.maps c.leading_comments.new.comments) rest z r f)))
