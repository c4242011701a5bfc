use Rattle.std.proofs.Common.{refl, Ok}
use Rattle.swc_ecma_codegen_grammar.specs.Comments.{maps_in}
use Rattle.swc_ecma_codegen_grammar.specs.CommentMaps.{Maps}
use Rattle.swc_ecma_codegen_grammar.specs.Phrases.{TagNameOf}
use Rattle.swc_ecma_codegen_tokens.specs.Tags as tags
use Rattle.swc_ecma_codegen_tokens.proofs.Reading.SoFar.{named_so_far}
use Rattle.swc_ecma_codegen_tokens.proofs.Jsx.TagPrints.{prints_tag_name}
use Rattle.swc_ecma_codegen_tokens.proofs.Reading.TokensSoFar.{is_jointless, adds_taking}
use Rattle.swc_ecma_codegen_tokens.proofs.LowerEmitter.tag_name.Goals as goal

pub returns-clause-in_tag : goal.returns-clause-in_tag
unfolding tags.tag_name is_jointless
returns-clause-in_tag g c =
    let before : Maps = maps_in g.C.Comments.maps c.args.comments.now in
    let left : Maps = maps_in g.C.Comments.maps c.leading_comments.new.comments in
    adds_taking (TagNameOf c.args.span.lo c.args.text.now) (tags.tag_name c.args.span c.args.text.now) before left _ _ (Ok tt) (prints_tag_name _ c.args.span c.args.text.now) refl
    (λ lines rest z r f. c.in_ok-leading_comments.ensures.items lines _ z r (c.in_ok-put_pending_semi.ensures.items lines left _ z r (c.in_ok-tag_symbol.ensures.items lines left rest z r f)))

pub returns-clause-reads : goal.returns-clause-reads
returns-clause-reads g c = λ old tokens rs closed w h. returns-clause-in_tag g c old tokens rs closed w (named_so_far old tokens rs _ h)
