use Rattle.std.proofs.Common.{refl, Ok}
use Rattle.swc_ecma_codegen_grammar.specs.Comments.{maps_in}
use Rattle.swc_ecma_codegen_grammar.specs.Phrases.{KeyOf}
use Rattle.swc_ecma_codegen_tokens.specs.Keys as words
use Rattle.swc_ecma_codegen_tokens.proofs.NameTokens.KeyPrints.{prints_key}
use Rattle.swc_ecma_codegen_tokens.proofs.Reading.TokensSoFar.{is_jointless, adds_taking}
use Rattle.swc_ecma_codegen_tokens.proofs.LowerEmitter.key.Goals as goal

pub returns-clause-reads : goal.returns-clause-reads
unfolding words.key is_jointless
returns-clause-reads g c = λ k.
    adds_taking (KeyOf c.args.span.lo c.args.sym.now) (words.key c.args.span c.args.sym.now) (maps_in g.C.Comments.maps c.args.comments.now) (maps_in g.C.Comments.maps c.key_text.new.comments) _ _ (Ok tt) (prints_key _ c.args.span c.args.sym.now k) refl
    (λ lines rest z r f. c.in_ok-leading_comments.ensures.items lines _ z r (c.in_ok-commit_pending_semi.ensures.items lines (maps_in g.C.Comments.maps c.leading_comments.new.comments) _ z r (c.in_ok-key_text.ensures.items lines rest z r f)))
