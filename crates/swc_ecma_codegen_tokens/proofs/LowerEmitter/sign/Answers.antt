use Rattle.swc_ecma_codegen_grammar.specs.Comments.{no_maps}
use Rattle.swc_ecma_codegen_grammar.specs.SourceLines.{no_lines}
use Rattle.swc_ecma_codegen_tokens.specs.Adds.{sign_tokens}
use Rattle.swc_ecma_codegen_tokens.specs.Literals as words
use Rattle.swc_ecma_codegen_tokens.specs.Run.{with_source}
use Rattle.swc_ecma_codegen_tokens.proofs.Listing.ListsSoFar.{no_sign, no_tokens, other_tokens, sign_there}
use Rattle.swc_ecma_codegen_tokens.proofs.Reading.TokensSoFar.{minus_so_far}
use Rattle.swc_ecma_codegen_tokens.proofs.LowerEmitter.sign.Goals as goal

pub returns-in_ok-put_sign-clause-reads : goal.returns-in_ok-put_sign-clause-reads
unfolding words.sign with_source
returns-in_ok-put_sign-clause-reads g c = λ old tokens rs h.
    other_tokens old _ (sign_tokens c.args.negative) tokens rs _ (sign_there c.args.negative c.if-negative.true)
    (minus_so_far c.args.span old tokens rs _ _ (λ rest z r f. c.in_ok-guard_mark.ensures.items no_lines no_maps _ z r (c.in_ok-put_sign.ensures.items no_lines no_maps rest z r f)) h)

pub returns-else-negative-clause-reads : goal.returns-else-negative-clause-reads
returns-else-negative-clause-reads g c = λ old tokens rs h. no_tokens old (sign_tokens c.args.negative) tokens rs _ (no_sign c.args.negative c.if-negative.false) h
