use Rattle.swc_ecma_codegen_tokens.specs.Run.{with_source}
use Rattle.swc_ecma_codegen_grammar.specs.SourceLines.{no_lines}
use Rattle.swc_ecma_codegen_grammar.specs.Comments.{no_maps}
use Rattle.swc_ecma_codegen_tokens.specs.Literals as words
use Rattle.swc_ecma_codegen_tokens.proofs.Reading.TokensSoFar.{big_integer_so_far}
use Rattle.swc_ecma_codegen_tokens.proofs.LowerEmitter.big_integer.Goals as goal

pub returns-clause-reads : goal.returns-clause-reads
unfolding words.big_integer with_source
returns-clause-reads g c = λ u s old tokens rs h. big_integer_so_far c.args.span c.args.text.now old tokens rs _ _ u s (λ rest z r f. c.in_ok-guard.ensures.items no_lines no_maps _ z r (c.in_ok-put_big_integer.ensures.items no_lines no_maps rest z r f)) h
