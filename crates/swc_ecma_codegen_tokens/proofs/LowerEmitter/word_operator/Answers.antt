use Rattle.swc_ecma_codegen_tokens.specs.Run.{with_source}
use Rattle.swc_ecma_codegen_grammar.specs.SourceLines.{no_lines}
use Rattle.swc_ecma_codegen_grammar.specs.Comments.{no_maps}
use Rattle.swc_ecma_codegen_tokens.specs.Words as words
use Rattle.swc_ecma_codegen_tokens.proofs.Reading.SoFar.{word_operator_so_far}
use Rattle.swc_ecma_codegen_tokens.proofs.LowerEmitter.word_operator.Goals as goal

pub returns-clause-reads : goal.returns-clause-reads
unfolding words.word_operator with_source
returns-clause-reads g c = λ w old tokens rs h. word_operator_so_far c.args.text.now old tokens rs _ _ w (λ rest z r f. c.in_ok-guard_word.ensures.items no_lines no_maps _ z r (c.in_ok-put_word_operator.ensures.items no_lines no_maps rest z r f)) h
