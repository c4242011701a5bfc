use Rattle.swc_ecma_codegen_tokens.specs.Run.{with_source}
use Rattle.swc_ecma_codegen_grammar.specs.SourceLines.{no_lines}
use Rattle.swc_ecma_codegen_grammar.specs.Comments.{no_maps}
use Rattle.swc_ecma_codegen_literals.specs.Punctuators.{spelling}
use Rattle.swc_ecma_codegen_tokens.proofs.Gaps.Marks.{is_mark}
use Rattle.swc_ecma_codegen_tokens.specs.Words as words
use Rattle.swc_ecma_codegen_tokens.proofs.Reading.SoFar.{placed_punct_so_far}
use Rattle.swc_ecma_codegen_tokens.proofs.LowerEmitter.placed_punct.Goals as goal

pub returns-clause-reads : goal.returns-clause-reads
unfolding words.placed_punct with_source
returns-clause-reads g c = λ old tokens rs h. placed_punct_so_far c.args.span (spelling c.args.mark) old tokens rs _ _ (is_mark c.args.mark) (λ rest z r f. c.in_ok-guard_mark.ensures.items no_lines no_maps _ z r (c.in_ok-put_placed_punct.ensures.items no_lines no_maps rest z r f)) h
