use Rattle.swc_ecma_codegen_tokens.specs.Run.{with_source}
use Rattle.swc_ecma_codegen_grammar.specs.SourceLines.{no_lines}
use Rattle.swc_ecma_codegen_grammar.specs.Comments.{no_maps}
use Rattle.swc_ecma_codegen_tokens.specs.Tags as tags
use Rattle.swc_ecma_codegen_tokens.proofs.Reading.SoFar.{close_so_far, tag_end_so_far}
use Rattle.swc_ecma_codegen_tokens.proofs.LowerEmitter.close.Goals as goal

pub returns-clause-reads : goal.returns-clause-reads
unfolding tags.close with_source
returns-clause-reads g c = λ old tokens rs h. close_so_far old tokens rs _ _ (λ rest z r f. c.in_ok-guard_mark.ensures.items no_lines no_maps _ z r (c.in_ok-put_close.ensures.items no_lines no_maps rest z r f)) h

pub returns-clause-in_tag : goal.returns-clause-in_tag
unfolding tags.close with_source
returns-clause-in_tag g c = λ old tokens rs h. tag_end_so_far old tokens rs _ _ (λ rest z r f. c.in_ok-guard_mark.ensures.items no_lines no_maps _ z r (c.in_ok-put_close.ensures.items no_lines no_maps rest z r f)) h
