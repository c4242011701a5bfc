use Rattle.swc_ecma_codegen_tokens.specs.Run.{with_source}
use Rattle.swc_ecma_codegen_grammar.specs.SourceLines.{no_lines}
use Rattle.swc_ecma_codegen_grammar.specs.Comments.{no_maps}
use Rattle.swc_ecma_codegen_literals.specs.Punctuators.{spelling}
use Rattle.swc_ecma_codegen_tokens.specs.Tags as tags
use Rattle.swc_ecma_codegen_tokens.proofs.Reading.SoFar.{open_so_far}
use Rattle.swc_ecma_codegen_tokens.proofs.LowerEmitter.child_open.Goals as goal

pub returns-clause-reads : goal.returns-clause-reads
unfolding tags.child_open with_source
returns-clause-reads g c = λ o old tokens rs h. open_so_far (spelling c.args.mark) old tokens rs _ _ o (λ rest z r f. c.in_ok-put_child_open.ensures.items no_lines no_maps rest z r f) h
