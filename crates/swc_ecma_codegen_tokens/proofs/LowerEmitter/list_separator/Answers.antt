use Rattle.swc_ecma_codegen_grammar.specs.Comments.{no_maps}
use Rattle.swc_ecma_codegen_grammar.specs.SourceLines.{no_lines}
use Rattle.swc_ecma_codegen_tokens.specs.Run.{with_source}
use Rattle.swc_ecma_codegen_tokens.proofs.Listing.ListsSoFar.{line_or_blank_so_far}
use Rattle.swc_ecma_codegen_tokens.proofs.LowerEmitter.list_separator.Goals as goal

pub returns-clause-reads : goal.returns-clause-reads
unfolding with_source
returns-clause-reads g c = λ old tokens rs h. line_or_blank_so_far _ _ old _ rs _ _ (c.in_ok-line_or_blank.ensures.items no_lines no_maps) (c.in_ok-delimiter.ensures.reads old tokens rs h)
