use Rattle.swc_ecma_codegen_grammar.specs.Comments.{no_maps}
use Rattle.swc_ecma_codegen_grammar.specs.SourceLines.{no_lines}
use Rattle.swc_ecma_codegen_tokens.specs.Adds.{comma_tokens}
use Rattle.swc_ecma_codegen_tokens.specs.Run.{with_source}
use Rattle.swc_ecma_codegen_tokens.proofs.Listing.ListsSoFar.{comma_nowhere, comma_there, no_tokens, other_tokens}
use Rattle.swc_ecma_codegen_tokens.proofs.Reading.SoFar.{formatting_space_so_far}
use Rattle.swc_ecma_codegen_tokens.proofs.LowerEmitter.comma_if.Goals as goal

pub returns-in_ok-formatting_space-clause-reads : goal.returns-in_ok-formatting_space-clause-reads
unfolding with_source
returns-in_ok-formatting_space-clause-reads g c = λ old tokens rs h.
    other_tokens old _ (comma_tokens c.args.wanted) tokens rs _ (comma_there c.args.wanted c.if-wanted.true)
    (formatting_space_so_far old _ rs _ _ (c.in_ok-formatting_space.ensures.items no_lines no_maps) (c.in_ok-punct.ensures.reads old tokens rs h))

pub returns-else-wanted-clause-reads : goal.returns-else-wanted-clause-reads
returns-else-wanted-clause-reads g c = λ old tokens rs h. no_tokens old (comma_tokens c.args.wanted) tokens rs _ (comma_nowhere c.args.wanted c.if-wanted.false) h
