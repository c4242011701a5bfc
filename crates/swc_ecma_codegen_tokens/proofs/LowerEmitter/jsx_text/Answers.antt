use Rattle.swc_ecma_codegen_tokens.specs.Run.{with_source}
use Rattle.swc_ecma_codegen_grammar.specs.SourceLines.{no_lines}
use Rattle.swc_ecma_codegen_grammar.specs.Comments.{no_maps}
use Rattle.swc_ecma_codegen_tokens.specs.Tags as tags
use Rattle.swc_ecma_codegen_tokens.proofs.Reading.SoFar.{text_so_far}
use Rattle.swc_ecma_codegen_tokens.proofs.LowerEmitter.jsx_text.Goals as goal

pub returns-clause-reads : goal.returns-clause-reads
unfolding tags.jsx_text with_source
returns-clause-reads g c = λ u n old tokens rs h. text_so_far c.args.span c.args.text.now old tokens rs _ _ u n (λ rest z r f. c.in_ok-put_jsx_text.ensures.items no_lines no_maps rest z r f) h
