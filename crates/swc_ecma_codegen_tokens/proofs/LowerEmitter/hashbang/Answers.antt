use Rattle.swc_ecma_codegen_tokens.specs.Run.{with_source}
use Rattle.swc_ecma_codegen_grammar.specs.SourceLines.{no_lines}
use Rattle.swc_ecma_codegen_grammar.specs.Comments.{no_maps}
use Rattle.swc_ecma_codegen_tokens.specs.Literals as words
use Rattle.swc_ecma_codegen_tokens.proofs.Reading.TokensSoFar.{hashbang_so_far}
use Rattle.swc_ecma_codegen_tokens.proofs.LowerEmitter.hashbang.Goals as goal

pub returns-clause-reads : goal.returns-clause-reads
unfolding words.hashbang with_source
returns-clause-reads g c = λ n m u o. hashbang_so_far c.args.text.now _ _ n m u o (λ rest z r f. c.in_ok-put_hashbang_mark.ensures.items no_lines no_maps _ z r (c.in_ok-put_hashbang_text.ensures.items no_lines no_maps _ z r (c.in_ok-line.ensures.items no_lines no_maps rest z r f)))
