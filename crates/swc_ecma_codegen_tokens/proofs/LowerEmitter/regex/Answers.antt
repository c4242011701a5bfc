use Rattle.swc_ecma_codegen_tokens.specs.Run.{with_source}
use Rattle.swc_ecma_codegen_grammar.specs.SourceLines.{no_lines}
use Rattle.swc_ecma_codegen_grammar.specs.Comments.{no_maps}
use Rattle.swc_ecma_codegen_tokens.specs.Literals as words
use Rattle.swc_ecma_codegen_tokens.proofs.Reading.TokensSoFar.{regex_so_far}
use Rattle.swc_ecma_codegen_tokens.proofs.LowerEmitter.regex.Goals as goal

pub returns-clause-reads : goal.returns-clause-reads
unfolding words.regex with_source
returns-clause-reads g c = λ u v s old tokens rs h. regex_so_far c.args.exp.now c.args.flags.now old tokens rs _ _ u v s (λ rest z r f. c.in_ok-guard_mark.ensures.items no_lines no_maps _ z r (c.in_ok-put_slash.ensures.items no_lines no_maps _ z r (c.in_ok-put_pattern.ensures.items no_lines no_maps _ z r (c.in_ok-put_slash-2.ensures.items no_lines no_maps _ z r (c.in_ok-put_flags.ensures.items no_lines no_maps rest z r f))))) h
