use Rattle.std.proofs.Common.{take, map}
use Rattle.swc_ecma_codegen_grammar.proofs.ReadAll.{Progress}
use Rattle.swc_ecma_codegen_grammar.proofs.reader.read_tokens.Given as goal

abbrev pub invariant-loop-kind : goal.invariant-loop-kind
invariant-loop-kind l = Progress l.text (take l.kind-index l.kinds) (map (λ p. p.now) l.found.items) l.first l.joined l.rest
