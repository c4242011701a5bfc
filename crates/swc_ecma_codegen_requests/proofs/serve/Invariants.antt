-- The lines so far were answered.
use Rattle.std.proofs.Common.{IfSome}
use Rattle.swc_ecma_codegen_requests.specs.Serves.{Served}
use Rattle.swc_ecma_codegen_requests.proofs.serve.Given as goal

abbrev pub invariant-loop : goal.invariant-loop
invariant-loop g l = IfSome (g.R.Read.remaining l.initial.input) (λ all. Served all (g.R.Read.remaining l.input) (g.W.Write.contents l.initial.out) (g.W.Write.contents l.out))
