use Rattle.std.proofs.Common.{◌≡◌, drop}
use Rattle.swc_ecma_codegen_syntax.specs.Forms.{verdict_all}
use Rattle.swc_ecma_codegen_syntax.proofs.forms.all.Given as goal

abbrev pub invariant-loop-node : goal.invariant-loop-node
invariant-loop-node g l =
    verdict_all (g.T.Stands.judged l.parameters) l.fn.so_far l.nodes ≡ verdict_all (g.T.Stands.judged l.parameters) l.verdict (drop l.node-index l.nodes)
