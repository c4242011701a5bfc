use Rattle.std.proofs.Common.{◌≡◌, drop}
use Rattle.swc_ecma_codegen_syntax.specs.CallForms.{no_spread}
use Rattle.swc_ecma_codegen_syntax.proofs.calls.no_spread.Given as goal

abbrev pub invariant-loop-arg : goal.invariant-loop-arg
invariant-loop-arg g l = no_spread l.args ≡ no_spread (drop l.arg-index l.args)
