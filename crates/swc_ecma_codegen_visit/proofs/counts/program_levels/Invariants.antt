use Rattle.std.proofs.Common.{◌≡◌}
use Rattle.swc_ecma_codegen_visit.proofs.counts.program_levels.Given as goal

abbrev pub invariant-loop : goal.invariant-loop
invariant-loop l = record { same : l.program ≡ l.fn.program }
