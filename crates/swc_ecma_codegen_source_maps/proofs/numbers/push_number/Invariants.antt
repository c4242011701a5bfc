use Rattle.std.proofs.Common.{◌+◌, ◌-◌}
use Rattle.std.specs.String.{string_bytes}
use Rattle.swc_ecma_codegen_source_maps.proofs.Digits.{NumberSoFar}
use Rattle.swc_ecma_codegen_source_maps.proofs.numbers.push_number.Given as goal

abbrev pub invariant-loop-rest : goal.invariant-loop-rest
invariant-loop-rest l = NumberSoFar l.number l.rest (string_bytes l.initial.text) (string_bytes l.text)

abbrev pub decreases-loop-rest : goal.decreases-loop-rest
decreases-loop-rest l = l.rest + 1 - 32
