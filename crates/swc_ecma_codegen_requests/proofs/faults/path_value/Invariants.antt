-- The items so far are those of the steps so far.
use Rattle.std.proofs.Common.{◌≡◌, map, take}
use Rattle.serde_json.specs.View.{view}
use Rattle.swc_ecma_codegen_requests.specs.Faults.{step_data}
use Rattle.swc_ecma_codegen_requests.proofs.faults.path_value.Given as goal

abbrev pub invariant-loop-step : goal.invariant-loop-step
invariant-loop-step l = map view l.items.items ≡ map step_data (take l.step-index l.path)
