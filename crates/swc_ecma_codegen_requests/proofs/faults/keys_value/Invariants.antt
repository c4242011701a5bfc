-- The items so far are those of the keys so far.
use Rattle.std.proofs.Common.{◌≡◌, map, take}
use Rattle.serde_json.specs.View.{view}
use Rattle.swc_ecma_codegen_requests.specs.Faults.{key_data}
use Rattle.swc_ecma_codegen_requests.proofs.faults.keys_value.Given as goal

abbrev pub invariant-loop-key : goal.invariant-loop-key
invariant-loop-key l = map view l.items.items ≡ map key_data (take l.key-index l.path)
