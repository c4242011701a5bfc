-- The items so far are those of the positions so far.
use Rattle.std.proofs.Common.{◌≡◌, map, take}
use Rattle.serde_json.specs.View.{view}
use Rattle.swc_ecma_codegen_requests.specs.Members.{position_data}
use Rattle.swc_ecma_codegen_requests.proofs.members.positions_value.Given as goal

abbrev pub invariant-loop-pair : goal.invariant-loop-pair
invariant-loop-pair l = map view l.items.items ≡ map position_data (take l.pair-index l.positions)
