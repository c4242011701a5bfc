-- The members so far are those of the positions so far, whose comments are taken out.
use Rattle.std.proofs.Common.{◌≡◌}
use Rattle.std.specs.List.{fold}
use Rattle.serde_json.specs.Data.{no_members}
use Rattle.serde_json.specs.View.{members_view}
use Rattle.swc_ecma_codegen_requests.specs.Remarks.{entries, other, with_left, Left}
use Rattle.swc_ecma_codegen_requests.proofs.MapsIn.{maps_in}
use Rattle.swc_ecma_codegen_requests.proofs.remarks.left_on.Given as goal

abbrev pub invariant-loop-pos : goal.invariant-loop-pos
invariant-loop-pos l =
    let left : Left = record { entries = entries l.side (maps_in l.maps); members = members_view l.members.entries } in
    (left ≡ fold with_left (record { entries = entries l.side (maps_in l.fn.maps); members = no_members }) l.yielded)
    × (entries (other l.side) (maps_in l.maps) ≡ entries (other l.side) (maps_in l.fn.maps))
