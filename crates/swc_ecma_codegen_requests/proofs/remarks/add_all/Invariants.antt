-- The comments of the positions so far were put in.
use Rattle.std.proofs.Common.{◌≡◌}
use Rattle.swc_ecma_codegen_requests.specs.Remarks.{positions, with_all}
use Rattle.swc_ecma_codegen_requests.proofs.MapsIn.{maps_in}
use Rattle.swc_ecma_codegen_requests.proofs.remarks.add_all.Given as goal

abbrev pub invariant-loop-pos : goal.invariant-loop-pos
invariant-loop-pos l = (maps_in l.maps ≡ with_all l.side l.yielded (maps_in l.fn.maps)) × (l.places.items ≡ positions l.yielded)
