-- The comments so far were put in.
use Rattle.std.proofs.Common.{◌≡◌}
use Rattle.swc_ecma_codegen_requests.specs.Remarks.{with_list}
use Rattle.swc_ecma_codegen_requests.proofs.MapsIn.{maps_in}
use Rattle.swc_ecma_codegen_requests.proofs.remarks.add_list.Given as goal

abbrev pub invariant-loop-remark : goal.invariant-loop-remark
invariant-loop-remark l = maps_in l.maps ≡ with_list l.side l.pos.0 l.yielded (maps_in l.fn.maps)
