use Rattle.std.proofs.Common.{◌≡◌, ◌++◌, length}
use Rattle.swc_ecma_codegen_text_writer.specs.Contents.{IsPrefix}
use Rattle.swc_ecma_codegen_text_writer.specs.Outlets.{bytes_so_far}
use Rattle.swc_ecma_codegen_text_writer.proofs.outlet.Outlet.write_bytes.Given as goal

abbrev pub invariant-loop-rest : goal.invariant-loop-rest
invariant-loop-rest g l = record {
  before : l.self.before ≡ l.fn.self.before;
  out : bytes_so_far l.self ++ l.rest ≡ bytes_so_far l.fn.self ++ l.bytes;
  logged : l.self.log.bytes ++ l.rest ≡ l.fn.self.log.bytes ++ l.bytes;
  grows : IsPrefix (bytes_so_far l.fn.self) (bytes_so_far l.self);
  faults : l.self.faults ≡ l.fn.self.faults;
}

abbrev pub decreases-loop-rest : goal.decreases-loop-rest
decreases-loop-rest g l = length l.rest
