use Rattle.std.proofs.Common.{◌≡◌, ◌+◌, ◌≤◌, ◌^◌, min, drop}
use Rattle.swc_ecma_codegen_text_writer.specs.Filling.{first_units}
use Rattle.swc_ecma_codegen_text_writer.proofs.filling.first_units_by_bytes.Given as goal

abbrev pub invariant-loop-byte : goal.invariant-loop-byte
invariant-loop-byte l = record {
  all : min (l.count + first_units (drop l.byte-index l.text)) (2 ^ 32) ≡ min (first_units l.text) (2 ^ 32);
  few : l.count ≤ 2 ^ 32;
}
