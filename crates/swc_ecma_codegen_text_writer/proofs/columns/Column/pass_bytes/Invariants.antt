use Rattle.std.proofs.Common.{◌<◌, ◌^◌, take}
use Rattle.swc_ecma_codegen_text_writer.specs.Places.{Place, after_text}
use Rattle.swc_ecma_codegen_text_writer.specs.Columns.{Stands}
use Rattle.swc_ecma_codegen_text_writer.proofs.columns.Column.pass_bytes.Given as goal

abbrev pub invariant-loop-byte : goal.invariant-loop-byte
invariant-loop-byte l = record {
  stands : (p : Place) → Stands l.fn.self.units p → Stands l.count (after_text (take l.byte-index l.text) p);
  few : l.count < 2 ^ 63;
}
