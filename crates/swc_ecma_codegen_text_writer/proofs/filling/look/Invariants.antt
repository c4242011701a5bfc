use Rattle.std.proofs.Common.{◌≡◌, ◌+◌, ◌*◌, ◌≤◌, take, drop}
use Rattle.swc_ecma_codegen_text_writer.specs.Places.{Place, after_text}
use Rattle.swc_ecma_codegen_text_writer.specs.Filling.{first_units}
use Rattle.swc_ecma_codegen_text_writer.proofs.filling.look.Given as goal

abbrev pub invariant-loop-byte : goal.invariant-loop-byte
invariant-loop-byte l = record {
  column : 14 ≤ l.least → (p : Place) → (after_text (take l.byte-index l.text) p).column ≡ p.column + l.count;
  units : 14 ≤ l.least → l.count + first_units (drop l.byte-index l.text) ≡ first_units l.text;
  few : l.count ≤ 2 * l.byte-index;
}
