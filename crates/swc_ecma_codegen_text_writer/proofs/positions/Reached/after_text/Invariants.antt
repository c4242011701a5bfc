use Rattle.std.proofs.Common.{take}
use Rattle.swc_ecma_codegen_text_writer.specs.Places.{Place, after_text}
use Rattle.swc_ecma_codegen_text_writer.specs.Reach.{Shows, IsFrom}
use Rattle.swc_ecma_codegen_text_writer.proofs.positions.Reached.after_text.Given as goal

abbrev pub invariant-loop-byte : goal.invariant-loop-byte
invariant-loop-byte l = record {
  shows : (p : Place) → Shows l.fn.self p → Shows l.reached (after_text (take l.byte-index l.text) p);
  order : IsFrom l.fn.self l.reached;
}
