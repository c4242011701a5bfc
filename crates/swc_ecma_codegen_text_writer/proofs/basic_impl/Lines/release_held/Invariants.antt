use Rattle.std.proofs.Common.{drop, string_bytes}
use Rattle.std.specs.Str.{IsCharBoundary}
use Rattle.swc_ecma_codegen_text_writer.specs.View.{sheet_of}
use Rattle.swc_ecma_codegen_text_writer.proofs.Noting.{Left}
use Rattle.swc_ecma_codegen_text_writer.proofs.Sheets.{Alike}
use Rattle.swc_ecma_codegen_text_writer.proofs.Stays.{Stays}
use Rattle.swc_ecma_codegen_text_writer.proofs.basic_impl.Lines.release_held.Given as goal

abbrev pub invariant-loop-note : goal.invariant-loop-note
invariant-loop-note g l = record {
  left : Left (string_bytes l.held.text) l.from (drop l.note-index l.held.notes.items) l.held.notes.items (sheet_of l.self) (sheet_of l.fn.self);
  alike : Alike (sheet_of l.fn.self) (sheet_of l.self);
  stays : Stays (sheet_of l.fn.self) (sheet_of l.self);
  cut : IsCharBoundary (string_bytes l.held.text) l.from;
}
