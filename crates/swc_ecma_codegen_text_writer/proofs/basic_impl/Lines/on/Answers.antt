use Rattle.std.proofs.Common.{true, false, codes}
use Rattle.std.specs.Str.{is_utf8}
use Rattle.swc_ecma_codegen_text_writer.specs.Sheet.{AtOnce, Flowing}
use Rattle.swc_ecma_codegen_text_writer.specs.View.{sheet_of}
use Rattle.swc_ecma_codegen_text_writer.proofs.Steps.{new_place}
use Rattle.swc_ecma_codegen_text_writer.proofs.basic_impl.Lines.on.Goals as goal

pub returns-clause-sheet : goal.returns-clause-sheet
unfolding sheet_of
returns-clause-sheet g c = λ i. record {
  text = c.new.ensures.bytes i;
  whole = is_utf8 (c.new.ensures.bytes i);
  at_line_start = true;
  indentation = 0;
  line_end = c.args.new_line.now;
  indent_text = codes "    ";
  semicolons = AtOnce;
  keeps_positions = g.K.KeepsPositions.keeps c.args.kept;
  pairs = g.K.KeepsPositions.pairs c.args.kept;
  pending = c.requires.pending i;
  place = new_place _ c.new.ensures.logged i;
  lines = Flowing;
  faults = c.new.ensures.faults i;
  refused = false;
  takes_memory = g.K.KeepsPositions.keeps c.args.kept;
  keeps_invalid = false;
}
