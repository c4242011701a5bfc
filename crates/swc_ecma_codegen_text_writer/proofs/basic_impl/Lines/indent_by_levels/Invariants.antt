use Rattle.std.proofs.Common.{◌≡◌, ◌≤◌}
use Rattle.swc_ecma_codegen_text_writer.specs.Sheet.{indented}
use Rattle.swc_ecma_codegen_text_writer.specs.View.{sheet_of}
use Rattle.swc_ecma_codegen_text_writer.proofs.basic_impl.Lines.indent_by_levels.Given as goal

abbrev pub invariant-loop : goal.invariant-loop
invariant-loop g l = record {
  sheet : sheet_of l.self ≡ indented l.counter (sheet_of l.fn.self);
  indent_text : l.indent_str ≡ (sheet_of l.fn.self).indent_text;
  end : l.end ≡ (sheet_of l.fn.self).indentation;
  within : l.counter ≤ l.end;
}
