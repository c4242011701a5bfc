-- The sheet on which a text is made.
use Rattle.std.specs.Prelude.{[]}
use Rattle.swc_ecma_codegen_text_writer.specs.Sheet.{Sheet}
use Rattle.swc_ecma_codegen_text_writer.specs.View.{keeping, new_sheet}
use Rattle.swc_ecma_codegen_requests.specs.Layouts.{indent_text, new_line_text}
use Rattle.swc_ecma_codegen_requests.specs.declared.layouts.Layout.{Layout}

-- a new one without a text, which keeps positions, and whose lines begin and end so
unfoldable pub sheet_by : Layout → Sheet
sheet_by layout = record (keeping [] (new_sheet [] (new_line_text layout.new_line))) { indent_text = indent_text layout.indent }
