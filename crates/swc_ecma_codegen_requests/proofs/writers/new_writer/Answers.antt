use Rattle.std.proofs.Common.{◌∙◌, [], ap}
use Rattle.swc_ecma_codegen_text_writer.specs.Sheet.{Sheet}
use Rattle.swc_ecma_codegen_text_writer.specs.View.{keeping, new_sheet}
use Rattle.swc_ecma_codegen_requests.specs.Layouts.{new_line_text}
use Rattle.swc_ecma_codegen_requests.specs.Sheets.{sheet_by}
use Rattle.swc_ecma_codegen_requests.proofs.writers.new_writer.Goals as goal

-- it has no text yet, lines end so, and then they begin so
pub returns : goal.returns
unfolding sheet_by
returns g c =
    let ends = c.keeping_positions-writer.ensures.sheet ∙ ap (λ t. keeping [] (new_sheet t c.text-new_line.result.now)) c.new.ensures.items
    ∙ ap (λ t. keeping [] (new_sheet [] t)) c.text-new_line.ensures in
    c.set_indent_str.ensures.sheet ∙ ap (λ (s : Sheet). record s { indent_text = c.text.result.now }) ends
    ∙ ap (λ t. record (keeping [] (new_sheet [] (new_line_text c.args.layout.new_line))) { indent_text = t }) c.text.ensures
