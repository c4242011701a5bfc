use Rattle.std.proofs.Common.{ap, is_some, ◌∙◌}
use Rattle.swc_ecma_codegen_text_writer.specs.Contents.{or_empty}
use Rattle.swc_ecma_codegen_text_writer.specs.View.{new_sheet}
use Rattle.swc_ecma_codegen_text_writer.proofs.basic_impl.JsWriter+W.new.Goals as goal

pub returns-clause-sheet : goal.returns-clause-sheet
returns-clause-sheet g c e =
    let kept = c.new.ensures.keeps ∙ ap is_some e in
    c.on.ensures.sheet
    ∙ (λ i. record (new_sheet (or_empty (g.W.Write.contents c.args.wr)) c.args.new_line.now) { keeps_positions = kept i; pairs = c.new.ensures.none e i; takes_memory = kept i })

pub returns-clause-positions : goal.returns-clause-positions
returns-clause-positions g c list e =
    let kept = c.new.ensures.keeps ∙ ap is_some e in
    c.on.ensures.sheet
    ∙ (λ i. record (new_sheet (or_empty (g.W.Write.contents c.args.wr)) c.args.new_line.now) { keeps_positions = kept i; pairs = c.new.ensures.some list e i; takes_memory = kept i })
