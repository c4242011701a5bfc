use Rattle.swc_ecma_codegen_text_writer.proofs.InLine.{covered_by_ends}
use Rattle.swc_ecma_codegen_text_writer.proofs.positions.ends_in_line.Goals as goal

pub returns : goal.returns
returns g c =
    covered_by_ends g.row.N c.args.text.now _ _ c.run_in_line.ensures c.run_in_line-2.ensures c.requires.whole
