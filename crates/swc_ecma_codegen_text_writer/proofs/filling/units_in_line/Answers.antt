use Rattle.std.proofs.Common.{arith}
use Rattle.swc_ecma_codegen_text_writer.proofs.Counting.{first_in_line}
use Rattle.swc_ecma_codegen_text_writer.proofs.filling.units_in_line.Goals as goal

pub returns : goal.returns
returns c =
    let e = first_in_line c.args.text.now c.requires in
    let m = c.min.ensures in
    omega (arith, e, m)
