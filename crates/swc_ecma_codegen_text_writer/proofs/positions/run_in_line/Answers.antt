use Rattle.std.proofs.Common.{ltb, w8}
use Rattle.std.proofs.lemmas.Simd.{bitmask_splat, length-chunk}
use lib.Lanes.{chunk}
use Rattle.swc_ecma_codegen_text_writer.proofs.InLine.{two_masks, late_mask}
use Rattle.swc_ecma_codegen_text_writer.proofs.positions.run_in_line.Goals as goal

pub returns : goal.returns
returns g c =
    let n = g.row.N in
    let v = chunk c.args.at n c.args.text.now in
    let long = length-chunk c.args.at n c.args.text.now c.requires.within in
    two_masks _ _ v (bitmask_splat w8 ltb v n 14 long c.requires.lanes.1) (late_mask v n 127 long c.requires.lanes.1)
