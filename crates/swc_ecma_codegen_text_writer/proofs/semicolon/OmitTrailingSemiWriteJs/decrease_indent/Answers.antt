use Rattle.swc_ecma_codegen_text_writer.proofs.Semicolons.{settled_depth}
use Rattle.swc_ecma_codegen_text_writer.proofs.semicolon.OmitTrailingSemiWriteJs.decrease_indent.Goals as goal

pub decrease_indent-requires : goal.decrease_indent-requires
decrease_indent-requires g c = rw (settled_depth _ _ _ _ c.in_ok-settle.ensures.settles) c.requires
