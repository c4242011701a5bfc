use Rattle.std.proofs.Common.{refl, sym}
use Rattle.swc_ecma_codegen_text_writer.specs.View.{sheet_of}
use Rattle.swc_ecma_codegen_text_writer.proofs.Steps.{reaches_to, writes_way, written_in_line}
use Rattle.swc_ecma_codegen_text_writer.proofs.basic_impl.Lines.write_begun.Goals as goal

pub returns : goal.returns
returns g c x e =
    let s = sheet_of c.args.self.now in
    writes_way x _ _ _ _ (sym (e (unfold sheet_of in refl))) (unfold sheet_of in refl) (unfold sheet_of in refl) c.requires.fresh
    (reaches_to _ _ _ _ _ (written_in_line c.args.text.now s c.requires.some c.requires.begun) c.hold.ensures)
