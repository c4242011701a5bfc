use Rattle.std.proofs.Common.{◌≡◌, false, refl, sym}
use Rattle.swc_ecma_codegen_text_writer.specs.View.{sheet_of}
use Rattle.swc_ecma_codegen_text_writer.proofs.Steps.{reaches_to, writes_way, written_begun}
use Rattle.swc_ecma_codegen_text_writer.proofs.basic_impl.Lines.sends_known_bytes.Goals as goal

pub returns : goal.returns
returns g c x e =
    let s = sheet_of c.args.self.now in
    let in_line : s.at_line_start ≡ false = unfold sheet_of in c.args.self.now.plain_in_line c.requires.plain in
    let fresh : s.refused ≡ false = unfold sheet_of in c.args.self.now.plain_fresh c.requires.plain in
    writes_way x _ _ _ _ (sym (e (unfold sheet_of in refl))) (unfold sheet_of in refl) (unfold sheet_of in refl) fresh
    (reaches_to _ _ _ _ _ (written_begun c.args.text.now s in_line) c.sends_known_by_length.ensures)
