use Rattle.std.proofs.Common.{◌≡◌, ◌<◌, length, false, refl, sym, ◌∙◌, rules}
use Rattle.swc_ecma_codegen_text_writer.specs.View.{sheet_of}
use Rattle.swc_ecma_codegen_text_writer.proofs.Steps.{reaches_to, writes_ok, writes_way, literal_nil, literal_in_line}
use Rattle.swc_ecma_codegen_text_writer.proofs.basic_impl.Lines.send_literal.Goals as goal

pub returns-then-is_empty : goal.returns-then-is_empty
unfolding sheet_of
returns-then-is_empty g c x e =
    let h : length c.args.text.now ≡ 0 = search rules in
    writes_ok x _ _ (c.args.self.now.plain_fresh c.requires.plain) (literal_nil c.args.span c.args.text.now _ h ∙ sym (e refl))

pub returns : goal.returns
returns g c x e =
    let s = sheet_of c.args.self.now in
    let some : 0 < length c.args.text.now = search rules in
    let in_line : s.at_line_start ≡ false = unfold sheet_of in c.args.self.now.plain_in_line c.requires.plain in
    let fresh : s.refused ≡ false = unfold sheet_of in c.args.self.now.plain_fresh c.requires.plain in
    writes_way x _ _ _ _ (sym (e (unfold sheet_of in refl))) (unfold sheet_of in refl) (unfold sheet_of in refl) fresh
    (reaches_to _ _ _ _ _ (literal_in_line c.args.span c.args.text.now s some in_line c.requires.bare) c.send_by_length.ensures)
