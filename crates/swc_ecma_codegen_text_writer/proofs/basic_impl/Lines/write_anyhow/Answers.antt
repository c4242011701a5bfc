use Rattle.std.proofs.Common.{◌≡◌, length, refl, sym, ◌∙◌, rules, None}
use Rattle.swc_ecma_codegen_text_writer.specs.View.{sheet_of}
use Rattle.swc_ecma_codegen_text_writer.proofs.Steps.{written_nil, writes_failed, writes_ok, writes_way}
use Rattle.swc_ecma_codegen_text_writer.proofs.basic_impl.Lines.write_anyhow.Goals as goal

pub returns-then-self : goal.returns-then-self
unfolding sheet_of
returns-then-self g c x e = writes_failed x _ c.if-self.true

pub returns-then-is_empty : goal.returns-then-is_empty
unfolding sheet_of
returns-then-is_empty g c x e =
    let h : length c.args.text.now ≡ 0 = search rules in
    writes_ok x _ _ c.if-self.false (written_nil None c.args.text.now _ h ∙ sym (e refl))

pub put_text-requires-clause-fresh : goal.put_text-requires-clause-fresh
unfolding sheet_of
put_text-requires-clause-fresh g c = c.if-self.false

pub returns : goal.returns
returns g c x e = writes_way x _ _ _ _ (sym (e (unfold sheet_of in refl))) (unfold sheet_of in refl) (unfold sheet_of in refl) (unfold sheet_of in c.if-self.false) c.put_text.ensures
