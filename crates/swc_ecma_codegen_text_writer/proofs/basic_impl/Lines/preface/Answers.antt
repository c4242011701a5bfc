use Rattle.std.proofs.Common.{refl, inl}
use Rattle.swc_ecma_codegen_text_writer.specs.View.{sheet_of, Prefaces}
use Rattle.swc_ecma_codegen_text_writer.proofs.Steps.{prefaced}
use Rattle.swc_ecma_codegen_text_writer.proofs.basic_impl.Lines.preface.Goals as goal

pub returns-then-self : goal.returns-then-self
unfolding sheet_of Prefaces
returns-then-self g c = inl (c.if-self.true, (refl, refl))

pub send-requires : goal.send-requires
unfolding sheet_of
send-requires g c = c.if-self.false

pub returns : goal.returns
returns g c = prefaced c.args.text.now (sheet_of c.args.self.now) _ _ (unfold sheet_of in c.if-self.false) c.send.ensures
