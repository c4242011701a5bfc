use Rattle.std.proofs.Common.{true, ap, sym, ◌∙◌}
use Rattle.swc_ecma_codegen_text_writer.specs.Held.{flow_of}
use Rattle.swc_ecma_codegen_text_writer.specs.Sheet.{Sheet, Segment, Filling, BeginLines, Writes, begun_by, effect}
use Rattle.swc_ecma_codegen_text_writer.specs.View.{sheet_of}
use Rattle.swc_ecma_codegen_text_writer.proofs.Steps.{writes_failed}
use Rattle.swc_ecma_codegen_text_writer.proofs.basic_impl.Lines.begin.Goals as goal

pub returns-then-self : goal.returns-then-self
unfolding sheet_of
returns-then-self g c = writes_failed (BeginLines c.args.max) _ c.if-self.true

pub returns-in-None : goal.returns-in-None
unfolding sheet_of Writes effect begun_by
returns-in-None g c =
    let s : Sheet = sheet_of c.args.self.now in
    (c.if-self.false, ap (λ (x : Segment). record s { lines = Filling c.args.max true x }) c.new.ensures.segment ∙ sym (ap (λ l. begun_by l c.args.max s) (ap flow_of c.in-None.is)))

pub returns-in-Some : goal.returns-in-Some
unfolding sheet_of Writes effect begun_by
returns-in-Some g c =
    let s : Sheet = sheet_of c.args.self.now in
    (c.if-self.false, sym (ap (λ l. begun_by l c.args.max s) (ap flow_of c.in-Some.is)))
