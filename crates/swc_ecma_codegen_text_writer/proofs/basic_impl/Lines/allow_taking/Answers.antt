use Rattle.std.proofs.Common.{◌≡◌, refl, ap, sym, ◌∙◌, length}
use Rattle.swc_ecma_codegen_text_writer.specs.Held.{flow_of, notes_in, segment_in}
use Rattle.swc_ecma_codegen_text_writer.specs.Sheet.{Sheet, Segment, Flow, Flowing, Filling, AllowBreak, fills_lines}
use Rattle.swc_ecma_codegen_text_writer.specs.View.{sheet_of}
use Rattle.swc_ecma_codegen_text_writer.proofs.Flushes.{reaches_lines, allowed_sheet, allowed_not}
use Rattle.swc_ecma_codegen_text_writer.proofs.Steps.{writes_ok, writes_way}
use Rattle.swc_ecma_codegen_text_writer.proofs.basic_impl.Lines.allow_taking.Goals as goal

pub allow_after-requires-clause-fresh : goal.allow_after-requires-clause-fresh
unfolding sheet_of
allow_after-requires-clause-fresh g c = c.requires

pub allow_after-requires-clause-bare : goal.allow_after-requires-clause-bare
unfolding sheet_of
allow_after-requires-clause-bare g c = λ b. ap (λ z. length (notes_in z)) c.in-Some.ensures.value ∙ c.args.self.now.held_bare b

pub returns-in-None : goal.returns-in-None
unfolding sheet_of
returns-in-None g c =
    let s : Sheet = sheet_of c.args.self.now in
    let none : s.lines ≡ Flowing = ap flow_of (sym c.in-None.ensures.value) in
    writes_ok AllowBreak s _ c.requires (ap (λ z. record s { lines = flow_of z }) (c.in-None.ensures.after ∙ c.in-None.ensures.value) ∙ allowed_not s refl none)

pub returns-in-Some : goal.returns-in-Some
unfolding sheet_of
returns-in-Some g c =
    let s : Sheet = sheet_of c.args.self.now in
    let h = c.in-Some.held in
    let x : Segment = segment_in h.segment in
    let some : s.lines ≡ Filling h.max h.first x = ap flow_of (sym c.in-Some.ensures.value) in
    let l : Flow = flow_of c.take.new.self in
    writes_way AllowBreak _ s _ _ (allowed_sheet h.max h.first x l s refl some) refl refl c.requires
    (reaches_lines l _ s _ _ (ap fills_lines some) c.allow_after.ensures)
