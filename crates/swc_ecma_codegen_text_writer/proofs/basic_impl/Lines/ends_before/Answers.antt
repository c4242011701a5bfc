use Rattle.std.proofs.Common.{◌≡◌, ◌^◌, min, ap, sym, ◌∙◌, arith}
use Rattle.swc_ecma_codegen_text_writer.specs.Filling.{is_due, first_units}
use Rattle.swc_ecma_codegen_text_writer.specs.Held.{segment_in}
use Rattle.swc_ecma_codegen_text_writer.specs.Sheet.{Sheet, Segment, text_in, ends_before}
use Rattle.swc_ecma_codegen_text_writer.specs.View.{sheet_of}
use Rattle.swc_ecma_codegen_text_writer.proofs.Flushes.{ends-first, ends-later, due_counted}
use Rattle.swc_ecma_codegen_text_writer.proofs.basic_impl.Lines.ends_before.Goals as goal

pub returns-then-held : goal.returns-then-held
returns-then-held g c =
    let h = c.args.held.now in
    let s : Sheet = sheet_of c.args.self.now in
    let x : Segment = segment_in h.segment in
    sym (ap (λ f. ends_before h.max f x s) c.if-held.true ∙ ends-first h.max x s)

pub returns : goal.returns
unfolding sheet_of
returns g c =
    let h = c.args.held.now in
    let s : Sheet = sheet_of c.args.self.now in
    let x : Segment = segment_in h.segment in
    let column : c.units.result ≡ min s.place.column (2 ^ 32) = c.units.ensures s.place (c.args.self.now.shown c.requires.fresh) in
    c.is_due.ensures ∙ (ap (λ z. is_due h.max z c.first_units.result) column ∙ (ap (is_due h.max (min s.place.column (2 ^ 32))) c.first_units.ensures ∙ (due_counted h.max s.place.column (first_units (text_in x)) (omega arith)
    ∙ sym (ap (λ f. ends_before h.max f x s) c.if-held.false ∙ ends-later h.max x s))))

pub is_due-requires-clause-column : goal.is_due-requires-clause-column
unfolding sheet_of
is_due-requires-clause-column g c =
    let s : Sheet = sheet_of c.args.self.now in
    let a = c.units.ensures s.place (c.args.self.now.shown c.requires.fresh) in omega (arith, a)
