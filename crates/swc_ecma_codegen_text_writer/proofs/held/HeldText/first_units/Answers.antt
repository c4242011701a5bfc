use Rattle.std.proofs.Common.{ap, sym, ◌∙◌, ◌^◌, min, string_bytes}
use Rattle.swc_ecma_codegen_text_writer.specs.Filling.{first_units}
use Rattle.swc_ecma_codegen_text_writer.specs.Reach.{is_in_line}
use Rattle.swc_ecma_codegen_text_writer.proofs.Noting.{text-of_segment}
use Rattle.swc_ecma_codegen_text_writer.proofs.held.HeldText.first_units.Goals as goal

pub units_in_line-requires : goal.units_in_line-requires
units_in_line-requires c = ap is_in_line c.as_str-text.ensures.value ∙ sym c.requires ∙ c.if-stays_in_line.true

pub returns-then-stays_in_line : goal.returns-then-stays_in_line
returns-then-stays_in_line c =
    let held = c.args.self.now in
    c.units_in_line.ensures ∙ ap (λ z. min (first_units z) (2 ^ 32)) (c.as_str-text.ensures.value ∙ sym (text-of_segment (string_bytes held.text) held.notes.items held.in_order))

pub returns : goal.returns
returns c =
    let held = c.args.self.now in
    c.first_units.ensures ∙ ap (λ z. min (first_units z) (2 ^ 32)) (c.as_str-text.ensures.value ∙ sym (text-of_segment (string_bytes held.text) held.notes.items held.in_order))
