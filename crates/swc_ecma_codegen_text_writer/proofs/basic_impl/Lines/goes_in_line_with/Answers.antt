use Rattle.std.proofs.Common.{sym, ◌∙◌}
use Rattle.swc_ecma_codegen_text_writer.specs.InPlace.{GoesInLine, IsHeldInLine}
use Rattle.swc_ecma_codegen_text_writer.specs.View.{sheet_of}
use Rattle.swc_ecma_codegen_text_writer.proofs.basic_impl.Lines.goes_in_line_with.Goals as goal

pub ends_before-requires-clause-looked : goal.ends_before-requires-clause-looked
ends_before-requires-clause-looked g c = sym c.if-not-stays_in_line.false ∙ c.stays_in_line.ensures

pub returns : goal.returns
unfolding GoesInLine IsHeldInLine sheet_of
returns g c = (
  (sym c.stays_in_line.ensures ∙ c.if-not-stays_in_line.false, sym c.is_kept.ensures ∙ c.if-is_kept.false),
  (c.requires.bare (sym c.is_kept.ensures ∙ c.if-is_kept.false), sym c.ends_before.ensures),
)
