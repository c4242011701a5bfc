use Rattle.std.proofs.Common.{◌∙◌, ap, refl, sym}
use Rattle.std.specs.Str.{is_utf8}
use Rattle.swc_ecma_codegen_text_writer.specs.Contents.{or_empty}
use Rattle.swc_ecma_codegen_requests.proofs.emissions.Page.of_writer.Goals as goal

pub returns-clause-text : goal.returns-clause-text
returns-clause-text g c = ap or_empty (c.into_parts-text.ensures.text refl)

pub returns-clause-whole : goal.returns-clause-whole
returns-clause-whole g c = ap is_utf8 (ap or_empty (c.into_parts-text.ensures.text refl)) ∙ sym c.into_parts-text.ensures.whole
