use Rattle.std.proofs.Common.{ap, sym, ◌∙◌, string_bytes}
use Rattle.swc_ecma_codegen_text_writer.specs.Reach.{is_in_line}
use Rattle.swc_ecma_codegen_text_writer.specs.Sheet.{released}
use Rattle.swc_ecma_codegen_text_writer.specs.View.{sheet_of}
use Rattle.swc_ecma_codegen_text_writer.proofs.Noting.{bare-released}
use Rattle.swc_ecma_codegen_text_writer.proofs.Steps.{reaches_to}
use Rattle.swc_ecma_codegen_text_writer.proofs.basic_impl.Lines.release_in_line.Goals as goal

pub release_known-requires-clause-looked : goal.release_known-requires-clause-looked
release_known-requires-clause-looked g c = sym (ap is_in_line c.as_str.ensures.value ∙ c.requires.looked)

pub returns : goal.returns
returns g c =
    let held = c.args.held.now in
    let s = sheet_of c.args.self.now in
    reaches_to _ _ _ _ _ (ap (λ t. released t s) c.as_str.ensures.value ∙ bare-released (string_bytes held.text) held.notes.items s c.requires.bare) c.release_known.ensures
