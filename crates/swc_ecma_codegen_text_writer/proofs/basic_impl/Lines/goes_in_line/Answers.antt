use Rattle.std.proofs.Common.{◌∙◌, sym, ap, length}
use Rattle.swc_ecma_codegen_text_writer.specs.Held.{notes_in}
use Rattle.swc_ecma_codegen_text_writer.specs.View.{sheet_of}
use Rattle.swc_ecma_codegen_text_writer.proofs.InPlace.{some_in_line}
use Rattle.swc_ecma_codegen_text_writer.proofs.basic_impl.Lines.goes_in_line.Goals as goal

pub goes_in_line_with-requires-clause-bare : goal.goes_in_line_with-requires-clause-bare
unfolding sheet_of
goes_in_line_with-requires-clause-bare g c = λ b. sym (ap (λ z. length (notes_in z)) c.in-Some.is) ∙ c.args.self.now.held_bare b

pub returns-in-Some : goal.returns-in-Some
returns-in-Some g c = some_in_line c.goes_in_line_with.result _ c.in-Some.held (sheet_of c.args.self.now) c.in-Some.is c.goes_in_line_with.ensures
