use Rattle.swc_ecma_codegen_text_writer.specs.View.{sheet_of}
use Rattle.swc_ecma_codegen_text_writer.proofs.Flushes.{some_goes}
use Rattle.swc_ecma_codegen_text_writer.proofs.basic_impl.Lines.goes_on.Goals as goal

pub returns-in-Some : goal.returns-in-Some
returns-in-Some g c = some_goes c.goes_on_with.result _ c.in-Some.held (sheet_of c.args.self.now) c.in-Some.is c.goes_on_with.ensures
