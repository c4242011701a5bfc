use Rattle.std.proofs.Common.{refl}
use Rattle.swc_ecma_codegen_text_writer.specs.Sheet.{Sheet, AllowBreak}
use Rattle.swc_ecma_codegen_text_writer.specs.View.{sheet_of}
use Rattle.swc_ecma_codegen_text_writer.proofs.Flushes.{allowed_effect}
use Rattle.swc_ecma_codegen_text_writer.proofs.Steps.{writes_way}
use Rattle.swc_ecma_codegen_text_writer.proofs.basic_impl.Lines.allow_any.Goals as goal

pub returns-in-Some : goal.returns-in-Some
unfolding sheet_of
returns-in-Some g c =
    let s : Sheet = sheet_of c.args.self.now in
    writes_way AllowBreak _ s _ _ (allowed_effect s refl) refl refl c.requires c.allow_here.ensures
