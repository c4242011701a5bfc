use Rattle.std.proofs.Common.{◌≡◌, None, ap, sym, rules}
use Rattle.swc_ecma_codegen_text_writer.specs.Held.{flow_of}
use Rattle.swc_ecma_codegen_text_writer.specs.View.{sheet_of}
use Rattle.swc_ecma_codegen_text_writer.proofs.Steps.{appended_flowing, reaches_to}
use Rattle.swc_ecma_codegen_text_writer.proofs.basic_impl.Lines.send_in_line.Goals as goal

pub returns : goal.returns
unfolding sheet_of
returns g c =
    let none : c.args.self.now.held ≡ None = search rules in
    reaches_to _ _ _ _ _ (sym (appended_flowing c.args.text.now (sheet_of c.args.self.now) (ap flow_of none))) c.release_array.ensures
