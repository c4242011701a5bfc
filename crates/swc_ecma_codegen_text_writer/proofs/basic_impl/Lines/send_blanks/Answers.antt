use Rattle.std.proofs.Common.{◌∙◌, ℕ, List, ap, sym, subst}
use Rattle.std.specs.List.{repeat}
use Rattle.swc_ecma_codegen_text_writer.specs.Sheet.{appended, indented}
use Rattle.swc_ecma_codegen_text_writer.specs.View.{sheet_of, Reaches}
use Rattle.swc_ecma_codegen_text_writer.proofs.basic_impl.Lines.send_blanks.Goals as goal

pub returns : goal.returns
unfolding sheet_of indented
returns g c =
    let old = sheet_of c.args.self.now in
    let P : List ℕ → Type 0 = λ t. Reaches (appended t old) old (sheet_of c.send_in_line.new.self) c.send_in_line.result in
    subst P (c.requires.levels ∙ ap (repeat c.args.self.now.indent) (sym (c.args.self.now.usual c.requires.usual))) c.send_in_line.ensures
