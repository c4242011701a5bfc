use Rattle.std.proofs.Common.{◌≡◌, length, rules}
use Rattle.swc_ecma_codegen_text_writer.specs.View.{sheet_of, Reaches}
use Rattle.swc_ecma_codegen_text_writer.proofs.Steps.{appended_nil}
use Rattle.swc_ecma_codegen_text_writer.proofs.basic_impl.Lines.sends_known_by_length.Goals as goal

pub returns-in-0 : goal.returns-in-0
unfolding Reaches
returns-in-0 g c =
    let h : length c.args.text.now ≡ 0 = search rules in
    appended_nil c.args.text.now (sheet_of c.args.self.now) h

pub sends_any-requires : goal.sends_any-requires
unfolding sheet_of
sends_any-requires g c = c.args.self.now.plain_fresh c.requires.plain
