use Rattle.std.proofs.Common.{◌≡◌, true, false, rules}
use Rattle.swc_ecma_codegen_text_writer.proofs.Begun.{begun_halted, begun_fresh, begun_written}
use Rattle.swc_ecma_codegen_text_writer.proofs.basic_impl.Lines.starts_line_by.Goals as goal

pub returns-then-not-begins_line : goal.returns-then-not-begins_line
returns-then-not-begins_line g c =
    let no : c.begins_line.result ≡ false = search rules in
    begun_halted c.args.text.now _ _ _ _ c.requires.some no c.begins_line.ensures

pub sends_begun-requires-clause-fresh : goal.sends_begun-requires-clause-fresh
sends_begun-requires-clause-fresh g c =
    let yes : c.begins_line.result ≡ true = search rules in
    begun_fresh _ _ _ _ yes c.begins_line.ensures c.requires.fresh

pub returns : goal.returns
returns g c =
    let yes : c.begins_line.result ≡ true = search rules in
    begun_written c.args.text.now _ _ _ _ _ _ c.requires.some yes c.begins_line.ensures c.sends_begun.ensures
