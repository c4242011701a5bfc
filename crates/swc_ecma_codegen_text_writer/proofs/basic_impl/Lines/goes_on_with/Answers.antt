use Rattle.std.proofs.Common.{◌≡◌, sym, ◌∙◌, length, rules}
use Rattle.swc_ecma_codegen_text_writer.specs.Held.{GoesOn}
use Rattle.swc_ecma_codegen_text_writer.proofs.basic_impl.Lines.goes_on_with.Goals as goal

pub returns : goal.returns
unfolding GoesOn
returns g c =
    let none : length c.args.held.now.segment.notes.items ≡ 0 = search rules in
    (c.stays_in_line-stays_in_line.ensures, (none, sym c.ends_before.ensures ∙ c.if-ends_before.false))
