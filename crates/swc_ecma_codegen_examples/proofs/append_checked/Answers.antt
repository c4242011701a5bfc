use Rattle.std.proofs.Common.{List, ℕ, string_bytes, subst}
use Rattle.std.specs.Io.KnownBytes.{Appends}
use Rattle.swc_ecma_codegen_examples.proofs.append_checked.Goals as goal

-- the bytes that went out are those of the text
pub returns-in-Ok-clause-reads : goal.returns-in-Ok-clause-reads
returns-in-Ok-clause-reads g c =
    let text = string_bytes c.in_ok-text.text in
    let Sent : List ℕ → Type 0 = λ t. Appends (g.W.Write.contents c.args.out.now) (g.W.Write.contents c.write_all.new.self) t in
    (text, c.in_ok-text.ensures.reads, subst Sent c.as_bytes.ensures.value c.in-Ok.ensures.bytes)
