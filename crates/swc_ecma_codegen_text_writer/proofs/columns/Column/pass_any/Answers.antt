use Rattle.std.proofs.Common.{ap, sym, ◌∙◌}
use Rattle.swc_ecma_codegen_text_writer.specs.Places.{after_text}
use Rattle.swc_ecma_codegen_text_writer.proofs.Counting.{stands_on}
use Rattle.swc_ecma_codegen_text_writer.proofs.columns.Column.pass_any.Goals as goal

pub returns-then-least-ge14 : goal.returns-then-least-ge14
returns-then-least-ge14 c = λ p s.
    let same = ap (λ t. (after_text t p).column) c.as_bytes-bytes.ensures.value in
    stands_on _ _ _ c.args.text.now p (sym same ∙ c.look-least.ensures.column c.if-least-ge14.true p) c.sum-self.ensures.value s
