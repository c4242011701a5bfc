use Rattle.std.proofs.Common.{sym, ◌∙◌, ap, List, ℕ}
use Rattle.std.specs.List.{list_all}
use Rattle.swc_ecma_codegen_literals.specs.StringTexts.{is_plain_ascii}
use Rattle.swc_ecma_codegen_literals.proofs.PlainTexts.{plain_ascii}
use Rattle.swc_ecma_codegen_literals.proofs.strings.is_plain.Goals as goal

pub returns-then-is_plain_ascii : goal.returns-then-is_plain_ascii
returns-then-is_plain_ascii c =
    let plain = sym (ap (λ (x : List ℕ). list_all is_plain_ascii x) c.as_bytes.ensures.value) ∙ (sym c.is_plain_ascii.ensures ∙ c.if-is_plain_ascii.true) in
    sym (plain_ascii c.args.ascii_only c.args.target c.args.text.now plain)
