use Rattle.std.proofs.Common.{◌∙◌, ap, ◌++◌, List, ℕ}
use Rattle.std.specs.Char.{encode_utf8}
use Rattle.swc_ecma_codegen_literals.proofs.SpelledTexts.{quoted}
use Rattle.swc_ecma_codegen_literals.proofs.strings.spelled_literal.Goals as goal

pub returns : goal.returns
returns c =
    quoted _ _ _ _ _ _ _ c.quote_of-quote.ensures
    (c.in_ok-push.ensures.bytes ∙ ap (λ (x : List ℕ). x ++ encode_utf8 c.quote_of-quote.result) c.in_ok-literal.ensures.bytes)
    c.in_ok-push_spelled.ensures c.in_ok-push-2.ensures.bytes
