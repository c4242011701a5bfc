use Rattle.std.proofs.Common.{◌||◌, sym, ◌∙◌, ap}
use Rattle.std.proofs.lemmas.Bool.{or_left}
use Rattle.swc_ecma_codegen_grammar.specs.CodeUnits.{begins_like, short_escape, long_escape}
use Rattle.swc_ecma_codegen_literals.proofs.Fronts.{surrogate_place}
use Rattle.swc_ecma_codegen_literals.proofs.escapes.begins_surrogate.Goals as goal

pub returns-then-is_short_escape : goal.returns-then-is_short_escape
returns-then-is_short_escape c =
    let s = surrogate_place _ _ c.as_bytes-bytes.ensures.value c.utf8.text in
    let t = c.if-is_short_escape.true in
    let bytes = c.as_bytes-bytes.result.now in
    t ∙ sym (s ∙ or_left (begins_like short_escape bytes) (begins_like long_escape bytes) (sym c.is_short_escape.ensures ∙ t))

pub returns-else-is_short_escape : goal.returns-else-is_short_escape
returns-else-is_short_escape c =
    let s = surrogate_place _ _ c.as_bytes-bytes.ensures.value c.utf8.text in
    let bytes = c.as_bytes-bytes.result.now in
    c.is_long_escape.ensures ∙ sym (s ∙ ap (λ x. x || begins_like long_escape bytes) (sym c.is_short_escape.ensures ∙ c.if-is_short_escape.false))
