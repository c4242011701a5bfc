use Rattle.std.proofs.Common.{IsSome, length, sym, subst, ⊎_elim, arith}
use Rattle.std.proofs.lemmas.Bool.{cases_lt, true≢false}
use Rattle.std.proofs.lemmas.List.{take_all}
use Rattle.std.proofs.lemmas.Str.{IsCharBoundary-from_ascii}
use Rattle.swc_ecma_codegen_requests.proofs.layouts.first.Goals as goal

-- a text of ASCII may be cut at each place that it has
pub returns-in-None : goal.returns-in-None
returns-in-None c =
    let text = c.args.text.now in
    let count = c.args.count in
    ⊎_elim (λ p. sym (take_all count text (omega (arith, p)))) (λ p. absurd (true≢false (sym (subst IsSome c.in-None.is (c.split_at_checked.ensures.variant.1 (IsCharBoundary-from_ascii text count c.requires p)))))) (cases_lt (length text) count)
