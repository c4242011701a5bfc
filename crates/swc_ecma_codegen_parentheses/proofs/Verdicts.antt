-- What lacks no parentheses, and nothing else, is a derivation.
use Rattle.std.proofs.Common.{◌≡◌, ◌&&◌, true, false, ap, ◌∙◌}
use Rattle.swc_ecma_codegen_syntax.specs.declared.verdicts.Verdict.{Verdict}
use Rattle.swc_ecma_codegen_syntax.specs.Verdicts.{holds}
use Rattle.swc_ecma_codegen_syntax.proofs.VerdictLaws.{holds_both}

pub kept : (v : Verdict) → v.parenthesized ≡ true → holds false v ≡ true → holds true v ≡ true
kept v lacks_none curable = holds_both v ∙ ap (λ b. b && v.parenthesized) curable ∙ lacks_none
