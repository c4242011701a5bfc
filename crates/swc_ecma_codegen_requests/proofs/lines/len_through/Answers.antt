use Rattle.std.proofs.Common.{◌≡◌, ◌≢◌, ◌+◌, ◌-◌, ℕ, All, take, length, subst, arith}
use Rattle.swc_ecma_codegen_requests.proofs.Bytes.{none_before}
use Rattle.swc_ecma_codegen_requests.proofs.lines.len_through.Goals as goal

pub returns-in-Some-clause-before : goal.returns-in-Some-clause-before
returns-in-Some-clause-before c =
    let at : ℕ = c.in-Some.at in
    let same : at ≡ at + 1 - 1 = omega arith in
    subst (λ k. All (λ x. x ≢ 10) (take k c.args.bytes.now)) same (none_before c.args.bytes.now at (omega (arith, c.in-Some.ensures.0.high)) c.in-Some.ensures.0.before)

pub returns-in-None-clause-before : goal.returns-in-None-clause-before
returns-in-None-clause-before c = none_before c.args.bytes.now (length c.args.bytes.now - 1) (omega arith) (λ k low high. c.in-None.ensures k low (omega (arith, high)))
