use Rattle.std.proofs.Common.{◌≡◌, sym, ap, ◌∙◌, ◌==◌, rules}
use Rattle.std.specs.Int.{bit_at}
use Rattle.std.proofs.lemmas.Nat.Bits.{bit_at-zero}
use Rattle.swc_ecma_codegen_tokens.specs.Starts.{order, start_class}
use Rattle.swc_ecma_codegen_tokens.proofs.guard.never_due_after.Goals as goal

pub returns-clause-class : goal.returns-clause-class
returns-clause-class c = λ class token text yes row same.
    let none : c.args.row ≡ 0 = search rules in
    sym (row token text same) ∙ ap (λ n. bit_at n (order (start_class text)) == 1) none ∙ ap (λ n. n == 1) (bit_at-zero (order (start_class text)))
