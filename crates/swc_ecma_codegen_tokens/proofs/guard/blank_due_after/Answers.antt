use Rattle.std.proofs.Common.{◌<◌, sym, ap, ◌∙◌, ◌==◌, arith}
use Rattle.std.specs.Int.{bit_at}
use Rattle.std.proofs.lemmas.Nat.Bits.{shr_and_one, bit_at_ones}
use Rattle.swc_ecma_codegen_tokens.specs.Starts.{order}
use Rattle.swc_ecma_codegen_tokens.proofs.guard.blank_due_after.Goals as goal

-- each bit of such a row is 1
pub returns-clause-refused : goal.returns-clause-refused
returns-clause-refused c = λ ones.
    let below : c.place.result < 30 = c.place.ensures.below in
    ap (λ n. n == 1) (shr_and_one c.args.row c.place.result ∙ ap (λ r. bit_at r c.place.result) ones ∙ bit_at_ones 32 c.place.result (omega arith))

pub returns-clause-class : goal.returns-clause-class
returns-clause-class c = λ class token text row same start. ap (λ n. n == 1) (shr_and_one c.args.row c.place.result ∙ ap (bit_at c.args.row) (c.place.ensures.value ∙ ap order (sym start))) ∙ row token text same
