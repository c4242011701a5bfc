use Rattle.std.proofs.Common.{Result, Ok, Err, IfOk}
use Rattle.swc_ecma_codegen_examples.proofs.parentheses.mended_text.Goals as goal

both : {T E : Type 0} (r : Result T E) (P Q R : T → Type 0) → ((x : T) → P x → Q x → R x) → IfOk r P → IfOk r Q → IfOk r R
both (Ok x) P Q R f p q = f x p q
both (Err e) P Q R f p q = tt

-- the text of the tree that got its parentheses
pub returns-in-Ok : goal.returns-in-Ok
returns-in-Ok c =
    let text = c.text_that_keeps_structure in
    both text.result _ _ _ (λ t reads derived. record { printed = c.in-Ok.program; same = c.in-Ok.ensures.same; reads = reads; derived = derived }) text.ensures.reads text.ensures.derived
