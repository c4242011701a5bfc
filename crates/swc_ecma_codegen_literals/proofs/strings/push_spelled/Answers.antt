use Rattle.std.proofs.Common.{◌≡◌, sym, ◌∙◌, ap, ◌++◌, List, ℕ, length, append-nil}
use Rattle.std.proofs.lemmas.Bool.{eqb-true}
use Rattle.std.specs.String.{string_bytes}
use Rattle.swc_ecma_codegen_literals.proofs.SpelledTexts.{spelled_turn, loop_turn, nothing_left}
use Rattle.swc_ecma_codegen_literals.proofs.strings.push_spelled.Goals as goal

pub loop-rest-preserved : goal.loop-rest-preserved
loop-rest-preserved c =
    let t = spelled_turn _ _ _ _ _ _ c.in_ok-rest.rest.now c.split_run.ensures.parts c.split_run.ensures.texts.0 c.split_run.ensures.texts.1 c.split_run.ensures.run c.split_run.ensures.stops c.in_ok-rest.ensures.rest in
    (c.in_ok-rest.ensures.text, loop_turn _ _ _ _ _ _ _ _ c.in_ok-push_str.ensures.bytes c.in_ok-rest.ensures.literal t c.loop-rest.invariant.1)

pub returns : goal.returns
returns c =
    let none : length c.loop-rest.rest.now ≡ 0 = eqb-true _ _ (sym c.is_empty.ensures ∙ c.loop-rest-test.false) in
    sym (append-nil (string_bytes c.loop-rest.literal)) ∙ (ap (λ (x : List ℕ). string_bytes c.loop-rest.literal ++ x) (sym (nothing_left _ _ _ _ none)) ∙ c.loop-rest.invariant.1)
