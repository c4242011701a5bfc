use Rattle.std.proofs.Common.{List, ap, append-nil, length, sym, ℕ, ◌++◌, ◌∙◌, ◌≡◌}
use Rattle.std.proofs.lemmas.Bool.{eqb-true}
use Rattle.std.specs.String.{string_bytes}
use Rattle.swc_ecma_codegen_literals.proofs.NameRuns.{escapes_turn, no_escapes}
use Rattle.swc_ecma_codegen_literals.proofs.SpelledTexts.{loop_turn}
use Rattle.swc_ecma_codegen_literals.proofs.idents.push_escapes.Goals as goal

pub loop-rest-preserved : goal.loop-rest-preserved
loop-rest-preserved c =
    let t = escapes_turn _ _ _ _ _ c.in_ok-rest.rest.now c.split_plain.ensures.parts c.split_plain.ensures.texts.0 c.split_plain.ensures.run c.in_ok-rest.ensures.rest in
    (c.in_ok-rest.ensures.text, loop_turn _ _ _ _ _ _ _ _ c.in_ok-push_str.ensures.bytes c.in_ok-rest.ensures.name t c.loop-rest.invariant.1)

pub returns : goal.returns
returns c =
    let none : length c.loop-rest.rest.now ≡ 0 = eqb-true _ _ (sym c.is_empty.ensures ∙ c.loop-rest-test.false) in
    sym (append-nil (string_bytes c.loop-rest.name)) ∙ (ap (λ (x : List ℕ). string_bytes c.loop-rest.name ++ x) (sym (no_escapes _ _ _ none)) ∙ c.loop-rest.invariant.1)
