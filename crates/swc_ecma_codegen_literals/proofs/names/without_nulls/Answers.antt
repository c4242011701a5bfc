use Rattle.std.proofs.Common.{◌≡◌, ◌+◌, ◌++◌, sym, ◌∙◌, ap, take, drop, ◌-◌, arith}
use Rattle.std.specs.String.{string_bytes}
use Rattle.swc_ecma_codegen_grammar.specs.ValidNames.{turned}
use Rattle.swc_ecma_codegen_literals.proofs.Nulls.{searched_none, searched_at, searched_cut, turned_step}
use Rattle.swc_ecma_codegen_literals.proofs.names.without_nulls.Goals as goal

pub range_from-rest-requires : goal.range_from-rest-requires
range_from-rest-requires c = λ _. searched_cut _ _ c.in-Some.at c.as_bytes.ensures.value c.loop-at.invariant.0 c.in-Some.ensures

pub loop-at-preserved : goal.loop-at-preserved
loop-at-preserved c =
    let t : turned c.loop-at.rest.now ≡ take (c.in-Some.at + 1) c.loop-at.rest.now ++ turned (drop (c.in-Some.at + 2) c.loop-at.rest.now) =
    searched_at _ _ c.in-Some.at c.as_bytes.ensures.value c.in-Some.ensures in
    let whole : c.in-Some.at + 1 - 0 ≡ c.in-Some.at + 1 = omega arith in
    (c.range_from-rest.utf8, rw c.range_from-rest.ensures.value (turned_step _ _ _ _ _ _ c.loop-at.invariant.1 t (c.in_ok-push_str.ensures.bytes ∙ ap (λ r. string_bytes c.loop-at.valid ++ r) (c.range.ensures.value ∙ ap (λ n. take n c.loop-at.rest.now) whole))))

pub returns-clause-value : goal.returns-clause-value
returns-clause-value c =
    let n : turned c.loop-at.rest.now ≡ c.loop-at.rest.now = searched_none _ _ c.as_bytes.ensures.value c.in_default.ensures in
    c.in_ok-push_str-2.ensures.bytes ∙ ap (λ r. string_bytes c.loop-at.valid ++ r) (sym n) ∙ c.loop-at.invariant.1
