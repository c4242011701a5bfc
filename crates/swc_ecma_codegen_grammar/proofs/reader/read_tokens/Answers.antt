use Rattle.std.proofs.Common.{sym, subst, ◌∙◌, take, drop, map, ap, ◌≡◌, [], ◌∷◌, true, false, ◌+◌, ◌++◌, ℕ, List}
use Rattle.std.proofs.lemmas.List.{take-append-drop, drop_more, map-append}
use Rattle.swc_ecma_codegen_grammar.specs.Skipping.{Skips}
use Rattle.swc_ecma_codegen_grammar.proofs.ReadAll.{Progress, take_one_more, at_end, is_nothing, is_something, nothing_yet, progress_next, no_next, reads_all, no_end}
use Rattle.swc_ecma_codegen_grammar.proofs.reader.read_tokens.Goals as goal

pub loop-kind-init : goal.loop-kind-init
loop-kind-init c = subst (λ z. Progress c.args.text.now [] (map (λ p. p.now) z) true false c.args.text.now) (sym c.new-found.ensures.items) (nothing_yet c.args.text.now)

pub returns-in-None-clause-none : goal.returns-in-None-clause-none
returns-in-None-clause-none c = λ xs remarks e r.
    let i = c.loop-kind.kind-index in
    let kinds = c.args.kinds.now in
    no_next c.args.text.now (take i kinds) (map (λ p. p.now) c.loop-kind.found.items) c.loop-kind.first c.loop-kind.joined c.loop-kind.rest.now _ (drop (i + 1) kinds) c.loop-kind.invariant c.in-None.ensures.none xs remarks
    (e ∙ sym (take-append-drop i kinds) ∙ ap (λ z. take i kinds ++ z) (drop_more kinds i _ c.loop-kind-test.true)) r

pub loop-kind-preserved : goal.loop-kind-preserved
loop-kind-preserved c =
    let i = c.loop-kind.kind-index in
    let kinds = c.args.kinds.now in
    let owns : List (List ℕ) = map (λ p. p.now) c.loop-kind.found.items in
    let more : map (λ p. p.now) c.push.new.self.items ≡ owns ++ c.in-Some.own.now ∷ [] = ap (map (λ p. p.now)) c.in_ok-push-in-Some.ensures.items ∙ map-append (λ p. p.now) c.loop-kind.found.items (c.in-Some.own ∷ []) in
    let more_first = c.still_first-first.result in
    let joint = c.is_same_line-joined.result in
    subst (λ z. Progress c.args.text.now (take (i + 1) kinds) z more_first joint c.in-Some.after.now) (sym more)
    (subst (λ z. Progress c.args.text.now z (owns ++ c.in-Some.own.now ∷ []) more_first joint c.in-Some.after.now) (sym (take_one_more kinds i _ c.loop-kind-test.true))
    (progress_next c.args.text.now (take i kinds) owns c.loop-kind.first c.loop-kind.joined c.loop-kind.rest.now _ c.in-Some.own.now c.in-Some.after.now more_first joint c.is_same_line-joined.ensures c.still_first-first.ensures c.loop-kind.invariant c.in-Some.ensures.found))

pub returns-then-is_empty-clause-found : goal.returns-then-is_empty-clause-found
returns-then-is_empty-clause-found c =
    let kinds = c.args.kinds.now in
    let owns : List (List ℕ) = map (λ p. p.now) c.loop-kind.found.items in
    let whole : Progress c.args.text.now kinds owns c.loop-kind.first c.loop-kind.joined c.loop-kind.rest.now = at_end c.args.text.now kinds owns c.loop-kind.first c.loop-kind.joined c.loop-kind.rest.now c.loop-kind.kind-index c.loop-kind-test.false c.loop-kind.invariant in
    let nothing : c.skip.result.now ≡ [] = is_nothing c.skip.result.now (sym c.is_empty.ensures ∙ c.if-is_empty.true) in
    let read = reads_all c.args.text.now kinds owns c.loop-kind.first c.loop-kind.joined c.loop-kind.rest.now whole (subst (λ z. Skips c.loop-kind.rest.now z) nothing c.skip.ensures) in
    (whole.same, read.0, read.1)

pub returns-clause-none : goal.returns-clause-none
returns-clause-none c = λ xs remarks e r.
    let kinds = c.args.kinds.now in
    let owns : List (List ℕ) = map (λ p. p.now) c.loop-kind.found.items in
    no_end c.args.text.now kinds owns c.loop-kind.first c.loop-kind.joined c.loop-kind.rest.now c.skip.result.now
    (at_end c.args.text.now kinds owns c.loop-kind.first c.loop-kind.joined c.loop-kind.rest.now c.loop-kind.kind-index c.loop-kind-test.false c.loop-kind.invariant)
    c.skip.ensures (is_something c.skip.result.now (sym c.is_empty.ensures ∙ c.if-is_empty.false)) xs remarks e r
