use Rattle.std.proofs.Common.{◌∙◌, ap, refl, IsSome, subst, [], ◌∷◌, ◌++◌}
use Rattle.swc_ecma_codegen_grammar.specs.CommentMaps.{listed}
use Rattle.swc_ecma_codegen_grammar.proofs.Lists.{is_eq_number, eq_number, on_err, same_lists, lists_same, lists_with, lists_begun}
use Rattle.swc_ecma_codegen_grammar.proofs.comments.add.Goals as goal

pub returns-in_err-push-in-Some-clause-unchanged :
    goal.returns-in_err-push-in-Some-clause-unchanged
returns-in_err-push-in-Some-clause-unchanged c =
    let h = (c.get_mut.follows.holds c.push.new.self).3 (subst IsSome c.in-Some.ensures.value refl) in
    on_err _ (lists_same _ _ _ c.args.pos c.push.new.self h.0 c.in-Some.list.now (eq_number c.args.pos.0) c.in-Some.ensures.value c.in_err-push-in-Some.ensures.items)

pub returns-in_err-insert-in-None-clause-unchanged :
    goal.returns-in_err-insert-in-None-clause-unchanged
returns-in_err-insert-in-None-clause-unchanged c =
    on_err _ (same_lists _ _ _ (c.in_err-insert-in-None.ensures.err ∙ ap (λ m. m.entries) c.get_mut.follows.holds-at-none))

pub returns-in_ok-push-in-Some-clause-added : goal.returns-in_ok-push-in-Some-clause-added
unfolding listed
returns-in_ok-push-in-Some-clause-added c =
    let h = (c.get_mut.follows.holds c.push.new.self).3 (subst IsSome c.in-Some.ensures.value refl) in
    lists_with _ _ _ c.args.pos c.push.new.self h.0 c.args.comment (is_eq_number c.args.pos.0) _ c.in-Some.ensures.value c.in_ok-push-in-Some.ensures.items

pub returns-in_ok-insert-in-None-clause-added : goal.returns-in_ok-insert-in-None-clause-added
returns-in_ok-insert-in-None-clause-added c =
    lists_begun _ _ _ c.args.pos c.push-in-None.new.self c.in_ok-insert-in-None.ensures.updates.0 c.args.lists.now c.get_mut.follows.holds-at-none c.args.comment
    (is_eq_number c.args.pos.0) c.in-None.ensures.value (c.in_ok-push-in-None.ensures.items ∙ ap (λ xs. xs ++ c.args.comment ∷ []) c.new-list.ensures.items)
