use Rattle.std.proofs.Common.{◌≡◌, ◌∙◌, None, ap, refl, subst}
use Rattle.swc_ecma_codegen_grammar.specs.Comments.{maps_in}
use Rattle.swc_ecma_codegen_tokens.specs.Run.{State, Follows, maps_after, printed, steps_in, steps_of, unprintable_in}
use Rattle.swc_ecma_codegen_emit.specs.Texts.{GivesCause}
use Rattle.swc_ecma_codegen_requests.proofs.emissions.printed_on.Goals as goal

-- what is printed goes from the state of a new emitter
pub returns-in-Ok-clause-sheet : goal.returns-in-Ok-clause-sheet
unfolding Follows
returns-in-Ok-clause-sheet g c = ap (λ (s : State). s.sheet) (c.in-Ok.ensures.items.1 ∙ ap (printed (g.P.Node.part c.args.tree.now)) c.new-emitter.ensures.state)

pub returns-in-Ok-clause-printed : goal.returns-in-Ok-clause-printed
unfolding Follows
returns-in-Ok-clause-printed g c =
    let part = g.P.Node.part c.args.tree.now in
    (subst (λ (s : State). unprintable_in (steps_in part s) ≡ None) c.new-emitter.ensures.state c.in-Ok.ensures.items.0, refl)

-- and so does what is taken
pub returns-in-Ok-clause-left : goal.returns-in-Ok-clause-left
returns-in-Ok-clause-left g c =
    let part = g.P.Node.part c.args.tree.now in
    subst (λ (s : State). maps_in g.C.Comments.maps c.emit_with.new.e.comments ≡ maps_after (steps_of (steps_in part s)) s.env.maps) c.new-emitter.ensures.state c.in-Ok.ensures.taken

pub returns-in-Err-clause-cause : goal.returns-in-Err-clause-cause
returns-in-Err-clause-cause g c =
    let part = g.P.Node.part c.args.tree.now in
    subst (λ s. GivesCause part s c.in-Err.error) c.new-emitter.ensures.state (_, c.in-Err.ensures.items)
