use Rattle.std.proofs.Common.{◌≡◌, None, ap, ◌∙◌, subst, inr}
use Rattle.std.proofs.lemmas.Result.{IfOk-weaker, IfErr-weaker}
use Rattle.swc_ecma_codegen_common.specs.Refusals.{reason_of}
use Rattle.swc_ecma_codegen_text_writer.specs.Sheet.{Commit, Refuses}
use Rattle.swc_ecma_codegen_tokens.specs.Run.{State, Follows, printed, steps_in, unprintable_in}
use Rattle.swc_ecma_codegen_emit.specs.Texts.{with_last}
use Rattle.swc_ecma_codegen_emit.proofs.code.print_whole.Goals as goal

pub returns-clause-sheet : goal.returns-clause-sheet
unfolding Follows
returns-clause-sheet g c =
    let part = g.N.Node.part c.args.node.now in
    let end = ap g.W.WriteJs.sheet c.into_writer.ensures ∙ ap (λ (s : State). s.sheet) (c.in_ok-emit_with.ensures.items.1 ∙ ap (printed part) c.new-emitter.ensures.state) in
    IfOk-weaker c.write_last.result _ _ (λ w e. e ∙ ap (with_last c.args.cfg) end) c.write_last.ensures.sheet

pub returns-clause-printable : goal.returns-clause-printable
unfolding Follows
returns-clause-printable g c =
    let part = g.N.Node.part c.args.node.now in
    let none = subst (λ (s : State). unprintable_in (steps_in part s) ≡ None) c.new-emitter.ensures.state c.in_ok-emit_with.ensures.items.0 in
    IfOk-weaker c.write_last.result _ _ (λ w e. none) c.write_last.ensures.sheet

pub returns-clause-cause : goal.returns-clause-cause
unfolding Follows
returns-clause-cause g c =
    let part = g.N.Node.part c.args.node.now in
    let end = ap g.W.WriteJs.sheet c.into_writer.ensures ∙ ap (λ (s : State). s.sheet) (c.in_ok-emit_with.ensures.items.1 ∙ ap (printed part) c.new-emitter.ensures.state) in
    IfErr-weaker c.write_last.result _ _ (λ error h. inr (h.0, (h.1.0, subst (λ s. Refuses Commit (reason_of error) s h.1.0) end h.1.1))) c.write_last.ensures.cause
