use Rattle.std.proofs.Common.{inl, refl, ap, sym, ◌∙◌}
use Rattle.swc_ecma_codegen_text_writer.specs.Held.{flow_of}
use Rattle.swc_ecma_codegen_text_writer.specs.Sheet.{Sheet, Segment, Filling, fills_lines, appended}
use Rattle.swc_ecma_codegen_text_writer.specs.View.{sheet_of, Reaches}
use Rattle.swc_ecma_codegen_text_writer.proofs.Flushes.{may_hold, none_some, bare_more}
use Rattle.swc_ecma_codegen_text_writer.proofs.Sheets.{appended_alike}
use Rattle.swc_ecma_codegen_text_writer.proofs.Steps.{appended_flowing, appended_filling, reaches_to, refused_here}
use Rattle.swc_ecma_codegen_text_writer.proofs.basic_impl.Lines.hand_on.Goals as goal

pub release-requires : goal.release-requires
unfolding sheet_of
release-requires g c = c.requires

pub invariant_of-self-in-Ok-clause-plain_flowing : goal.invariant_of-self-in-Ok-clause-plain_flowing
invariant_of-self-in-Ok-clause-plain_flowing g c = λ p. absurd (none_some _ _ (c.args.self.now.plain_flowing p) c.in-Some.is)

pub invariant_of-self-in-Ok-clause-held_bare : goal.invariant_of-self-in-Ok-clause-held_bare
invariant_of-self-in-Ok-clause-held_bare g c = λ b. bare_more _ _ _ (c.args.self.now.held_bare b) c.in-Some.is (ap (λ x. x.items) c.push_text.ensures.notes)

pub invariant_of-self-in-Err-clause-held_bare : goal.invariant_of-self-in-Err-clause-held_bare
invariant_of-self-in-Err-clause-held_bare g c = λ b. bare_more _ _ _ (c.args.self.now.held_bare b) c.in-Some.is (ap (λ x. x.items) c.push_text.ensures.notes)

pub returns-in-None : goal.returns-in-None
unfolding sheet_of
returns-in-None g c = reaches_to _ _ _ _ _ (sym (appended_flowing c.args.text.now (sheet_of c.args.self.now) (ap flow_of c.in-None.is))) c.release.ensures

pub returns-in-Ok : goal.returns-in-Ok
unfolding sheet_of Reaches
returns-in-Ok g c =
    let s : Sheet = sheet_of c.args.self.now in
    let h = c.in-Some.held in
    ap (λ (x : Segment). record s { lines = Filling h.max h.first x }) c.in-Ok.ensures.ok
    ∙ sym (appended_filling c.args.text.now s h.max h.first _ (ap flow_of c.in-Some.is))

pub returns-in-Err : goal.returns-in-Err
unfolding sheet_of Reaches
returns-in-Err g c =
    let s : Sheet = sheet_of c.args.self.now in
    refused_here c.in-Err.refusal (appended c.args.text.now s) s _ _ refl (appended_alike c.args.text.now s)
    (may_hold c.in-Err.refusal s _ c.in-Err.ensures.err (ap (λ x. fills_lines (flow_of x)) c.in-Some.is))
    (λ q. inl (ap (λ x. fills_lines (flow_of x)) c.in-Some.is, refl))
