use Rattle.std.proofs.Common.{inl, refl, ap, sym, ◌∙◌, not, ◌==◌}
use Rattle.std.proofs.lemmas.Bool.{and_parts, true≢false}
use Rattle.swc_ecma_codegen_text_writer.specs.Held.{flow_of}
use Rattle.swc_ecma_codegen_text_writer.specs.Sheet.{Sheet, Segment, Filling, fills_lines, recorded}
use Rattle.swc_ecma_codegen_text_writer.specs.View.{sheet_of, Reaches}
use Rattle.swc_ecma_codegen_text_writer.proofs.Flushes.{may_hold, none_some}
use Rattle.swc_ecma_codegen_text_writer.proofs.Sheets.{recorded_alike}
use Rattle.swc_ecma_codegen_text_writer.proofs.Steps.{recorded_flowing, recorded_filling, reaches_to, refused_here}
use Rattle.swc_ecma_codegen_text_writer.proofs.basic_impl.Lines.record_or_hold.Goals as goal

pub note-requires-clause-fresh : goal.note-requires-clause-fresh
unfolding sheet_of
note-requires-clause-fresh g c = c.requires.fresh

pub note-requires-clause-keeps : goal.note-requires-clause-keeps
unfolding sheet_of
note-requires-clause-keeps g c = (and_parts _ (not (c.args.pos.0 == 0)) c.requires.recorded).0

-- a text is held here, so the writer isn't plain
pub invariant_of-self-in-Ok-clause-plain_flowing : goal.invariant_of-self-in-Ok-clause-plain_flowing
invariant_of-self-in-Ok-clause-plain_flowing g c = λ p. absurd (none_some _ _ (c.args.self.now.plain_flowing p) c.in-Some.is)

pub invariant_of-self-in-Ok-clause-held_bare : goal.invariant_of-self-in-Ok-clause-held_bare
unfolding sheet_of
invariant_of-self-in-Ok-clause-held_bare g c = λ b. absurd (true≢false (sym (and_parts _ (not (c.args.pos.0 == 0)) c.requires.recorded).0 ∙ b))

pub invariant_of-self-in-Err-clause-held_bare : goal.invariant_of-self-in-Err-clause-held_bare
unfolding sheet_of
invariant_of-self-in-Err-clause-held_bare g c = λ b. absurd (true≢false (sym (and_parts _ (not (c.args.pos.0 == 0)) c.requires.recorded).0 ∙ b))

pub returns-in-None : goal.returns-in-None
unfolding sheet_of
returns-in-None g c = reaches_to _ _ _ _ _ (sym (recorded_flowing c.args.pos (sheet_of c.args.self.now) c.requires.recorded (ap flow_of c.in-None.is))) c.note.ensures

pub returns-in-Ok : goal.returns-in-Ok
unfolding sheet_of Reaches
returns-in-Ok g c =
    let s : Sheet = sheet_of c.args.self.now in
    let h = c.in-Some.held in
    ap (λ (x : Segment). record s { lines = Filling h.max h.first x }) c.in-Ok.ensures.ok
    ∙ sym (recorded_filling c.args.pos s h.max h.first _ c.requires.recorded (ap flow_of c.in-Some.is))

pub returns-in-Err : goal.returns-in-Err
unfolding sheet_of Reaches
returns-in-Err g c =
    let s : Sheet = sheet_of c.args.self.now in
    refused_here c.in-Err.refusal (recorded c.args.pos s) s _ _ refl (recorded_alike c.args.pos s)
    (may_hold c.in-Err.refusal s _ c.in-Err.ensures.err (ap (λ x. fills_lines (flow_of x)) c.in-Some.is))
    (λ q. inl (ap (λ x. fills_lines (flow_of x)) c.in-Some.is, refl))
