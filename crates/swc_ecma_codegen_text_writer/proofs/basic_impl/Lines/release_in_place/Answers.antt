use Rattle.std.proofs.Common.{refl, sym, subst, ap, ◌∙◌, false, Err, string_bytes}
use Rattle.std.proofs.lemmas.Bool.{true≢false}
use Rattle.swc_ecma_codegen_text_writer.specs.Held.{segment_in}
use Rattle.swc_ecma_codegen_text_writer.specs.InPlace.{IsHeldInLine}
use Rattle.swc_ecma_codegen_text_writer.specs.Reach.{is_in_line}
use Rattle.swc_ecma_codegen_text_writer.specs.Columns.{Stands}
use Rattle.swc_ecma_codegen_text_writer.specs.Sheet.{Sheet, Segment, Filling, no_segment, released}
use Rattle.swc_ecma_codegen_text_writer.specs.View.{sheet_of, Reaches, HasReason}
use Rattle.swc_ecma_codegen_text_writer.proofs.Flushes.{none_some}
use Rattle.swc_ecma_codegen_text_writer.proofs.InPlace.{in_line_some, in_line_nowhere, released_some}
use Rattle.swc_ecma_codegen_text_writer.proofs.Room.{writer_not_memory}
use Rattle.swc_ecma_codegen_text_writer.proofs.Sheets.{front_refl, other_lines}
use Rattle.swc_ecma_codegen_text_writer.proofs.Steps.{sent_sheet, place_on, place_since, first_halted, reaches_to}
use Rattle.swc_ecma_codegen_text_writer.proofs.basic_impl.Lines.release_in_place.Goals as goal

pub returns-in-None : goal.returns-in-None
returns-in-None g c = absurd (in_line_nowhere _ _ c.in-None.is c.requires.goes)

pub pass_known-requires : goal.pass_known-requires
unfolding IsHeldInLine
pass_known-requires g c =
    let q = in_line_some _ c.in-Some.held (sheet_of c.args.self.now) c.in-Some.is c.requires.goes in
    sym (ap is_in_line c.as_str-text.ensures.value ∙ q.0)

pub invariant_of-self-in-Ok-clause-plain_flowing : goal.invariant_of-self-in-Ok-clause-plain_flowing
invariant_of-self-in-Ok-clause-plain_flowing g c = λ p. absurd (none_some _ _ (c.args.self.now.plain_flowing p) c.in-Some.is)

pub invariant_of-self-in-Ok-clause-held_bare : goal.invariant_of-self-in-Ok-clause-held_bare
invariant_of-self-in-Ok-clause-held_bare g c = λ b. c.clear.ensures.notes

pub invariant_of-self-in-Ok-clause-counted : goal.invariant_of-self-in-Ok-clause-counted
unfolding IsHeldInLine sheet_of
invariant_of-self-in-Ok-clause-counted g c = λ f e.
    let q = in_line_some _ c.in-Some.held (sheet_of c.args.self.now) c.in-Some.is c.requires.goes in
    absurd (true≢false (sym e ∙ q.1))

pub invariant_of-self-in-Ok-clause-shown : goal.invariant_of-self-in-Ok-clause-shown
invariant_of-self-in-Ok-clause-shown g c = λ f. subst (λ z. Stands c.pass_known.new.self.units z) (sym (place_on _ _ _ c.in-Ok.ensures.logged)) (c.pass_known.ensures _ (c.args.self.now.shown f))

pub returns-in-Ok : goal.returns-in-Ok
unfolding sheet_of Reaches
returns-in-Ok g c =
    let h = c.in-Some.held in
    let s : Sheet = sheet_of c.args.self.now in
    let out = sent_sheet c.as_str-text.result.now s _ _ _ _ _ _ _ _ c.in-Ok.ensures.bytes c.in-Ok.ensures.whole c.in-Ok.ensures.faults (place_on _ _ _ c.in-Ok.ensures.logged) refl refl refl refl in
    ap (λ (z : Sheet). record z { lines = Filling h.max false (segment_in c.clear.new.self) }) out
    ∙ ap (λ t. record (released t s) { lines = Filling h.max false (segment_in c.clear.new.self) }) c.as_str-text.ensures.value
    ∙ ap (λ (x : Segment). record (released (string_bytes h.segment.text) s) { lines = Filling h.max false x }) c.clear.ensures.segment
    ∙ released_some _ h s c.in-Some.is

pub returns-in-Err : goal.returns-in-Err
unfolding sheet_of Reaches HasReason released
returns-in-Err g c =
    let h = c.in-Some.held in
    let s : Sheet = sheet_of c.args.self.now in
    let to =
    ap (λ t. record (released t s) { lines = Filling h.max false no_segment }) c.as_str-text.ensures.value
    ∙ released_some _ h s c.in-Some.is in
    reaches_to _ _ _ _ (Err _) to
    (first_halted _ _ _ _ _ (other_lines _ (released c.as_str-text.result.now s)) (record {
      reason = c.in-Err.ensures.counted;
      grows = c.in-Err.ensures.grows;
      front = c.in-Err.ensures.front;
      place = place_since c.args.self.now.outlet c.write_text.new.self c.in-Err.ensures.before c.in-Err.ensures.grows;
      more_pairs = front_refl _;
      front_pairs = front_refl _;
      room = λ q. writer_not_memory q;
      same = refl;
    }))
