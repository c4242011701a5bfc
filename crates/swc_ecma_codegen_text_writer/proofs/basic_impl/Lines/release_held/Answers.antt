use Rattle.std.proofs.Common.{◌≡◌, ◌+◌, length, string_bytes, subst, sym, ap, ◌∙◌, refl, get_or, drop, arith}
use Rattle.std.specs.List.{slice_range}
use Rattle.std.specs.Str.{IsUtf8, IsCharBoundary}
use Rattle.std.proofs.lemmas.Str.{IsCharBoundary-start}
use Rattle.std.proofs.lemmas.Result.{err_from_is_err_and}
use Rattle.swc_ecma_codegen_text_writer.specs.declared.held.Note.{Note}
use Rattle.swc_ecma_codegen_text_writer.specs.Sheet.{Sheet, released, noted}
use Rattle.swc_ecma_codegen_text_writer.specs.View.{sheet_of, Reaches}
use Rattle.swc_ecma_codegen_text_writer.proofs.Noting.{Left, left-first, left-within, left-step, left-released, left_alike}
use Rattle.swc_ecma_codegen_text_writer.proofs.Sheets.{Alike, alike_refl, alike_trans, released_alike, noted_alike}
use Rattle.swc_ecma_codegen_text_writer.proofs.Stays.{Stays, stays_refl, stays_trans, released_stays, noted_stays}
use Rattle.swc_ecma_codegen_text_writer.proofs.Steps.{halted_on, reaches_to, reaches_on}
use Rattle.swc_ecma_codegen_text_writer.proofs.basic_impl.Lines.release_held.Goals as goal

pub loop-note-init : goal.loop-note-init
loop-note-init g c =
    let held = c.args.held.now in
    let whole : IsUtf8 (string_bytes held.text) = subst IsUtf8 c.as_str-text.ensures.value c.as_str-text.utf8 in
    record {
      left = left-first (string_bytes held.text) held.notes.items _ held.in_order;
      alike = alike_refl _;
      stays = stays_refl _;
      cut = IsCharBoundary-start (string_bytes held.text) whole;
    }

pub part-requires-clause-order : goal.part-requires-clause-order
part-requires-clause-order g c =
    let d : Note = record { offset = 0; pos = record { 0 = 0 } } in
    let all = c.args.held.now.notes.items in
    let i = c.loop-note.note-index in
    let k = left-within (string_bytes c.args.held.now.text) c.loop-note.from all i d _ _ (omega arith) c.loop-note.invariant.left in
    let e : (get_or c.deref-note-items.result.now i d).offset ≡ (get_or all i d).offset = ap (λ xs. (get_or xs i d).offset) c.deref-note-items.ensures.value in
    let a = k.0 in omega arith

returns_step : goal.loop-note-preserved
unfolding Reaches
returns_step g c =
    let d : Note = record { offset = 0; pos = record { 0 = 0 } } in
    let all = c.args.held.now.notes.items in
    let i = c.loop-note.note-index in
    let text = string_bytes c.args.held.now.text in
    let from = c.loop-note.from in
    let now : Sheet = sheet_of c.loop-note.self in
    let old : Sheet = sheet_of c.args.self.now in
    let new : Sheet = sheet_of c.release_noted.new.self in
    let n : Note = get_or c.deref-note-items.result.now i d in
    let e : n ≡ get_or all i d = ap (λ xs. get_or xs i d) c.deref-note-items.ensures.value in
    let part : c.part.result.now ≡ slice_range text from n.offset = c.part.ensures ∙ ap (λ t. slice_range t from n.offset) c.as_str-text.ensures.value in
    let next : new ≡ noted n.pos (released (slice_range text from n.offset) now) = c.in_ok-release_noted.ensures ∙ ap (λ t. noted n.pos (released t now)) part in
    let mid : Sheet = released (slice_range text from n.offset) now in
    record {
      left =
          subst (λ (x : Note). Left text x.offset (drop (i + 1) all) all new old) (sym e)
          (left-step text from all i d now new old (omega arith) c.loop-note.invariant.left
          (subst (λ (x : Note). new ≡ noted x.pos (released (slice_range text from x.offset) now)) e next));
      alike = alike_trans old now new c.loop-note.invariant.alike (subst (λ (z : Sheet). Alike now z) (sym next) (alike_trans now mid _ (released_alike (slice_range text from n.offset) now) (noted_alike n.pos mid)));
      stays = stays_trans old now new c.loop-note.invariant.stays (subst (λ (z : Sheet). Stays now z) (sym next) (stays_trans now mid _ (released_stays (slice_range text from n.offset) now) (noted_stays n.pos mid)));
      cut = subst (λ (x : Note). IsCharBoundary text x.offset) (sym e) (c.args.held.now.cuts i d (omega arith));
    }

pub loop-note-preserved : goal.loop-note-preserved
loop-note-preserved g c = returns_step g c

pub returns-in_err-release_noted : goal.returns-in_err-release_noted
unfolding Reaches
returns-in_err-release_noted g c =
    let d : Note = record { offset = 0; pos = record { 0 = 0 } } in
    let all = c.args.held.now.notes.items in
    let i = c.loop-note.note-index in
    let text = string_bytes c.args.held.now.text in
    let from = c.loop-note.from in
    let now : Sheet = sheet_of c.loop-note.self in
    let old : Sheet = sheet_of c.args.self.now in
    let n : Note = get_or c.deref-note-items.result.now i d in
    let e : n ≡ get_or all i d = ap (λ xs. get_or xs i d) c.deref-note-items.ensures.value in
    let part : c.part.result.now ≡ slice_range text from n.offset = c.part.ensures ∙ ap (λ t. slice_range t from n.offset) c.as_str-text.ensures.value in
    let next : Sheet = noted n.pos (released c.part.result.now now) in
    let is_next : next ≡ noted n.pos (released (slice_range text from n.offset) now) = ap (λ t. noted n.pos (released t now)) part in
    let left = left-step text from all i d now next old (omega arith) c.loop-note.invariant.left (subst (λ (x : Note). next ≡ noted x.pos (released (slice_range text from x.offset) now)) e is_next) in
    let p = err_from_is_err_and c.from_residual.result c.from_residual.ensures.1 in
    rw (p.1, p.2) (halted_on _ _ next old now _ c.loop-note.invariant.alike c.loop-note.invariant.stays (left_alike text _ _ all next old left) c.in_err-release_noted.ensures)

pub returns : goal.returns
returns g c =
    let all = c.args.held.now.notes.items in
    let text = string_bytes c.args.held.now.text in
    let from = c.loop-note.from in
    let now : Sheet = sheet_of c.loop-note.self in
    let old : Sheet = sheet_of c.args.self.now in
    let to = length c.as_str-text.result.now in
    let t : to ≡ length text = ap length c.as_str-text.ensures.value in
    let part : c.part-2.result.now ≡ slice_range text from to = c.part-2.ensures ∙ ap (λ z. slice_range z from to) c.as_str-text.ensures.value in
    reaches_on _ old now _ _ c.loop-note.invariant.alike c.loop-note.invariant.stays
    (reaches_to _ _ _ _ _ (left-released text from to all c.loop-note.note-index c.part-2.result.now now (released c.part-2.result.now now) old (omega arith) c.loop-note.invariant.left t part refl) c.release.ensures)
