use Rattle.std.proofs.Common.{◌≡◌, ◌∙◌, ap, sym, subst}
use Rattle.std.proofs.lemmas.Result.{err_from_is_err_and}
use Rattle.swc_ecma_codegen_text_writer.specs.Held.{segment_in}
use Rattle.swc_ecma_codegen_text_writer.specs.Sheet.{Sheet, Segment, released, notes_released, line_ended, ends_before, segment_released}
use Rattle.swc_ecma_codegen_text_writer.specs.View.{sheet_of, Reaches}
use Rattle.swc_ecma_codegen_text_writer.proofs.Sheets.{Alike, alike_trans, alike_same, notes_alike, released_alike, line_alike}
use Rattle.swc_ecma_codegen_text_writer.proofs.Stays.{line_stays}
use Rattle.swc_ecma_codegen_text_writer.proofs.Steps.{first_halted, reached, reaches_to, reaches_then}
use Rattle.swc_ecma_codegen_text_writer.proofs.basic_impl.Lines.flush.Goals as goal

pub returns-in_err-release_line_end : goal.returns-in_err-release_line_end
unfolding Reaches segment_released
returns-in_err-release_line_end g c =
    let h = c.args.held.now in
    let s : Sheet = sheet_of c.args.self.now in
    let x : Segment = segment_in h.segment in
    let a : Sheet = line_ended (ends_before h.max h.first x s) s in
    let p = err_from_is_err_and c.from_residual.result c.from_residual.ensures.1 in
    rw (p.1, p.2) (first_halted _ _ _ _ _ (subst (λ b. Alike (line_ended b s) (released x.rest (notes_released x.noted a))) (sym c.ends_before-due.ensures) (alike_trans a _ _ (notes_alike x.noted a) (released_alike x.rest _))) c.in_err-release_line_end.ensures)

pub release_segment-requires-clause-fresh : goal.release_segment-requires-clause-fresh
unfolding Reaches
release_segment-requires-clause-fresh g c = ap (λ (s : Sheet). s.refused) c.in_ok-release_line_end.ensures ∙ (alike_same _ _ (line_alike c.ends_before-due.result (sheet_of c.args.self.now))).refused ∙ c.requires.fresh

pub release_segment-requires-clause-bare : goal.release_segment-requires-clause-bare
unfolding Reaches
release_segment-requires-clause-bare g c = λ b. c.requires.bare (sym (ap (λ (s : Sheet). s.keeps_positions) c.in_ok-release_line_end.ensures ∙ (alike_same _ _ (line_alike c.ends_before-due.result (sheet_of c.args.self.now))).keeps_positions) ∙ b)

pub returns : goal.returns
unfolding segment_released
returns g c =
    let h = c.args.held.now in
    let s : Sheet = sheet_of c.args.self.now in
    let x : Segment = segment_in h.segment in
    let due : line_ended c.ends_before-due.result s ≡ line_ended (ends_before h.max h.first x s) s = ap (λ b. line_ended b s) c.ends_before-due.ensures in
    reaches_then _ _ _ _ _ _ (reached _ _ _ _ c.in_ok-release_line_end.ensures) (line_alike c.ends_before-due.result s) (line_stays c.ends_before-due.result s)
    (λ e. reaches_to _ _ _ _ _ (ap (λ (z : Sheet). released x.rest (notes_released x.noted z)) (e ∙ due)) c.release_segment.ensures)
