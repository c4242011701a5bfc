use Rattle.std.proofs.Common.{◌≡◌, ◌&&◌, false, refl, sym, ◌∙◌}
use Rattle.swc_ecma_codegen_text_writer.specs.View.{sheet_of}
use Rattle.swc_ecma_codegen_text_writer.proofs.Steps.{writes_failed, writes_ok, writes_way, pointed_sheet, pointed_in_line, both_true, first_false, second_false}
use Rattle.swc_ecma_codegen_text_writer.proofs.basic_impl.Lines.point.Goals as goal
use Rattle.swc_ecma_codegen_text_writer.proofs.basic_impl.Lines.point.Goals.{else-is_kept-via-then-is_kept+else-self-2, else-is_kept-via-else-is_kept}

pub returns-then-self : goal.returns-then-self
unfolding sheet_of
returns-then-self g c x e = writes_failed x _ c.if-self.true

pub record-requires : goal.record-requires
unfolding sheet_of
record-requires g c = c.if-self.false

pub returns-then-self-2 : goal.returns-then-self-2
unfolding sheet_of
returns-then-self-2 g c x e =
    let kept = sym c.is_kept.ensures ∙ c.if-is_kept.true in
    writes_ok x _ _ c.if-self.false
    (pointed_sheet c.args.pos (sheet_of c.args.self.now) _ _ _ _ (both_true _ _ kept c.if-self-2.true) c.point.ensures.keeps c.point.ensures.keeps c.point.ensures.pairs (c.point.ensures.pending kept) ∙ sym (e refl))

pub returns : goal.returns
unfolding sheet_of
returns g c x e =
    let s = sheet_of c.args.self.now in
    let in_line : (s.keeps_positions && s.at_line_start) ≡ false =
    elim c.else-is_kept.branch [
      | else-is_kept-via-then-is_kept+else-self-2 w ↦ second_false _ _ w.if-self-2.false
      | else-is_kept-via-else-is_kept w ↦ first_false _ _ (sym c.is_kept.ensures ∙ w.if-is_kept.false)
    ] in
    writes_way x _ _ _ _ (sym (pointed_in_line c.args.pos s in_line) ∙ sym (e refl)) refl refl c.if-self.false c.record.ensures
