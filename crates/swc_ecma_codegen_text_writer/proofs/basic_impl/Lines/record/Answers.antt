use Rattle.std.proofs.Common.{sym, ◌∙◌}
use Rattle.swc_ecma_codegen_text_writer.specs.Sheet.{Sheet}
use Rattle.swc_ecma_codegen_text_writer.specs.View.{sheet_of, Reaches}
use Rattle.swc_ecma_codegen_text_writer.proofs.Steps.{recorded_none, recorded_bare, both_true, not_zero}
use Rattle.swc_ecma_codegen_text_writer.proofs.basic_impl.Lines.record.Goals as goal
use Rattle.swc_ecma_codegen_text_writer.proofs.basic_impl.Lines.record.Goals.{then-pos-eq0-via-then-pos-eq0, then-pos-eq0-via-else-pos-eq0+then-not-is_kept}

pub returns-then-pos-eq0 : goal.returns-then-pos-eq0
unfolding sheet_of Reaches
returns-then-pos-eq0 g c =
    let s : Sheet = sheet_of c.args.self.now in
    elim c.then-pos-eq0.branch [
      | then-pos-eq0-via-then-pos-eq0 w ↦ sym (recorded_none c.args.pos s w.if-pos-eq0.true)
      | then-pos-eq0-via-else-pos-eq0+then-not-is_kept w ↦ sym (recorded_bare c.args.pos s (sym w.is_kept.ensures ∙ w.if-not-is_kept.true))
    ]

pub record_or_hold-requires-clause-recorded : goal.record_or_hold-requires-clause-recorded
unfolding sheet_of
record_or_hold-requires-clause-recorded g c = both_true _ _ (sym c.is_kept.ensures ∙ c.if-not-is_kept.false) (not_zero c.args.pos.0 c.if-pos-eq0.false)
