use Rattle.std.proofs.Common.{refl, ap, subst, ◌∙◌, true}
use Rattle.std.proofs.lemmas.Result.{err_from_is_err_and}
use Rattle.swc_ecma_codegen_text_writer.specs.Sheet.{Sheet, line_ended}
use Rattle.swc_ecma_codegen_text_writer.specs.View.{sheet_of, Reaches}
use Rattle.swc_ecma_codegen_text_writer.proofs.InPlace.{allowed_in_line, in_line_goes, in_line_still, in_next_line, held_alike}
use Rattle.swc_ecma_codegen_text_writer.proofs.Sheets.{Alike, alike_same, line_alike}
use Rattle.swc_ecma_codegen_text_writer.proofs.Steps.{first_halted, reached}
use Rattle.swc_ecma_codegen_text_writer.proofs.basic_impl.Lines.allow_in_next_line.Goals as goal

pub returns-in_err-end_due_line : goal.returns-in_err-end_due_line
unfolding Reaches
returns-in_err-end_due_line g c =
    let s : Sheet = sheet_of c.args.self.now in
    let a : Sheet = line_ended true s in
    let p = err_from_is_err_and c.from_residual.result c.from_residual.ensures.1 in
    let to = allowed_in_line true c.args.self.now.held s a (unfold sheet_of in refl) c.requires.goes refl in
    rw (p.1, p.2) (first_halted _ _ _ _ _ (subst (λ (z : Sheet). Alike a z) to (held_alike c.args.self.now.held a)) c.in_err-end_due_line.ensures.reaches)

pub release_in_place-requires-clause-fresh : goal.release_in_place-requires-clause-fresh
unfolding Reaches
release_in_place-requires-clause-fresh g c = ap (λ (s : Sheet). s.refused) c.in_ok-end_due_line.ensures.reaches ∙ (alike_same _ _ (line_alike true (sheet_of c.args.self.now))).refused ∙ c.requires.fresh

pub release_in_place-requires-clause-goes : goal.release_in_place-requires-clause-goes
unfolding Reaches
release_in_place-requires-clause-goes g c =
    let s : Sheet = sheet_of c.args.self.now in
    in_line_still c.args.self.now.held _ s _ c.end_due_line.ensures.held (ap (λ (z : Sheet). z.keeps_positions) c.in_ok-end_due_line.ensures.reaches ∙ (alike_same _ _ (line_alike true s)).keeps_positions) (in_line_goes true c.args.self.now.held s c.requires.goes)

pub returns : goal.returns
returns g c =
    let s : Sheet = sheet_of c.args.self.now in
    in_next_line c.args.self.now.held _ s _ _ _ (unfold sheet_of in refl) c.requires.goes c.end_due_line.ensures.held (reached _ _ _ _ c.in_ok-end_due_line.ensures.reaches) c.release_in_place.ensures
