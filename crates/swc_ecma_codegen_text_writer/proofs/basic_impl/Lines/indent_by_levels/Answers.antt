use Rattle.std.proofs.Common.{◌≡◌, refl, ◌∙◌, ap, subst, arith}
use Rattle.std.proofs.lemmas.Result.{err_from_is_err_and}
use Rattle.swc_ecma_codegen_text_writer.specs.Sheet.{Sheet, appended, indented}
use Rattle.swc_ecma_codegen_text_writer.specs.View.{sheet_of, Reaches, Halted}
use Rattle.swc_ecma_codegen_text_writer.proofs.Sheets.{alike_same, indented_alike}
use Rattle.swc_ecma_codegen_text_writer.proofs.Steps.{indented_zero, indented_more, halted_within_indent}
use Rattle.swc_ecma_codegen_text_writer.proofs.basic_impl.Lines.indent_by_levels.Goals as goal

pub loop-init : goal.loop-init
unfolding sheet_of
loop-init g c = record { sheet = indented_zero _; indent_text = refl; end = refl; within = omega arith }

-- the sheets so far have the mark of the first one
pub send-requires : goal.send-requires
send-requires g c = ap (λ (s : Sheet). s.refused) c.loop.invariant.sheet ∙ (alike_same _ _ (indented_alike c.loop.counter (sheet_of c.args.self.now))).refused ∙ c.requires

pub loop-preserved : goal.loop-preserved
unfolding sheet_of Reaches
loop-preserved g c =
    record {
      sheet = c.in_ok-send.ensures ∙ ap (appended (sheet_of c.args.self.now).indent_text) c.loop.invariant.sheet ∙ indented_more c.loop.counter (sheet_of c.args.self.now);
      indent_text = c.loop.invariant.indent_text;
      end = c.loop.invariant.end;
      within = omega arith;
    }

pub returns-in_err-send : goal.returns-in_err-send
unfolding sheet_of Reaches
returns-in_err-send g c =
    let P : Sheet → Type 0 = λ s. Halted c.in_err-send.field-0.0 (appended (sheet_of c.args.self.now).indent_text s) s (sheet_of c.send.new.self) in
    let p = err_from_is_err_and c.from_residual.result c.from_residual.ensures.1 in
    rw (p.1, p.2) (halted_within_indent _ c.loop.counter _ _ _ (omega (arith, c.loop-test.true, c.loop.invariant.end)) (subst P c.loop.invariant.sheet c.in_err-send.ensures))

pub returns : goal.returns
unfolding Reaches
returns g c =
    let all : c.loop.counter ≡ (sheet_of c.args.self.now).indentation = omega (arith, c.loop.invariant.end, c.loop.invariant.within, c.loop-test.false) in
    c.loop.invariant.sheet ∙ ap (λ n. indented n (sheet_of c.args.self.now)) all
