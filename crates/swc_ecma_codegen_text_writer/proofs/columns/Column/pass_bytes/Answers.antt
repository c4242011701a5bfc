use Rattle.std.proofs.Common.{◌≡◌, ◌+◌, take, get_or, arith, ap, sym, subst, ◌∙◌}
use Rattle.swc_ecma_codegen_text_writer.specs.Places.{after_text}
use Rattle.swc_ecma_codegen_text_writer.specs.Columns.{Stands}
use Rattle.swc_ecma_codegen_text_writer.proofs.Counting.{stands_first, stands_next, stands_end}
use Rattle.swc_ecma_codegen_text_writer.proofs.columns.Column.pass_bytes.Goals.{then-is_line_end, else-is_line_end}
use Rattle.swc_ecma_codegen_text_writer.proofs.columns.Column.pass_bytes.Goals as goal

pub loop-byte-init : goal.loop-byte-init
loop-byte-init c = record { stands = λ p s. stands_first _ c.args.text.now p s; few = c.args.self.now.few }

pub loop-byte-preserved : goal.loop-byte-preserved
loop-byte-preserved c =
    let i = c.loop-byte.byte-index in
    let byte : get_or c.as_bytes-byte-items.result.now i 0 ≡ get_or c.args.text.now i 0 = ap (λ xs. get_or xs i 0) c.as_bytes-byte-items.ensures.value in
    let f = c.loop-byte.invariant.few in
    elim c.if-is_line_end.branch [
      | then-is_line_end w ↦ record {
        stands = λ p s. subst (λ n. Stands n (after_text (take (i + 1) c.args.text.now) p)) (sym w.count-is) (stands_end _ _ c.args.text.now i p (omega arith) byte (sym c.is_line_end.ensures ∙ w.if-is_line_end.true) (c.loop-byte.invariant.stands p s));
        few = let n = w.count-is in omega (arith, n);
      }
      | else-is_line_end w ↦ record {
        stands = λ p s. subst (λ n. Stands n (after_text (take (i + 1) c.args.text.now) p)) (sym w.count-is) (stands_next _ _ _ _ c.args.text.now i p (omega arith) byte (sym c.is_line_end.ensures ∙ w.if-is_line_end.false) w.units.ensures.value w.next-count.ensures.value (c.loop-byte.invariant.stands p s));
        few = let n = w.count-is in let m = w.next-count.ensures.few in omega (arith, n, m);
      }
    ]
