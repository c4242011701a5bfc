use Rattle.std.proofs.Common.{◌≡◌, ◌+◌, take, get_or, sym, subst, arith, ap, ◌∙◌}
use Rattle.swc_ecma_codegen_text_writer.specs.Places.{after_byte, after_text}
use Rattle.swc_ecma_codegen_text_writer.specs.Reach.{Shows}
use Rattle.swc_ecma_codegen_text_writer.proofs.Reaching.{after_text_take, after_text_nil}
use Rattle.swc_ecma_codegen_text_writer.proofs.positions.Reached.after_text.Goals as goal

pub loop-byte-init : goal.loop-byte-init
loop-byte-init c = record {
  shows = λ p h. subst (Shows c.args.self) (sym (after_text_nil p)) h;
  order = omega arith;
}

pub loop-byte-preserved : goal.loop-byte-preserved
loop-byte-preserved c = record {
  shows = λ p h.
      let i = c.loop-byte.byte-index in
      let before = after_text (take i c.args.text.now) p in
      let byte : get_or c.as_bytes-byte-items.result.now i 0 ≡ get_or c.args.text.now i 0 = ap (λ xs. get_or xs i 0) c.as_bytes-byte-items.ensures.value in
      let after : after_text (take (i + 1) c.args.text.now) p ≡ after_byte (get_or c.as_bytes-byte-items.result.now i 0) before =
      after_text_take c.args.text.now i 0 p (omega arith) ∙ ap (λ x. after_byte x before) (sym byte) in
      subst (Shows c.after-reached.result) (sym after) (c.after-reached.ensures.shows before (c.loop-byte.invariant.shows p h));
  order = omega arith;
}
