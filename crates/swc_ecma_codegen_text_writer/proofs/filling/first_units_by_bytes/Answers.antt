use Rattle.std.proofs.Common.{◌≡◌, get_or, true, false, sym, ap, ◌∙◌, arith}
use Rattle.swc_ecma_codegen_text_writer.specs.Places.{units_of}
use Rattle.swc_ecma_codegen_text_writer.specs.Characters.{is_line_end}
use Rattle.swc_ecma_codegen_text_writer.proofs.Reaching.{first_drop, first_stop, first_all}
use Rattle.swc_ecma_codegen_text_writer.proofs.filling.first_units_by_bytes.Goals as goal

pub returns-then-is_line_end : goal.returns-then-is_line_end
returns-then-is_line_end c =
    let i = c.loop-byte.byte-index in
    let byte : get_or c.as_bytes-byte-items.result.now i 0 ≡ get_or c.args.text.now i 0 = ap (λ xs. get_or xs i 0) c.as_bytes-byte-items.ensures.value in
    let k : is_line_end (get_or c.args.text.now i 0) ≡ true = ap is_line_end (sym byte) ∙ sym c.is_line_end.ensures ∙ c.if-is_line_end.true in
    let e = first_stop c.args.text.now i 0 (omega arith) k in
    let a = c.loop-byte.invariant.all in
    omega arith

pub loop-byte-preserved : goal.loop-byte-preserved
loop-byte-preserved c =
    let i = c.loop-byte.byte-index in
    let byte : get_or c.as_bytes-byte-items.result.now i 0 ≡ get_or c.args.text.now i 0 = ap (λ xs. get_or xs i 0) c.as_bytes-byte-items.ensures.value in
    let k : is_line_end (get_or c.args.text.now i 0) ≡ false = ap is_line_end (sym byte) ∙ sym c.is_line_end.ensures ∙ c.if-is_line_end.false in
    let e = first_drop c.args.text.now i 0 (omega arith) k in
    let u : c.units.result ≡ units_of (get_or c.args.text.now i 0) = c.units.ensures.value ∙ ap units_of byte in
    let a = c.loop-byte.invariant.all in
    record { all = omega arith; few = omega arith }

pub returns : goal.returns
returns c =
    let e = first_all c.args.text.now c.loop-byte.byte-index (omega arith) in
    let a = c.loop-byte.invariant.all in
    omega arith
