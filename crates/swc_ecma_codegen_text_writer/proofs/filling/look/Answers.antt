use Rattle.std.proofs.Common.{arith, refl, zero-add}
use Rattle.swc_ecma_codegen_text_writer.proofs.Counting.{column_next, column_none, units_next, units_all}
use Rattle.swc_ecma_codegen_text_writer.proofs.filling.look.Goals as goal

pub loop-byte-init : goal.loop-byte-init
loop-byte-init c = record { column = λ h p. column_none p; units = λ h. zero-add _; few = omega arith }

pub loop-byte-preserved : goal.loop-byte-preserved
loop-byte-preserved c =
    let u = c.few_units-count.ensures.few in
    let f = c.loop-byte.invariant.few in
    record {
      column = λ k p. column_next c.loop-byte.least _ _ c.loop-byte.count _ _ c.args.text.now c.loop-byte.byte-index p (omega arith) refl c.min-least.ensures c.few_units-count.ensures.value refl k (λ j. c.loop-byte.invariant.column j p);
      units = λ k. units_next c.loop-byte.least _ _ c.loop-byte.count _ _ c.args.text.now c.loop-byte.byte-index (omega arith) refl c.min-least.ensures c.few_units-count.ensures.value refl k c.loop-byte.invariant.units;
      few = omega (arith, u, f);
    }

pub returns-clause-units : goal.returns-clause-units
returns-clause-units c = λ k. units_all c.loop-byte.count c.args.text.now c.loop-byte.byte-index (omega arith) (c.loop-byte.invariant.units k)
