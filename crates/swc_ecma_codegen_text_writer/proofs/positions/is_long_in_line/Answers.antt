use Rattle.std.proofs.Common.{sym, ◌∙◌, arith}
use Rattle.swc_ecma_codegen_text_writer.proofs.InLine.{covered_by_last, run_more, run_stops}
use Rattle.swc_ecma_codegen_text_writer.proofs.positions.is_long_in_line.Goals as goal

pub returns-then-not-run_in_line : goal.returns-then-not-run_in_line
returns-then-not-run_in_line c = sym (run_stops c.loop-at.at 16 c.args.text.now (sym c.run_in_line.ensures ∙ c.if-not-run_in_line.true))

pub loop-at-preserved : goal.loop-at-preserved
loop-at-preserved c = record {
  passed = run_more c.loop-at.at 16 c.args.text.now c.loop-at.invariant.passed (sym c.run_in_line.ensures ∙ c.if-not-run_in_line.false);
  near = omega arith;
}

pub returns : goal.returns
returns c = covered_by_last c.loop-at.at 16 c.args.text.now _ c.requires c.loop-at-test.false c.loop-at.invariant.passed c.run_in_line-2.ensures
