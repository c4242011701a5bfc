use Rattle.std.proofs.Common.{sym, ◌∙◌, arith}
use Rattle.swc_ecma_codegen_text_writer.proofs.Recording.{none_more, has_here, has_none}
use Rattle.swc_ecma_codegen_text_writer.proofs.positions.holds.Goals as goal

pub loop-other-init : goal.loop-other-init
loop-other-init c = has_none c.args.pair

pub returns-then-is_same : goal.returns-then-is_same
returns-then-is_same c =
    sym (has_here c.args.pair c.args.pairs.now c.loop-other.other-index _ (omega arith) (sym c.is_same.ensures ∙ c.if-is_same.true))

pub loop-other-preserved : goal.loop-other-preserved
loop-other-preserved c =
    none_more c.args.pair c.args.pairs.now c.loop-other.other-index _ (omega arith) c.loop-other.invariant (sym c.is_same.ensures ∙ c.if-is_same.false)
