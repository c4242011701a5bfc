use Rattle.std.proofs.Common.{◌≡◌, false, take}
use Rattle.swc_ecma_codegen_text_writer.specs.Sheet.{has_pair}
use Rattle.swc_ecma_codegen_text_writer.proofs.positions.holds.Given as goal

-- it is none of those that were looked at
abbrev pub invariant-loop-other : goal.invariant-loop-other
invariant-loop-other l = has_pair l.pair (take l.other-index l.pairs) ≡ false
