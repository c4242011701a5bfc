use Rattle.std.proofs.Common.{refl}
use Rattle.swc_ecma_codegen_examples.proofs.parentheses.operation_of.Goals as goal

pub returns : goal.returns
returns c = record { bin = _; is_bin = refl; has_op = refl; has_left = c.in_ok-left.ensures; has_right = c.in_ok-right.ensures }
