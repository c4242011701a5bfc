use Rattle.swc_ecma_codegen_parentheses.proofs.Needed.{not_true, underived}
use Rattle.swc_ecma_codegen_parentheses.proofs.operands.are_needed_before.Goals as goal

pub returns-in_default : goal.returns-in_default
returns-in_default g c = λ is. underived _ _ (c.is_called_bare.ensures (not_true c.is_called_bare.result is))
