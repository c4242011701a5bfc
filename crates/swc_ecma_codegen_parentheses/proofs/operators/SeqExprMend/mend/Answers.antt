use Rattle.std.proofs.Common.{refl}
use Rattle.std.proofs.lemmas.Result.{on_ok_weaker}
use Rattle.swc_ecma_codegen_parentheses.specs.SameExprs.{same_seq_expr}
use Rattle.swc_ecma_codegen_parentheses.proofs.operators.SeqExprMend.mend.Goals as goal

pub returns : goal.returns
unfolding same_seq_expr
returns g c = on_ok_weaker c.mend_each.result (λ same. (refl, same)) c.mend_each.ensures
