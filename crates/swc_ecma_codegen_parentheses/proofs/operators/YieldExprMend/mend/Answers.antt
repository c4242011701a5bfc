use Rattle.std.proofs.Common.{refl}
use Rattle.std.proofs.lemmas.Result.{on_ok_weaker}
use Rattle.swc_ecma_codegen_parentheses.specs.SameExprs.{same_yield_expr}
use Rattle.swc_ecma_codegen_parentheses.proofs.operators.YieldExprMend.mend.Goals as goal

pub returns : goal.returns
unfolding same_yield_expr
returns g c = on_ok_weaker c.mend_if_any.result (λ same. (refl, same)) c.mend_if_any.ensures
