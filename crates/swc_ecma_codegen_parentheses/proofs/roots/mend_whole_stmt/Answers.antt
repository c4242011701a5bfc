use Rattle.std.proofs.lemmas.Result.{on_ok_weaker}
use Rattle.swc_ecma_codegen_parentheses.specs.Depths.{depth}
use Rattle.swc_ecma_codegen_parentheses.proofs.roots.mend_whole_stmt.Goals as goal

pub returns : goal.returns
returns c = on_ok_weaker c.mend_stmt.result (λ same. (depth c.in_ok-levels.levels, same)) c.mend_stmt.ensures
