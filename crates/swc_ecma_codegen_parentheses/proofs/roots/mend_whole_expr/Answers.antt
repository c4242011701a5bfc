use Rattle.std.proofs.Common.{subst}
use Rattle.std.proofs.lemmas.Result.{on_ok_weaker}
use Rattle.swc_ecma_codegen_spans.specs.Spans.{any_span}
use Rattle.swc_ecma_codegen_syntax.specs.NodeForms.{summary_of}
use Rattle.swc_ecma_codegen_parentheses.specs.declared.mends.Usage.TheVariants.{Part}
use Rattle.swc_ecma_codegen_parentheses.specs.Depths.{depth}
use Rattle.swc_ecma_codegen_parentheses.specs.Enclosed.{SameExpr}
use Rattle.swc_ecma_codegen_parentheses.specs.Roots.{added, expr_in}
use Rattle.swc_ecma_codegen_parentheses.specs.Whole.{same_to}
use Rattle.swc_ecma_codegen_parentheses.proofs.roots.mend_whole_expr.Goals as goal

pub returns : goal.returns
returns c =
    let levels = depth c.in_ok-levels.levels in
    on_ok_weaker c.mend_expr.result (λ same. (levels, subst (λ at. SameExpr summary_of expr_in any_span (same_to added levels) (Part c.args.place at) c.args.expr.now c.mend_expr.new.expr) c.free.ensures same)) c.mend_expr.ensures
