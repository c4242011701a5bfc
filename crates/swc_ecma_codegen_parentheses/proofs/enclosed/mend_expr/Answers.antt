use Rattle.std.proofs.Common.{subst}
use Rattle.std.proofs.lemmas.Result.{on_ok_weaker}
use Rattle.swc_ecma_codegen_parentheses.specs.Enclosed.{bare, enclosed, encloses}
use Rattle.swc_ecma_codegen_parentheses.specs.Needed.{needs}
use Rattle.swc_ecma_codegen_parentheses.specs.Operands.{within}
use Rattle.swc_ecma_codegen_parentheses.specs.SameExprs.{same_expr}
use Rattle.swc_ecma_codegen_parentheses.proofs.enclosed.mend_expr.Goals as goal

pub returns-in_ok-expr : goal.returns-in_ok-expr
returns-in_ok-expr g c =
    let same = subst (λ at. same_expr (λ u. g.M.Mends.mended c.args.mender.now (within at u)) c.args.expr.now c.mend.new.self) c.context-inside.ensures c.in_ok-mend.ensures in
    let pair = subst (λ n. encloses g.N.Holds-1.node_in g.N.Spanned.place (needs g.N.Answers.answers c.args.usage) n c.in_ok-expr.field-0) c.replace-bare.ensures.value c.in_ok-expr.ensures in
    enclosed c.context-context.result c.context-context.ensures c.mend.new.self same pair

pub returns-else-wants_parentheses : goal.returns-else-wants_parentheses
returns-else-wants_parentheses g c =
    on_ok_weaker c.mend-else-wants_parentheses.result (λ same. bare c.context-context.result c.context-context.ensures same) c.mend-else-wants_parentheses.ensures
