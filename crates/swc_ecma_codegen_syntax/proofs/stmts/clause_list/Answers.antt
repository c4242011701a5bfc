use Rattle.std.proofs.Common.{◌∙◌, ◌+◌, ap}
use Rattle.std.proofs.lemmas.List.{take_rest}
use Rattle.swc_ecma_codegen_syntax.specs.Forms.{judge}
use Rattle.swc_ecma_codegen_syntax.specs.StmtForms.{clause_item_form}
use Rattle.swc_ecma_codegen_syntax.proofs.StmtsJudged.{clause_next}
use Rattle.swc_ecma_codegen_syntax.proofs.stmts.clause_list.Goals as goal

pub loop-index-preserved : goal.loop-index-preserved
loop-index-preserved g c =
    c.loop-index.invariant
    ∙ clause_next g.N.Answers.answers c.args.parameters c.loop-index.verdict c.clause_item-verdict.result c.args.stmts.now c.loop-index.index c.index-stmts-index.result c.loop-index-test.true c.index-stmts-index.is
    (c.clause_item-verdict.ensures ∙ ap (λ xs. judge g.N.Answers.answers c.loop-index.verdict (clause_item_form c.args.parameters c.index-stmts-index.result xs)) (take_rest c.args.stmts.now (c.loop-index.index + 1)))
