use Rattle.std.proofs.Common.{◌∙◌, ◌+◌, ap}
use Rattle.std.proofs.lemmas.List.{take_rest}
use Rattle.swc_ecma_codegen_syntax.specs.Parameters.{in_list}
use Rattle.swc_ecma_codegen_syntax.specs.Forms.{judge}
use Rattle.swc_ecma_codegen_syntax.specs.StmtForms.{stmt_form, begins_empty}
use Rattle.swc_ecma_codegen_syntax.proofs.StmtsJudged.{list_next}
use Rattle.swc_ecma_codegen_syntax.proofs.stmts.list.Goals as goal

pub loop-index-preserved : goal.loop-index-preserved
loop-index-preserved g c =
    c.loop-index.invariant
    ∙ list_next g.N.Answers.answers c.args.parameters c.loop-index.verdict c.judge-verdict.result c.args.stmts.now c.loop-index.index c.index-stmts-index.result c.loop-index-test.true c.index-stmts-index.is
    (c.judge-verdict.ensures ∙ ap (λ p. judge g.N.Answers.answers c.loop-index.verdict (stmt_form p c.index-stmts-index.result))
    (c.in_list.ensures ∙ ap (λ b. in_list b c.args.parameters) (c.begins_empty-before_empty.ensures ∙ ap begins_empty (take_rest c.args.stmts.now (c.loop-index.index + 1)))))
