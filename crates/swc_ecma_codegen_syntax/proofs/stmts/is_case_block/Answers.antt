use Rattle.std.proofs.Common.{◌∙◌, ◌+◌, sym, ap, drop}
use Rattle.swc_ecma_codegen_syntax.specs.StmtForms.{is_case_block}
use Rattle.swc_ecma_codegen_syntax.proofs.StmtsJudged.{case_block_next}
use Rattle.swc_ecma_codegen_syntax.proofs.stmts.is_case_block.Goals as goal

pub loop-case-preserved : goal.loop-case-preserved
loop-case-preserved g c =
    c.loop-case.invariant
    ∙ case_block_next c.loop-case.with_default c.is_default-default.result c.clashes-clash.result c.args.cases.now c.loop-case.case-index c.case-item.result c.loop-case-test.true c.case-item.is c.is_default-default.ensures c.clashes-clash.ensures c.if-clash.false
    ∙ ap (λ b. is_case_block b (drop (c.loop-case.case-index + 1) c.args.cases.now)) (sym c.is_behind_default-with_default.ensures)
