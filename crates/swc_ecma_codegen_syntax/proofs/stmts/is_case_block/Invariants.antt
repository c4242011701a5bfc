use Rattle.std.proofs.Common.{◌≡◌, false, drop}
use Rattle.swc_ecma_codegen_syntax.specs.StmtForms.{is_case_block}
use Rattle.swc_ecma_codegen_syntax.proofs.stmts.is_case_block.Given as goal

abbrev pub invariant-loop-case : goal.invariant-loop-case
invariant-loop-case g l = is_case_block false l.cases ≡ is_case_block l.with_default (drop l.case-index l.cases)
