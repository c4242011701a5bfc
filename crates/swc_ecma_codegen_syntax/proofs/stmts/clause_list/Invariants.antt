use Rattle.std.proofs.Common.{◌≡◌, drop}
use Rattle.swc_ecma_codegen_syntax.specs.Forms.{judge}
use Rattle.swc_ecma_codegen_syntax.specs.StmtForms.{clause_list_form}
use Rattle.swc_ecma_codegen_syntax.proofs.stmts.clause_list.Given as goal

abbrev pub invariant-loop-index : goal.invariant-loop-index
invariant-loop-index g l =
    judge g.N.Answers.answers l.fn.so_far (clause_list_form l.parameters l.stmts) ≡ judge g.N.Answers.answers l.verdict (clause_list_form l.parameters (drop l.index l.stmts))
