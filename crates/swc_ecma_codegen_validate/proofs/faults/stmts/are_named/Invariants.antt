use Rattle.std.proofs.Common.{◌≡◌, drop}
use Rattle.swc_ecma_codegen_validate.specs.StmtRules.{are_named}
use Rattle.swc_ecma_codegen_validate.proofs.faults.stmts.are_named.Given as goal

abbrev pub invariant-loop-specifier : goal.invariant-loop-specifier
invariant-loop-specifier l = are_named l.specifiers ≡ are_named (drop l.specifier-index l.specifiers)
