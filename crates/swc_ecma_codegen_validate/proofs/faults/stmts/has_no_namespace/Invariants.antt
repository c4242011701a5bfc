use Rattle.std.proofs.Common.{◌≡◌, drop}
use Rattle.swc_ecma_codegen_validate.specs.StmtRules.{has_no_namespace}
use Rattle.swc_ecma_codegen_validate.proofs.faults.stmts.has_no_namespace.Given as goal

abbrev pub invariant-loop-specifier : goal.invariant-loop-specifier
invariant-loop-specifier l = has_no_namespace l.specifiers ≡ has_no_namespace (drop l.specifier-index l.specifiers)
