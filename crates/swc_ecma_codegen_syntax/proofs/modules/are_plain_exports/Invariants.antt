use Rattle.std.proofs.Common.{◌≡◌, drop}
use Rattle.swc_ecma_codegen_syntax.specs.ModuleForms.{are_plain_exports}
use Rattle.swc_ecma_codegen_syntax.proofs.modules.are_plain_exports.Given as goal

abbrev pub invariant-loop-specifier : goal.invariant-loop-specifier
invariant-loop-specifier l = are_plain_exports l.specifiers ≡ are_plain_exports (drop l.specifier-index l.specifiers)
