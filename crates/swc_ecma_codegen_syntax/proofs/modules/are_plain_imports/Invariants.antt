use Rattle.std.proofs.Common.{◌≡◌, drop}
use Rattle.swc_ecma_codegen_syntax.specs.ModuleForms.{are_plain_imports}
use Rattle.swc_ecma_codegen_syntax.proofs.modules.are_plain_imports.Given as goal

abbrev pub invariant-loop-specifier : goal.invariant-loop-specifier
invariant-loop-specifier l = are_plain_imports l.specifiers ≡ are_plain_imports (drop l.specifier-index l.specifiers)
