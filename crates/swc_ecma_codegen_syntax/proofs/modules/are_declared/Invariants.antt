use Rattle.std.proofs.Common.{◌≡◌, drop}
use Rattle.swc_ecma_codegen_syntax.specs.ModuleForms.{are_declared}
use Rattle.swc_ecma_codegen_syntax.proofs.modules.are_declared.Given as goal

abbrev pub invariant-loop-specifier : goal.invariant-loop-specifier
invariant-loop-specifier l = are_declared l.parameters l.specifiers ≡ are_declared l.parameters (drop l.specifier-index l.specifiers)
