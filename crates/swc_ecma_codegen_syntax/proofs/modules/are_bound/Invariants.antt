use Rattle.std.proofs.Common.{◌≡◌, drop}
use Rattle.swc_ecma_codegen_syntax.specs.ModuleForms.{are_bound}
use Rattle.swc_ecma_codegen_syntax.proofs.modules.are_bound.Given as goal

abbrev pub invariant-loop-specifier : goal.invariant-loop-specifier
invariant-loop-specifier l = are_bound l.parameters l.specifiers ≡ are_bound l.parameters (drop l.specifier-index l.specifiers)
