use Rattle.std.proofs.Common.{◌≡◌, drop}
use Rattle.swc_ecma_codegen_syntax.specs.ModuleForms.{are_named}
use Rattle.swc_ecma_codegen_syntax.proofs.modules.are_named.Given as goal

abbrev pub invariant-loop-specifier : goal.invariant-loop-specifier
invariant-loop-specifier l = are_named l.specifiers ≡ are_named (drop l.specifier-index l.specifiers)
