use Rattle.std.proofs.Common.{◌≡◌, drop}
use Rattle.swc_ecma_codegen_syntax.specs.DeclForms.{are_resource_names}
use Rattle.swc_ecma_codegen_syntax.proofs.decls.are_resource_names.Given as goal

abbrev pub invariant-loop-declarator : goal.invariant-loop-declarator
invariant-loop-declarator g l = are_resource_names l.bars_of l.declarators ≡ are_resource_names l.bars_of (drop l.declarator-index l.declarators)
