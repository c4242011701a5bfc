use Rattle.std.proofs.Common.{◌≡◌, drop}
use Rattle.swc_ecma_codegen_validate.specs.TemplateStates.{all_elements}
use Rattle.swc_ecma_codegen_validate.proofs.templates.all_elements.Given as goal

abbrev pub invariant-loop-element : goal.invariant-loop-element
invariant-loop-element l = all_elements l.tagged l.elements ≡ all_elements l.tagged (drop l.element-index l.elements)
