use Rattle.std.proofs.Common.{◌≡◌, drop}
use Rattle.swc_ecma_codegen_syntax.specs.Forms.{judge}
use Rattle.swc_ecma_codegen_syntax.specs.ModuleForms.{items_form}
use Rattle.swc_ecma_codegen_syntax.proofs.programs.items.Given as goal

abbrev pub invariant-loop-index : goal.invariant-loop-index
invariant-loop-index g l =
    judge g.N.Answers.answers l.fn.so_far (items_form l.parameters l.items) ≡ judge g.N.Answers.answers l.verdict (items_form l.parameters (drop l.index l.items))
