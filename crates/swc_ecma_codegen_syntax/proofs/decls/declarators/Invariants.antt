use Rattle.std.proofs.Common.{◌≡◌, drop}
use Rattle.swc_ecma_codegen_syntax.specs.Forms.{judge, verdict_all}
use Rattle.swc_ecma_codegen_syntax.specs.DeclForms.{declarator_form}
use Rattle.swc_ecma_codegen_syntax.proofs.decls.declarators.Given as goal

abbrev pub invariant-loop-node : goal.invariant-loop-node
invariant-loop-node g l =
    verdict_all (λ n v. judge g.N.Answers.answers v (declarator_form l.parameters l.constant n)) l.fn.so_far l.declarators
    ≡ verdict_all (λ n v. judge g.N.Answers.answers v (declarator_form l.parameters l.constant n)) l.verdict (drop l.node-index l.declarators)
