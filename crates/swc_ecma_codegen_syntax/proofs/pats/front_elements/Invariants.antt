use Rattle.std.proofs.Common.{◌≡◌, drop}
use Rattle.swc_ecma_codegen_syntax.specs.declared.nonterminals.Nonterminal.TheVariants.{PatternElement}
use Rattle.swc_ecma_codegen_syntax.specs.Forms.{judge, verdict_all}
use Rattle.swc_ecma_codegen_syntax.specs.PatForms.{pat_element_form}
use Rattle.swc_ecma_codegen_syntax.proofs.pats.front_elements.Given as goal

abbrev pub invariant-loop-node : goal.invariant-loop-node
invariant-loop-node g l =
    verdict_all (λ n v. judge g.N.Answers.answers v (pat_element_form PatternElement l.parameters n)) l.fn.so_far l.elements
    ≡ verdict_all (λ n v. judge g.N.Answers.answers v (pat_element_form PatternElement l.parameters n)) l.verdict (drop l.node-index l.elements)
