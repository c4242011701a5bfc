use Rattle.std.proofs.Common.{◌≡◌, ◌⊎◌, subst}
use Rattle.std.proofs.lemmas.Result.{IfOk-weaker}
use Rattle.swc_ecma_codegen_syntax.specs.declared.nonterminals.Nonterminal.TheVariants.{Expression}
use Rattle.swc_ecma_codegen_parentheses.specs.Roots.{SameExprTree}
use Rattle.swc_ecma_codegen_examples.proofs.parentheses.product.Goals as goal

-- the tree that got its parentheses is the product, but for them
pub returns-clause-product : goal.returns-clause-product
returns-clause-product c =
    IfOk-weaker c.parenthesize_expr.result _ _ (λ r same. (c.in_ok-product.product, (c.in_ok-product.ensures, subst (λ p. (c.in_ok-product.product ≡ r) ⊎ SameExprTree Expression p c.in_ok-product.product r) c.script.ensures same))) c.parenthesize_expr.ensures.same
