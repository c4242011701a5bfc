use Rattle.std.proofs.Common.{◌≡◌, ◌&&◌, false, subst, sym}
use Rattle.swc_ecma_codegen_grammar.specs.declared.roles.Role.TheVariants.{Expression}
use Rattle.swc_ecma_codegen_syntax.specs.NodeForms.{summary_of}
use Rattle.swc_ecma_codegen_syntax.specs.declared.verdicts.Verdict.{Verdict}
use Rattle.swc_ecma_codegen_tree.specs.declared.links.AnyNode.{AnyNode}
use Rattle.swc_ecma_codegen_parentheses.specs.Needed.{derives}
use Rattle.swc_ecma_codegen_parentheses.proofs.Needed.{not_derived}
use Rattle.swc_ecma_codegen_parentheses.proofs.lends.AnyNodeLends.lacks_parentheses.Goals as goal

pub returns-in-Expr : goal.returns-in-Expr
returns-in-Expr c = λ said.
    let lacks = subst (λ (v : Verdict). (v.covered && v.parenthesized) ≡ false) c.verdict_expr.ensures (c.lacks_some.ensures said) in
    subst (λ (n : AnyNode). derives c.args.nonterminal (summary_of n Expression c.args.parameters).facts ≡ false) (sym c.in-Expr.is) (not_derived c.args.nonterminal c.args.parameters c.in-Expr.expr lacks)
