use Rattle.std.proofs.Common.{◌≡◌, sym, ◌∙◌, ap, Some}
use Rattle.std.specs.Option.{option_copied_mut}
use Rattle.std.proofs.lemmas.Option.{same_Some}
use Rattle.swc_ecma_codegen_tree.specs.declared.exprs.Expr.TheVariants as exprs
use Rattle.swc_ecma_codegen_tree.specs.declared.exprs.UnaryExpr.{UnaryExpr}
use Rattle.swc_ecma_codegen_tree.proofs.Lending.{left_there}
use Rattle.swc_ecma_codegen_examples.proofs.set_operator.Goals as goal

-- what the link holds afterwards is what was left there: the node that it held, with the operator changed
pub returns-in-Unary : goal.returns-in-Unary
returns-in-Unary g c = λ node held.
    let changed = λ (n : UnaryExpr g.row.N.Denot). exprs.Unary (record n { op = c.args.op }) in
    let was : exprs.Unary c.in-Unary.node ≡ exprs.Unary node = same_Some _ _ (ap Some (sym c.in-Unary.is) ∙ sym (ap option_copied_mut c.in-Some.is) ∙ c.get_mut.ensures.node ∙ held) in
    let same : c.in-Unary.node ≡ node = cc in
    (left_there c.get_mut.result c.in-Some.expr c.in-Some.is (c.get_mut.follows.holds (changed c.in-Unary.node))).0 ∙ ap (λ n. Some (changed n)) same
