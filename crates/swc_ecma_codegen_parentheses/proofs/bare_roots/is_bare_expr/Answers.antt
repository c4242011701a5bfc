use Rattle.swc_ecma_codegen_parentheses.proofs.BareRoots.{expr_bare}
use Rattle.swc_ecma_codegen_parentheses.proofs.bare_roots.is_bare_expr.Goals as goal

pub returns : goal.returns
returns c = λ is. expr_bare _ _ _ _ _ c.in_ok-depth.ensures c.in_ok-change_links.ensures c.in_ok-open_values.ensures (c.is_out_of_pair.ensures is)
