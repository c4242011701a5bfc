use Rattle.std.proofs.Common.{refl, subst}
use Rattle.std.proofs.lemmas.Result.{on_ok_weaker}
use Rattle.swc_ecma_codegen_parentheses.specs.Lists.{Pairwise, linked_as}
use Rattle.swc_ecma_codegen_parentheses.specs.SameExprs.{same_tpl}
use Rattle.swc_ecma_codegen_parentheses.proofs.members.TplMend.mend.Goals as goal

pub returns : goal.returns
unfolding same_tpl
returns g c =
    on_ok_weaker c.mend_each.result (λ same. (refl, subst (λ u. Pairwise (linked_as u (g.M.Mends.mended c.args.mender.now)) c.args.self.now.exprs.items c.mend_each.new.links.items) c.in_brackets-usage.ensures same)) c.mend_each.ensures
