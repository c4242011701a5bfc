use Rattle.std.proofs.Common.{subst}
use Rattle.std.specs.Result.{OnOk}
use Rattle.swc_ecma_codegen_parentheses.specs.Lists.{linked_as}
use Rattle.swc_ecma_codegen_parentheses.proofs.within.WithinMends.pat.Goals as goal

pub returns : goal.returns
unfolding linked_as
returns g c = subst (λ u. OnOk c.pat.result (linked_as u (g.M.Mends.mended c.args.self.now.mender.now) c.args.link.now c.pat.new.link)) c.within.ensures c.pat.ensures
