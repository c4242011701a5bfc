use Rattle.std.proofs.Common.{subst}
use Rattle.std.specs.Result.{OnOk}
use Rattle.swc_ecma_codegen_parentheses.specs.Lists.{linked_as}
use Rattle.swc_ecma_codegen_parentheses.proofs.within.WithinMends.opt_call.Goals as goal

pub returns : goal.returns
unfolding linked_as
returns g c = subst (λ u. OnOk c.opt_call.result (linked_as u (g.M.Mends.mended c.args.self.now.mender.now) c.args.link.now c.opt_call.new.link)) c.within.ensures c.opt_call.ensures
