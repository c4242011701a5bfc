use Rattle.std.proofs.Common.{rules, sym}
use Rattle.swc_ecma_codegen_parentheses.specs.Lists.{linked_as, nothing}
use Rattle.swc_ecma_codegen_parentheses.proofs.InPlace.{one_more}
use Rattle.swc_ecma_codegen_parentheses.proofs.mends.mend_each.Goals as goal

pub loop-link-init : goal.loop-link-init
loop-link-init g c = record { done = nothing; rest = sym c.deref_mut-link-items.ensures.value }

pub loop-link-preserved : goal.loop-link-preserved
loop-link-preserved g c =
    let both = one_more (linked_as c.args.usage (g.M.Mends.mended c.args.mender.now)) c.args.links.now.items c.loop-link.link-items c.loop-link.link-index c.link-item.result c.expr.new.link (search rules) c.loop-link.invariant.rest c.loop-link.invariant.done c.in_ok-expr.ensures in
    record { done = both.0; rest = both.1 }
