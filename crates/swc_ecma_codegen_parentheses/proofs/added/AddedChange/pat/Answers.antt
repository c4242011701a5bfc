use Rattle.std.proofs.Common.{ap, sym}
use Rattle.std.proofs.lemmas.Result.{on_ok_weaker}
use Rattle.std.specs.Option.{option_and_then}
use Rattle.swc_ecma_codegen_tree.specs.LinkTargets.{pat_in}
use Rattle.swc_ecma_codegen_tree.specs.declared.links.Link.{Link}
use Rattle.swc_ecma_codegen_tree.specs.declared.sorts.ToPat.{ToPat}
use Rattle.swc_ecma_codegen_parentheses.specs.Lent.{lent}
use Rattle.swc_ecma_codegen_parentheses.specs.Lists.{linked_as}
use Rattle.swc_ecma_codegen_parentheses.specs.Whole.{changed, kept, pattern}
use Rattle.swc_ecma_codegen_parentheses.proofs.InPlace.{lent_changed}
use Rattle.swc_ecma_codegen_parentheses.proofs.added.AddedChange.pat.Goals as goal

pub returns-in-Some : goal.returns-in-Some
unfolding linked_as
returns-in-Some g c =
    let node_in = λ (link : Link ToPat g.row.N.Denot). option_and_then pat_in (g.N.Holds-2.node_in link.node.value) in
    let both = lent_changed node_in c.args.link.now c.get_mut.result c.in-Some.node c.get_mut.follows.lender c.in-Some.is c.get_mut.ensures.node c.get_mut.follows.holds c.mend_pat.new.pat in
    on_ok_weaker c.mend_pat.result (λ same. changed (pattern (lent both.0 both.1 same))) c.mend_pat.ensures

pub returns-in-None : goal.returns-in-None
unfolding linked_as
returns-in-None g c = changed (kept (ap (λ (l : Link ToPat g.row.N.Denot). l.node.value) (sym c.get_mut.follows.holds-at-none)))
