use Rattle.std.proofs.Common.{◌≡◌, take, drop}
use Rattle.swc_ecma_codegen_parentheses.specs.Lists.{Pairwise, linked_as}
use Rattle.swc_ecma_codegen_parentheses.proofs.mends.mend_each.Given as goal

abbrev pub invariant-loop-link : goal.invariant-loop-link
invariant-loop-link g l = record {
  done : Pairwise (linked_as l.usage (g.M.Mends.mended l.mender)) (take l.link-index l.fn.links.items) (take l.link-index l.link-items);
  rest : drop l.link-index l.fn.links.items ≡ drop l.link-index l.link-items;
}
