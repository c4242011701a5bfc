use Rattle.std.proofs.Common.{◌≡◌, take, drop}
use Rattle.swc_ecma_codegen_visit.specs.Pairs.{Pairwise}
use Rattle.swc_ecma_codegen_parentheses.proofs.bare.open_each.Given as goal

abbrev pub invariant-loop-node : goal.invariant-loop-node
invariant-loop-node g l = record {
  done : Pairwise (λ a b. g.T.InList.opened a ≡ b) (take l.node-index l.fn.list.items) (take l.node-index l.node-items);
  rest : drop l.node-index l.fn.list.items ≡ drop l.node-index l.node-items;
}
