use Rattle.std.proofs.Common.{◌≡◌, take, drop}
use Rattle.swc_ecma_codegen_parentheses.specs.Lists.{Pairwise}
use Rattle.swc_ecma_codegen_parentheses.proofs.mends.VecMend.mend.Given as goal

abbrev pub invariant-loop-node : goal.invariant-loop-node
invariant-loop-node g l = record {
  done : Pairwise (g.T.Mend.same (g.M.Mends.mended l.mender)) (take l.node-index l.fn.self.items) (take l.node-index l.node-items);
  rest : drop l.node-index l.fn.self.items ≡ drop l.node-index l.node-items;
}
