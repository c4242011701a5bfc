use Rattle.std.proofs.Common.{◌≡◌, take, drop}
use Rattle.swc_ecma_codegen_visit.specs.Pairs.{Pairwise}
use Rattle.swc_ecma_codegen_visit.proofs.below.VecLinks.links_mut.Given as goal

abbrev pub invariant-loop-node : goal.invariant-loop-node
invariant-loop-node g l = record {
  done : Pairwise (λ a b. g.T.Links.mapped g.B.Below.ident_before g.B.Below.before a ≡ g.T.Links.mapped g.B.Below.ident_after g.B.Below.after b) (take l.node-index l.fn.self.items) (take l.node-index l.node-items);
  rest : drop l.node-index l.fn.self.items ≡ drop l.node-index l.node-items;
}
