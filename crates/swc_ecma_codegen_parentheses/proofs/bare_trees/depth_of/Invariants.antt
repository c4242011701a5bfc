use Rattle.std.proofs.Common.{◌≡◌}
use Rattle.swc_ecma_codegen_parentheses.proofs.bare_trees.depth_of.Given as goal

abbrev pub invariant-loop-depth : goal.invariant-loop-depth
invariant-loop-depth g l = record { same : g.T.Links.mapped (λ n. n) (λ n. n) l.fn.node ≡ g.T.Links.mapped (λ n. n) (λ n. n) l.node }
