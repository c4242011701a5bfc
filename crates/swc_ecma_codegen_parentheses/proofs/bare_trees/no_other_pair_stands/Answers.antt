use Rattle.swc_ecma_codegen_parentheses.proofs.OtherPairs.{no_other_pair}
use Rattle.swc_ecma_codegen_parentheses.proofs.bare_trees.no_other_pair_stands.Goals as goal

pub returns : goal.returns
returns c = λ standing n. no_other_pair standing n
