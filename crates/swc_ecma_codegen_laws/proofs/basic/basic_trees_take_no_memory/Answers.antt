use Rattle.swc_ecma_codegen_laws.proofs.BasicTrees.{root_takes_none}
use Rattle.swc_ecma_codegen_laws.proofs.basic.basic_trees_take_no_memory.Goals as goal

pub returns : goal.returns
returns c = root_takes_none
