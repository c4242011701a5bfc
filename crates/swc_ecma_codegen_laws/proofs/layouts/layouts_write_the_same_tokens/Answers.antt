use Rattle.swc_ecma_codegen_laws.proofs.TwoLayouts.Trees.{layouts_differ, layouts_stop}
use Rattle.swc_ecma_codegen_laws.proofs.layouts.layouts_write_the_same_tokens.Goals as goal

pub returns-clause-tokens : goal.returns-clause-tokens
returns-clause-tokens c = layouts_differ

pub returns-clause-stop : goal.returns-clause-stop
returns-clause-stop c = layouts_stop
