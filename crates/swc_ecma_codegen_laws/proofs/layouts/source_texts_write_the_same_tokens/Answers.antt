use Rattle.swc_ecma_codegen_laws.proofs.TwoLayouts.Trees.{snippets_tell, sources_differ, sources_stop}
use Rattle.swc_ecma_codegen_laws.proofs.layouts.source_texts_write_the_same_tokens.Goals as goal

pub returns-clause-commas : goal.returns-clause-commas
returns-clause-commas c = sources_differ

pub returns-clause-snippets : goal.returns-clause-snippets
returns-clause-snippets c = snippets_tell

pub returns-clause-stop : goal.returns-clause-stop
returns-clause-stop c = sources_stop
