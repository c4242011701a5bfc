use Rattle.swc_ecma_codegen_grammar.proofs.LayoutLaws.{alongside, written_alongside, written_alike}
use Rattle.swc_ecma_codegen_laws.proofs.layouts_keep_the_tokens.Goals as goal

pub returns-clause-lists : goal.returns-clause-lists
returns-clause-lists c = alongside

pub returns-clause-reduced : goal.returns-clause-reduced
returns-clause-reduced c = written_alongside

pub returns-clause-written : goal.returns-clause-written
returns-clause-written c = written_alike
