use Rattle.swc_ecma_codegen_laws.proofs.UnboundedTexts.{text_unlined, pairs_unlined}
use Rattle.swc_ecma_codegen_laws.proofs.breaks.filled_lines_keep_the_text.Goals as goal

pub returns-clause-text : goal.returns-clause-text
returns-clause-text c = text_unlined

pub returns-clause-pairs : goal.returns-clause-pairs
returns-clause-pairs c = pairs_unlined
