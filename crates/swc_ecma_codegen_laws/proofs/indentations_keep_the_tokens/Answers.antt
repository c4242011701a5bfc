use Rattle.swc_ecma_codegen_laws.proofs.SameTokens.{emissions_same}
use Rattle.swc_ecma_codegen_laws.proofs.indentations_keep_the_tokens.Goals as goal

pub returns : goal.returns
returns c = emissions_same
