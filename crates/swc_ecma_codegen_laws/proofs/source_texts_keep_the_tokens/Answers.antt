use Rattle.swc_ecma_codegen_laws.proofs.SameTokens.{texts_alike, texts_same, emissions_alike}
use Rattle.swc_ecma_codegen_laws.proofs.source_texts_keep_the_tokens.Goals as goal

pub returns-clause-texts : goal.returns-clause-texts
returns-clause-texts c = texts_alike

pub returns-clause-same : goal.returns-clause-same
returns-clause-same c = texts_same

pub returns-clause-emissions : goal.returns-clause-emissions
returns-clause-emissions c = emissions_alike
