use Rattle.swc_ecma_codegen_tokens.proofs.LiteralTokens.RawTexts.{ascii_is}
use Rattle.swc_ecma_codegen_tokens.proofs.raws.is_ascii.Goals as goal

pub returns : goal.returns
returns c = ascii_is _ c.args.text.now c.is_ascii.ensures.cases
