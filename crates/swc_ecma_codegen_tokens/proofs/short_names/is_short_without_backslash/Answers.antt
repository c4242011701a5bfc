use Rattle.swc_ecma_codegen_tokens.proofs.NameTokens.ShortNames.{none_where}
use Rattle.swc_ecma_codegen_tokens.proofs.short_names.is_short_without_backslash.Goals as goal

pub returns : goal.returns
returns c = none_where _ 92 c.args.name.now c.lacks_backslash.ensures
