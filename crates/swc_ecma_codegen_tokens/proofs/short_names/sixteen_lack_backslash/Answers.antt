use Rattle.std.proofs.Common.{arith}
use Rattle.swc_ecma_codegen_tokens.proofs.NameTokens.ShortNames.{lacks_from_lanes}
use Rattle.swc_ecma_codegen_tokens.proofs.short_names.sixteen_lack_backslash.Goals as goal

pub returns : goal.returns
returns c = lacks_from_lanes 92 c.args.text.now c.args.at 16 c.requires (omega arith)
