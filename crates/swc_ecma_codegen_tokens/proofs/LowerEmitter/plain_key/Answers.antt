use Rattle.swc_ecma_codegen_tokens.proofs.NameTokens.KeySteps.{taking_bare}
use Rattle.swc_ecma_codegen_tokens.proofs.LiteralTokens.RewrittenLiterals.{does_takes}
use Rattle.swc_ecma_codegen_tokens.proofs.NameTokens.KeySteps.{key_symbol}
use Rattle.swc_ecma_codegen_tokens.proofs.LowerEmitter.plain_key.Goals as goal

pub returns-then-cfg-clause-items : goal.returns-then-cfg-clause-items
returns-then-cfg-clause-items g c = does_takes _ _ _ _ _ (key_symbol _ _ _ _ _ c.if-cfg.true c.symbol.ensures.items)

pub returns-clause-items : goal.returns-clause-items
returns-clause-items g c = taking_bare _ _ _ _ _ _ _ c.if-cfg.false c.bare_key.ensures.items
