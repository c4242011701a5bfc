use Rattle.swc_ecma_codegen_tokens.proofs.NameTokens.KeySteps.{taking_kept}
use Rattle.swc_ecma_codegen_tokens.proofs.LiteralTokens.RewrittenLiterals.{does_takes}
use Rattle.std.proofs.Common.{sym, ◌∙◌}
use Rattle.swc_ecma_codegen_tokens.specs.Targets.{wants_escapes}
use Rattle.swc_ecma_codegen_tokens.specs.View.{state_of}
use Rattle.swc_ecma_codegen_tokens.proofs.LowerEmitter.spelled_key.Goals as goal

pub returns-clause-items : goal.returns-clause-items
unfolding wants_escapes
returns-clause-items g c = taking_kept _ _ _ _ (state_of c.args.cfg.now (g.W.WriteJs.sheet c.args.wr.now) c.args.self.now) _ _ (sym c.wants_escapes.ensures ∙ c.if-wants_escapes.false) c.plain_key.ensures.items

pub returns-then-wants_escapes-clause-items : goal.returns-then-wants_escapes-clause-items
returns-then-wants_escapes-clause-items g c = does_takes _ _ _ _ _ c.escaped_key.ensures.items
