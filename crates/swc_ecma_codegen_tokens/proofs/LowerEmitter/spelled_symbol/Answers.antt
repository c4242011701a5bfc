use Rattle.std.proofs.Common.{sym, ◌∙◌}
use Rattle.swc_ecma_codegen_tokens.proofs.NameTokens.Spelled.{spelled_as_it_is}
use Rattle.swc_ecma_codegen_tokens.specs.Targets.{wants_escapes}
use Rattle.swc_ecma_codegen_tokens.specs.View.{state_of}
use Rattle.swc_ecma_codegen_tokens.proofs.LowerEmitter.spelled_symbol.Goals as goal

pub returns-clause-items : goal.returns-clause-items
unfolding wants_escapes
returns-clause-items g c = spelled_as_it_is _ _ (state_of c.args.cfg.now (g.W.WriteJs.sheet c.args.wr.now) c.args.self.now) _ _ (sym c.wants_escapes.ensures ∙ c.if-wants_escapes.false) c.symbol.ensures.items
