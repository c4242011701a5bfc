use Rattle.std.proofs.Common.{sym, ◌∙◌}
use Rattle.swc_ecma_codegen_literals.proofs.Nulls.{turned_no_backslash}
use Rattle.swc_ecma_codegen_tokens.proofs.NameTokens.Spelled.{remade}
use Rattle.swc_ecma_codegen_tokens.proofs.LowerEmitter.valid_symbol.Goals as goal

pub returns-then-not-has_backslash-clause-items : goal.returns-then-not-has_backslash-clause-items
returns-then-not-has_backslash-clause-items g c = remade _ _ _ _ _ _ (sym (turned_no_backslash c.args.name.now (sym c.has_backslash.ensures ∙ c.if-not-has_backslash.true))) c.spelled_symbol.ensures.items
