use Rattle.std.proofs.Common.{sym, ◌∙◌, subst}
use Rattle.swc_ecma_codegen_text_writer.specs.Sheet.{Sheet}
use Rattle.swc_ecma_codegen_tokens.specs.View.{state_of}
use Rattle.swc_ecma_codegen_tokens.specs.Run.{Does}
use Rattle.swc_ecma_codegen_tokens.specs.Words.{spelled_symbol, valid_symbol}
use Rattle.swc_ecma_codegen_tokens.proofs.NameTokens.Spelled.{kept_name, made_name}
use Rattle.swc_ecma_codegen_tokens.proofs.LowerEmitter.name_text.Goals as goal

-- the sheet is what it was before the question
pub returns-then-can_ignore_invalid_unicodes-clause-items : goal.returns-then-can_ignore_invalid_unicodes-clause-items
returns-then-can_ignore_invalid_unicodes-clause-items g c =
    let P : Sheet → Type 0 = λ s. Does (spelled_symbol c.args.span c.args.sym.now) (state_of c.args.cfg.now s c.args.self.now) (state_of c.args.cfg.now (g.W.WriteJs.sheet c.spelled_symbol.new.wr) c.spelled_symbol.new.self) c.spelled_symbol.result in
    kept_name _ _ _ _ _ (sym c.can_ignore_invalid_unicodes.ensures.answer ∙ c.if-can_ignore_invalid_unicodes.true) (subst P c.can_ignore_invalid_unicodes.ensures.same c.spelled_symbol.ensures.items)

pub returns-clause-items : goal.returns-clause-items
returns-clause-items g c =
    let P : Sheet → Type 0 = λ s. Does (valid_symbol c.args.span c.args.sym.now) (state_of c.args.cfg.now s c.args.self.now) (state_of c.args.cfg.now (g.W.WriteJs.sheet c.valid_symbol.new.wr) c.valid_symbol.new.self) c.valid_symbol.result in
    made_name _ _ _ _ _ (sym c.can_ignore_invalid_unicodes.ensures.answer ∙ c.if-can_ignore_invalid_unicodes.false) (subst P c.can_ignore_invalid_unicodes.ensures.same c.valid_symbol.ensures.items)
