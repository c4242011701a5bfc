use Rattle.std.proofs.Common.{sym, ◌∙◌, subst}
use Rattle.swc_ecma_codegen_text_writer.specs.Sheet.{Sheet}
use Rattle.swc_ecma_codegen_tokens.specs.View.{state_of}
use Rattle.swc_ecma_codegen_tokens.specs.PrivateNames.{spelled_private, valid_private}
use Rattle.swc_ecma_codegen_tokens.specs.Run.{Does}
use Rattle.swc_ecma_codegen_tokens.proofs.NameTokens.PrivateSteps.{kept_private, made_private}
use Rattle.swc_ecma_codegen_tokens.proofs.LowerEmitter.private_text.Goals as goal

-- the sheet is what it was before the question
pub returns-then-can_ignore_invalid_unicodes-clause-items : goal.returns-then-can_ignore_invalid_unicodes-clause-items
returns-then-can_ignore_invalid_unicodes-clause-items g c =
    let P : Sheet → Type 0 = λ s. Does (spelled_private c.args.span c.args.name.now) (state_of c.args.cfg.now s c.args.self.now) (state_of c.args.cfg.now (g.W.WriteJs.sheet c.spelled_private.new.wr) c.spelled_private.new.self) c.spelled_private.result in
    kept_private _ _ _ _ _ (sym c.can_ignore_invalid_unicodes.ensures.answer ∙ c.if-can_ignore_invalid_unicodes.true) (subst P c.can_ignore_invalid_unicodes.ensures.same c.spelled_private.ensures.items)

pub returns-clause-items : goal.returns-clause-items
returns-clause-items g c =
    let P : Sheet → Type 0 = λ s. Does (valid_private c.args.span c.args.name.now) (state_of c.args.cfg.now s c.args.self.now) (state_of c.args.cfg.now (g.W.WriteJs.sheet c.valid_private.new.wr) c.valid_private.new.self) c.valid_private.result in
    made_private _ _ _ _ _ (sym c.can_ignore_invalid_unicodes.ensures.answer ∙ c.if-can_ignore_invalid_unicodes.false) (subst P c.can_ignore_invalid_unicodes.ensures.same c.valid_private.ensures.items)
