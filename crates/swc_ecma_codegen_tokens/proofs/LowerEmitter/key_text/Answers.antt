use Rattle.swc_ecma_codegen_tokens.proofs.NameTokens.KeySteps.{taking_lent, taking_made}
use Rattle.swc_ecma_codegen_tokens.specs.Run.{DoesTaking}
use Rattle.swc_ecma_codegen_grammar.specs.Comments.{maps_in}
use Rattle.std.proofs.Common.{sym, ◌∙◌, subst}
use Rattle.swc_ecma_codegen_text_writer.specs.Sheet.{Sheet}
use Rattle.swc_ecma_codegen_tokens.specs.View.{state_of}
use Rattle.swc_ecma_codegen_tokens.specs.Keys.{spelled_key, valid_key}
use Rattle.swc_ecma_codegen_tokens.proofs.LowerEmitter.key_text.Goals as goal

-- the sheet is what it was before the question
pub returns-then-can_ignore_invalid_unicodes-clause-items : goal.returns-then-can_ignore_invalid_unicodes-clause-items
returns-then-can_ignore_invalid_unicodes-clause-items g c =
    let P : Sheet → Type 0 = λ s. DoesTaking (spelled_key c.args.span c.args.sym.now) (maps_in g.C.Comments.maps c.args.comments.now) (maps_in g.C.Comments.maps c.spelled_key.new.comments) (state_of c.args.cfg.now s c.args.self.now) (state_of c.args.cfg.now (g.W.WriteJs.sheet c.spelled_key.new.wr) c.spelled_key.new.self) c.spelled_key.result in
    taking_lent _ _ _ _ _ _ _ (sym c.can_ignore_invalid_unicodes.ensures.answer ∙ c.if-can_ignore_invalid_unicodes.true) (subst P c.can_ignore_invalid_unicodes.ensures.same c.spelled_key.ensures.items)

pub returns-clause-items : goal.returns-clause-items
returns-clause-items g c =
    let P : Sheet → Type 0 = λ s. DoesTaking (valid_key c.args.span c.args.sym.now) (maps_in g.C.Comments.maps c.args.comments.now) (maps_in g.C.Comments.maps c.valid_key.new.comments) (state_of c.args.cfg.now s c.args.self.now) (state_of c.args.cfg.now (g.W.WriteJs.sheet c.valid_key.new.wr) c.valid_key.new.self) c.valid_key.result in
    taking_made _ _ _ _ _ _ _ (sym c.can_ignore_invalid_unicodes.ensures.answer ∙ c.if-can_ignore_invalid_unicodes.false) (subst P c.can_ignore_invalid_unicodes.ensures.same c.valid_key.ensures.items)
