use Rattle.swc_ecma_codegen_tokens.specs.Run.{DoesTaking}
use Rattle.swc_ecma_codegen_grammar.specs.Comments.{maps_in}
use Rattle.swc_ecma_codegen_tokens.proofs.LiteralTokens.RewrittenLiterals.{taking_anew, taking_not_anew}
use Rattle.swc_ecma_codegen_tokens.proofs.Commenting.CommentSteps.{taking_failed}
use Rattle.std.proofs.Common.{Bool, refl, ap, subst, ◌∙◌}
use Rattle.swc_ecma_codegen_common.specs.Refusals.{reason_of}
use Rattle.swc_ecma_codegen_tokens.specs.Lits.{big_int_at, big_int_by, prints_big_raw, big_int_text, makes_big_int}
use Rattle.swc_ecma_codegen_tokens.specs.View.{state_of}
use Rattle.swc_ecma_codegen_tokens.proofs.LowerEmitter.big_int_at.Goals as goal

pub returns-then-self-clause-items : goal.returns-then-self-clause-items
returns-then-self-clause-items g c = taking_failed _ _ _ c.if-self.true

pub returns-in-Ok-clause-items : goal.returns-in-Ok-clause-items
unfolding big_int_at big_int_text prints_big_raw
returns-in-Ok-clause-items g c =
    let P : Bool → Type 0 = λ whole. DoesTaking (big_int_by c.args.in_lit whole c.args.n.now.span c.deref.result.now) (maps_in g.C.Comments.maps c.args.comments.now) (maps_in g.C.Comments.maps c.big_int_by.new.comments) (state_of c.args.cfg.now (g.W.WriteJs.sheet c.args.wr.now) c.args.self.now) (state_of c.args.cfg.now (g.W.WriteJs.sheet c.big_int_by.new.wr) c.big_int_by.new.self) c.big_int_by.result in
    taking_anew (big_int_at c.args.in_lit c.args.n.now) _ (big_int_by c.args.in_lit (prints_big_raw c.args.cfg.now c.args.n.now) c.args.n.now.span) _ _ _ _ (state_of c.args.cfg.now (g.W.WriteJs.sheet c.args.wr.now) c.args.self.now) _ _ c.if-self.false (λ lines maps rest. refl) (c.deref.ensures.value ∙ c.in-Ok.ensures.exactly) (subst P c.prints_big_raw-whole.ensures c.big_int_by.ensures.items)

pub returns-in-Err-clause-items : goal.returns-in-Err-clause-items
unfolding big_int_at makes_big_int prints_big_raw
returns-in-Err-clause-items g c = taking_not_anew (big_int_at c.args.in_lit c.args.n.now) _ _ _ _ (state_of c.args.cfg.now (g.W.WriteJs.sheet c.args.wr.now) c.args.self.now) _ c.if-self.false (λ lines maps rest. refl) (c.refusal.ensures ∙ ap reason_of c.in-Err.ensures.refused) (c.in-Err.ensures.due) refl
