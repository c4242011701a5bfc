use Rattle.std.proofs.Common.{refl, None, Err, ◌∙◌, sym, ◌≡◌, true}
use Rattle.swc_ecma_codegen_common.specs.declared.errors.Refusal.TheVariants.{Failed}
use Rattle.swc_ecma_codegen_tokens.specs.Run.{State, HasCause, nothing, steps_in}
use Rattle.swc_ecma_codegen_tokens.proofs.Emission.Fronts.{follows_failed, follows_front, follows_marked, follows_cause, follows_succeeds}
use Rattle.swc_ecma_codegen_tokens.proofs.Emission.Short.{on_err_in_short, if_err_in_short, is_ok_in_short}
use Rattle.swc_ecma_codegen_emit.specs.View.{state_of}
use Rattle.swc_ecma_codegen_emit.specs.Standing.{Standing, standing_of}
use Rattle.swc_ecma_codegen_emit.proofs.Standings.{makes_at_length, stays, stays_at_length}
use Rattle.swc_ecma_codegen_emit.specs.Places.{by_itself}
use Rattle.swc_ecma_codegen_emit.proofs.emitter.Emitter.emit.Goals as goal

pub returns-then-is_failed-clause-front : goal.returns-then-is_failed-clause-front
returns-then-is_failed-clause-front g c = follows_front (by_itself (g.T.EmitAt.items c.args.node.now) nothing) _ _ (Err Failed) (follows_failed _ _ (sym c.is_failed.ensures ∙ c.if-is_failed.true))

pub returns-then-is_failed-clause-cause : goal.returns-then-is_failed-clause-cause
returns-then-is_failed-clause-cause g c = follows_cause (by_itself (g.T.EmitAt.items c.args.node.now) nothing) _ _ (Err Failed) (follows_failed _ _ (sym c.is_failed.ensures ∙ c.if-is_failed.true))

pub returns-clause-items : goal.returns-clause-items
returns-clause-items g c = makes_at_length (by_itself (g.T.EmitAt.items c.args.node.now)) _ _ _ _ refl c.emit_by_itself.ensures.items c.answer.ensures.answer c.answer.ensures.state

pub returns-clause-front : goal.returns-clause-front
returns-clause-front g c = follows_front (by_itself (g.T.EmitAt.items c.args.node.now) nothing) _ _ _ (returns-clause-items g c)

pub returns-clause-cause : goal.returns-clause-cause
returns-clause-cause g c =
    let part = by_itself (g.T.EmitAt.items c.args.node.now) in
    let a : State = state_of g.S.SourceMapper.lines g.C.Comments.maps g.W.WriteJs.sheet c.args.self.now in
    let b : State = state_of g.S.SourceMapper.lines g.C.Comments.maps g.W.WriteJs.sheet c.answer.new.self in
    if_err_in_short (λ e. HasCause (steps_in part a) e a b) _ (follows_cause (part nothing) _ _ _ (returns-clause-items g c))

pub returns-clause-succeeds : goal.returns-clause-succeeds
returns-clause-succeeds g c = λ h. is_ok_in_short _ (follows_succeeds (by_itself (g.T.EmitAt.items c.args.node.now) nothing) _ _ _ (returns-clause-items g c) h)

pub returns-clause-marked : goal.returns-clause-marked
returns-clause-marked g c = on_err_in_short ((state_of g.S.SourceMapper.lines g.C.Comments.maps g.W.WriteJs.sheet c.answer.new.self).failed ≡ true) c.answer.result (follows_marked (by_itself (g.T.EmitAt.items c.args.node.now) nothing) _ _ _ (returns-clause-items g c))

pub returns-clause-level : goal.returns-clause-level
returns-clause-level g c =
    let a : Standing = record { state = state_of g.S.SourceMapper.lines g.C.Comments.maps g.W.WriteJs.sheet c.args.self.now; refusal = None } in
    let b : Standing = standing_of g.S.SourceMapper.lines g.C.Comments.maps g.W.WriteJs.sheet c.emit_by_itself.new.self in
    stays_at_length a b _ _ (stays (by_itself (g.T.EmitAt.items c.args.node.now)) a b c.emit_by_itself.ensures.items) c.answer.ensures.answer c.answer.ensures.state
