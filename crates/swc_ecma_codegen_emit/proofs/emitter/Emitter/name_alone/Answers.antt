use Rattle.std.proofs.Common.{◌≡◌, Result, OnOk, subst, rules}
use Rattle.swc_ecma_codegen_common.specs.declared.errors.Refusal.{Refusal}
use Rattle.swc_ecma_codegen_grammar.specs.CommentMaps.{Maps}
use Rattle.swc_ecma_codegen_grammar.specs.Comments.{maps_in}
use Rattle.swc_ecma_codegen_text_writer.specs.Sheet.{Sheet, answered}
use Rattle.swc_ecma_codegen_tokens.specs.Run.{Part, State, DoesTaking}
use Rattle.swc_ecma_codegen_tokens.specs.View.{state_of}
use Rattle.swc_ecma_codegen_tokens.specs.Words.{name}
use Rattle.swc_ecma_codegen_emit.proofs.Standings.{takes_made}
use Rattle.swc_ecma_codegen_emit.proofs.emitter.Emitter.name_alone.Goals as goal

-- asking whether the name is a text alone leaves the writer's sheet as it is
pub returns : goal.returns
returns g c =
    let before : Maps = maps_in g.C.Comments.maps c.args.self.now.comments in
    let left : Maps = maps_in g.C.Comments.maps c.writes_alone-done.new.comments in
    let part : Part = name c.args.span c.args.sym.now c.args.optional in
    let b : State = state_of c.args.self.now.cfg (g.W.WriteJs.sheet c.writes_alone-done.new.wr) c.writes_alone-done.new.self in
    let r : Result (Unit {0}) Refusal = answered c.writes_alone-done.result c.writes_alone-done.new.self.reason in
    let P : Sheet → Type 0 = λ s. DoesTaking part before left (state_of c.args.self.now.cfg s c.args.self.now.lower) b r in
    let Q : Sheet → Type 0 = λ s. OnOk r (b.sheet.indentation ≡ s.indentation) in
    record { items = takes_made (g.S.SourceMapper.lines c.args.self.now.cm.now) before left part _ b r _ _ (subst P c.stands_alone.ensures.same c.writes_alone-done.ensures.items) (subst Q c.stands_alone.ensures.same c.writes_alone-done.ensures.level) (search rules) c.keep_reason.ensures }
