use Rattle.std.proofs.Common.{None, subst}
use Rattle.swc_ecma_codegen_emit.specs.Places.{Place}
use Rattle.swc_ecma_codegen_emit.specs.Standing.{Standing, Makes, standing_of}
use Rattle.swc_ecma_codegen_emit.proofs.Lengths.{standing_at, alone_makes}
use Rattle.swc_ecma_codegen_emit.proofs.emitter.Emitter.emit_by_itself.Goals as goal

pub returns : goal.returns
returns g c =
    let a : Standing = standing_of g.S.SourceMapper.lines g.C.Comments.maps g.W.WriteJs.sheet c.args.self.now in
    let b : Standing = standing_of g.S.SourceMapper.lines g.C.Comments.maps g.W.WriteJs.sheet c.emit_at.new.e in
    let P : Place → Type 0 = λ place. Makes (g.T.EmitAt.items c.args.node.now place) (standing_at None a) b in
    record { items = alone_makes (g.T.EmitAt.items c.args.node.now) a b (subst P c.context_alone-context.ensures c.emit_at.ensures.items) }
