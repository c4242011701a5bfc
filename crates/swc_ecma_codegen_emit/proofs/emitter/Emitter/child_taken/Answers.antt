use Rattle.std.proofs.Common.{rules, subst}
use Rattle.swc_ecma_codegen_common.specs.declared.positions.Span.{Span}
use Rattle.swc_ecma_codegen_grammar.specs.Comments.{maps_in}
use Rattle.swc_ecma_codegen_tokens.specs.Lists as lists
use Rattle.swc_ecma_codegen_emit.specs.Standing.{Makes, standing_of}
use Rattle.swc_ecma_codegen_emit.proofs.Standings.{takes_made}
use Rattle.swc_ecma_codegen_emit.proofs.emitter.Emitter.child_taken.Goals as goal

pub returns : goal.returns
returns g c =
    let a = standing_of g.S.SourceMapper.lines g.C.Comments.maps g.W.WriteJs.sheet c.args.self.now in
    let b = standing_of g.S.SourceMapper.lines g.C.Comments.maps g.W.WriteJs.sheet (record c.args.self.now { lower = c.child_comments.new.self; comments = c.child_comments.new.comments; wr = c.child_comments.new.wr; refusal = c.keep.new.kept }) in
    let P : Span → Type 0 = λ place. Makes (lists.child_comments c.args.format.0 c.args.line place) a b in
    record { items = subst P c.place-place.ensures (takes_made (g.S.SourceMapper.lines c.args.self.now.cm.now) (maps_in g.C.Comments.maps c.args.self.now.comments) _ _ _ _ _ _ _ c.child_comments.ensures.items c.child_comments.ensures.level (search rules) c.keep.ensures) }
