use Rattle.std.proofs.Common.{◌≡◌, Bool, ◌||◌, ap, ◌∙◌}
use Rattle.swc_ecma_codegen_grammar.specs.FunctionPhrases.{is_some_listed}
use Rattle.swc_ecma_codegen_grammar.specs.Comments.{maps_in}
use Rattle.swc_ecma_codegen_emit.specs.Commented.{has_comment_inside}
use Rattle.swc_ecma_codegen_emit.specs.Standing.{Standing, standing_of}
use Rattle.swc_ecma_codegen_emit.specs.Props.{object_children}
use Rattle.swc_ecma_codegen_emit.proofs.Asked.{object_asked}
use Rattle.swc_ecma_codegen_emit.proofs.emitter.Emitter.object_by_maps.Goals as goal

pub returns : goal.returns
returns g c =
    let a : Standing = standing_of g.S.SourceMapper.lines g.C.Comments.maps g.W.WriteJs.sheet c.args.self.now in
    let b : Standing = standing_of g.S.SourceMapper.lines g.C.Comments.maps g.W.WriteJs.sheet c.object_list.new.self in
    let said : c.is_some_listed.result ≡ is_some_listed c.args.node.now.props.items = c.is_some_listed.ensures ∙ ap is_some_listed c.deref.ensures.value in
    record { items = object_asked (is_some_listed c.args.node.now.props.items) c.wants_lines-some.result c.args.node.now.span (object_children g.N.Known.answers g.N.EmitAt.items c.args.node.now) a b (c.wants_lines-some.ensures ∙ ap (λ (z : Bool). z || has_comment_inside c.args.node.now.span (maps_in g.C.Comments.maps c.args.self.now.comments)) said) c.object_list.ensures.items }
