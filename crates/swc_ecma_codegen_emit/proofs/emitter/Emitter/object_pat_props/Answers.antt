use Rattle.std.proofs.Common.{◌≡◌, ℕ, List, map, subst}
use Rattle.swc_ecma_codegen_tree.specs.declared.pats.ObjectPatProp.{ObjectPatProp}
use Rattle.swc_ecma_codegen_emit.specs.Standing.{Standing, Makes, standing_of}
use Rattle.swc_ecma_codegen_tokens.specs.Lists.{list}
use Rattle.swc_ecma_codegen_emit.specs.Lists.{child_of}
use Rattle.swc_ecma_codegen_spans.specs.Spans.{object_pat_prop_span}
use Rattle.swc_ecma_codegen_emit.specs.Answers.{place_of}
use Rattle.swc_ecma_codegen_emit.specs.Pats.{object_pat_format, object_pat_prop}
use Rattle.swc_ecma_codegen_emit.proofs.emitter.Emitter.object_pat_props.Goals as goal

pub returns : goal.returns
returns g c =
    let a : Standing = standing_of g.S.SourceMapper.lines g.C.Comments.maps g.W.WriteJs.sheet c.args.self.now in
    let b : Standing = standing_of g.S.SourceMapper.lines g.C.Comments.maps g.W.WriteJs.sheet c.list.new.self in
    let format : c.object_pat_format.result.0 ≡ object_pat_format = c.object_pat_format.ensures in
    let P : ℕ → Type 0 = λ z. Makes (list z c.args.node.now.span (map (child_of (object_pat_prop_span (place_of g.N.Known.answers)) (λ p place. object_pat_prop g.N.Known.answers g.N.EmitAt.items p)) c.args.node.now.props.items)) a b in
    let Q : List (ObjectPatProp _) → Type 0 = λ xs. Makes (list c.object_pat_format.result.0 c.args.node.now.span (map (child_of (object_pat_prop_span (place_of g.N.Known.answers)) (λ p place. object_pat_prop g.N.Known.answers g.N.EmitAt.items p)) xs)) a b in
    record { items = subst P format (subst Q c.deref.ensures.value c.list.ensures.items) }
