use Rattle.std.proofs.Common.{◌≡◌, ℕ, List, map, subst}
use Rattle.swc_ecma_codegen_tree.specs.declared.exprs.PropOrSpread.{PropOrSpread}
use Rattle.swc_ecma_codegen_emit.specs.Standing.{Standing, Makes, standing_of}
use Rattle.swc_ecma_codegen_tokens.specs.Lists.{list}
use Rattle.swc_ecma_codegen_emit.specs.Lists.{child_of}
use Rattle.swc_ecma_codegen_spans.specs.Spans.{prop_or_spread_span}
use Rattle.swc_ecma_codegen_emit.specs.Answers.{place_of}
use Rattle.swc_ecma_codegen_emit.specs.Props.{flat_object_format, object_children, prop_or_spread}
use Rattle.swc_ecma_codegen_emit.proofs.emitter.Emitter.flat_object_props.Goals as goal

pub returns : goal.returns
unfolding object_children
returns g c =
    let a : Standing = standing_of g.S.SourceMapper.lines g.C.Comments.maps g.W.WriteJs.sheet c.args.self.now in
    let b : Standing = standing_of g.S.SourceMapper.lines g.C.Comments.maps g.W.WriteJs.sheet c.list.new.self in
    let format : c.flat_object_format.result.0 ≡ flat_object_format = c.flat_object_format.ensures in
    let P : ℕ → Type 0 = λ z. Makes (list z c.args.node.now.span (map (child_of (prop_or_spread_span (place_of g.N.Known.answers)) (λ p place. prop_or_spread g.N.Known.answers g.N.EmitAt.items p)) c.args.node.now.props.items)) a b in
    let Q : List (PropOrSpread _) → Type 0 = λ xs. Makes (list c.flat_object_format.result.0 c.args.node.now.span (map (child_of (prop_or_spread_span (place_of g.N.Known.answers)) (λ p place. prop_or_spread g.N.Known.answers g.N.EmitAt.items p)) xs)) a b in
    record { items = subst P format (subst Q c.deref.ensures.value c.list.ensures.items) }
