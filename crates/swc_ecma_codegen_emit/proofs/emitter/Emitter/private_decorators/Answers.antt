use Rattle.std.proofs.Common.{◌≡◌, ℕ, List, map, subst}
use Rattle.swc_ecma_codegen_tree.specs.declared.decls.Decorator.{Decorator}
use Rattle.swc_ecma_codegen_emit.specs.Standing.{Standing, Makes, standing_of}
use Rattle.swc_ecma_codegen_tokens.specs.Lists.{list}
use Rattle.swc_ecma_codegen_emit.specs.Lists.{child_of}
use Rattle.swc_ecma_codegen_emit.specs.Functions.{decorators_format, decorator_place, decorator}
use Rattle.swc_ecma_codegen_emit.proofs.emitter.Emitter.private_decorators.Goals as goal

pub returns : goal.returns
returns g c =
    let a : Standing = standing_of g.S.SourceMapper.lines g.C.Comments.maps g.W.WriteJs.sheet c.args.self.now in
    let b : Standing = standing_of g.S.SourceMapper.lines g.C.Comments.maps g.W.WriteJs.sheet c.list.new.self in
    let format : c.decorators_format.result.0 ≡ decorators_format = c.decorators_format.ensures in
    let P : ℕ → Type 0 = λ z. Makes (list z c.args.node.now.span (map (child_of (decorator_place) (λ d place. decorator g.N.EmitAt.items d)) c.args.node.now.decorators.items)) a b in
    let Q : List (Decorator _) → Type 0 = λ xs. Makes (list c.decorators_format.result.0 c.args.node.now.span (map (child_of (decorator_place) (λ d place. decorator g.N.EmitAt.items d)) xs)) a b in
    record { items = subst P format (subst Q c.deref.ensures.value c.list.ensures.items) }
