use Rattle.std.proofs.Common.{◌≡◌, ℕ, List, map, subst}
use Rattle.swc_ecma_codegen_tree.specs.Links.{ClassMemberBox}
use Rattle.swc_ecma_codegen_emit.specs.Standing.{Standing, Makes, standing_of}
use Rattle.swc_ecma_codegen_tokens.specs.Lists.{list}
use Rattle.swc_ecma_codegen_emit.specs.Lists.{child_of}
use Rattle.swc_ecma_codegen_emit.specs.Classes.{class_members_format}
use Rattle.swc_ecma_codegen_emit.proofs.emitter.Emitter.member_list.Goals as goal

pub returns : goal.returns
returns g c =
    let a : Standing = standing_of g.S.SourceMapper.lines g.C.Comments.maps g.W.WriteJs.sheet c.args.self.now in
    let b : Standing = standing_of g.S.SourceMapper.lines g.C.Comments.maps g.W.WriteJs.sheet c.list.new.self in
    let format : c.class_members_format.result.0 ≡ class_members_format = c.class_members_format.ensures in
    let P : ℕ → Type 0 = λ z. Makes (list z c.args.node.now.span (map (child_of (λ m. (g.N.Known.answers m.node.value).place) (λ m place. g.N.EmitAt.items m.node.value place)) c.args.node.now.body.items)) a b in
    let Q : List (ClassMemberBox _) → Type 0 = λ xs. Makes (list c.class_members_format.result.0 c.args.node.now.span (map (child_of (λ m. (g.N.Known.answers m.node.value).place) (λ m place. g.N.EmitAt.items m.node.value place)) xs)) a b in
    record { items = subst P format (subst Q c.deref.ensures.value c.list.ensures.items) }
