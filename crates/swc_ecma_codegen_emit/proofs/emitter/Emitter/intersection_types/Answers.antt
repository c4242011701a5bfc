use Rattle.std.proofs.Common.{◌≡◌, ℕ, List, subst}
use Rattle.swc_ecma_codegen_tree.specs.Links.{TsTypeBox}
use Rattle.swc_ecma_codegen_emit.specs.Standing.{Standing, Makes, standing_of}
use Rattle.swc_ecma_codegen_emit.specs.Types.{joined_list, intersection_format}
use Rattle.swc_ecma_codegen_emit.proofs.emitter.Emitter.intersection_types.Goals as goal

pub returns : goal.returns
returns g c =
    let a : Standing = standing_of g.S.SourceMapper.lines g.C.Comments.maps g.W.WriteJs.sheet c.args.self.now in
    let b : Standing = standing_of g.S.SourceMapper.lines g.C.Comments.maps g.W.WriteJs.sheet c.joined_list.new.self in
    let format : c.intersection_format.result.0 ≡ intersection_format = c.intersection_format.ensures in
    let P : ℕ → Type 0 = λ z. Makes (joined_list g.N.Known.answers g.N.EmitAt.items z c.args.node.now.span c.args.node.now.types.items) a b in
    let Q : List (TsTypeBox _) → Type 0 = λ xs. Makes (joined_list g.N.Known.answers g.N.EmitAt.items c.intersection_format.result.0 c.args.node.now.span xs) a b in
    record { items = subst P format (subst Q c.deref.ensures.value c.joined_list.ensures.items) }
