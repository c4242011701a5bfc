use Rattle.std.proofs.Common.{◌≡◌, ℕ, List, map, subst}
use Rattle.swc_ecma_codegen_tree.specs.declared.ts_decls.TsEnumMember.{TsEnumMember}
use Rattle.swc_ecma_codegen_emit.specs.Standing.{Standing, Makes, standing_of}
use Rattle.swc_ecma_codegen_tokens.specs.Lists.{list}
use Rattle.swc_ecma_codegen_emit.specs.Lists.{child_of}
use Rattle.swc_ecma_codegen_emit.specs.TsDecls.{enum_format, enum_member_place, ts_enum_member}
use Rattle.swc_ecma_codegen_emit.proofs.emitter.Emitter.enum_members.Goals as goal

pub returns : goal.returns
returns g c =
    let a : Standing = standing_of g.S.SourceMapper.lines g.C.Comments.maps g.W.WriteJs.sheet c.args.self.now in
    let b : Standing = standing_of g.S.SourceMapper.lines g.C.Comments.maps g.W.WriteJs.sheet c.list.new.self in
    let format : c.enum_format.result.0 ≡ enum_format = c.enum_format.ensures in
    let P : ℕ → Type 0 = λ z. Makes (list z c.args.node.now.span (map (child_of enum_member_place (λ m place. ts_enum_member g.N.EmitAt.items m)) c.args.node.now.members.items)) a b in
    let Q : List (TsEnumMember _) → Type 0 = λ xs. Makes (list c.enum_format.result.0 c.args.node.now.span (map (child_of enum_member_place (λ m place. ts_enum_member g.N.EmitAt.items m)) xs)) a b in
    record { items = subst P format (subst Q c.deref.ensures.value c.list.ensures.items) }
