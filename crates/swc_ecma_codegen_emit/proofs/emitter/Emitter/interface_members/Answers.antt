use Rattle.std.proofs.Common.{◌≡◌, ℕ, List, map, subst}
use Rattle.swc_ecma_codegen_tree.specs.declared.ts_members.TsTypeElement.{TsTypeElement}
use Rattle.swc_ecma_codegen_spans.specs.Spans.{ts_type_element_span}
use Rattle.swc_ecma_codegen_emit.specs.Standing.{Standing, Makes, standing_of}
use Rattle.swc_ecma_codegen_tokens.specs.Lists.{list}
use Rattle.swc_ecma_codegen_emit.specs.Lists.{child_of}
use Rattle.swc_ecma_codegen_emit.specs.TsMembers.{interface_format, member_items}
use Rattle.swc_ecma_codegen_emit.proofs.emitter.Emitter.interface_members.Goals as goal

pub returns : goal.returns
returns g c =
    let a : Standing = standing_of g.S.SourceMapper.lines g.C.Comments.maps g.W.WriteJs.sheet c.args.self.now in
    let b : Standing = standing_of g.S.SourceMapper.lines g.C.Comments.maps g.W.WriteJs.sheet c.list.new.self in
    let format : c.interface_format.result.0 ≡ interface_format = c.interface_format.ensures in
    let P : ℕ → Type 0 = λ z. Makes (list z c.args.node.now.span (map (child_of ts_type_element_span (member_items g.N.Known.answers g.N.EmitAt.items)) c.args.node.now.body.items)) a b in
    let Q : List (TsTypeElement _) → Type 0 = λ xs. Makes (list c.interface_format.result.0 c.args.node.now.span (map (child_of ts_type_element_span (member_items g.N.Known.answers g.N.EmitAt.items)) xs)) a b in
    record { items = subst P format (subst Q c.deref.ensures.value c.list.ensures.items) }
