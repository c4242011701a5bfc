use Rattle.std.proofs.Common.{◌≡◌, ℕ, List, map, subst}
use Rattle.swc_ecma_codegen_tree.specs.declared.ts_types.TsTypeParam.{TsTypeParam}
use Rattle.swc_ecma_codegen_emit.specs.Standing.{Standing, Makes, standing_of}
use Rattle.swc_ecma_codegen_tokens.specs.Lists.{list}
use Rattle.swc_ecma_codegen_emit.specs.Lists.{child_of}
use Rattle.swc_ecma_codegen_emit.specs.Annotations.{types_format}
use Rattle.swc_ecma_codegen_emit.specs.Types.{param_place, ts_type_param}
use Rattle.swc_ecma_codegen_emit.proofs.emitter.Emitter.listed_params.Goals as goal

pub returns : goal.returns
returns g c =
    let a : Standing = standing_of g.S.SourceMapper.lines g.C.Comments.maps g.W.WriteJs.sheet c.args.self.now in
    let b : Standing = standing_of g.S.SourceMapper.lines g.C.Comments.maps g.W.WriteJs.sheet c.list.new.self in
    let format : c.types_format.result.0 ≡ types_format = c.types_format.ensures in
    let P : ℕ → Type 0 = λ z. Makes (list z c.args.node.now.span (map (child_of param_place (λ p place. ts_type_param g.N.EmitAt.items p)) c.args.node.now.params.items)) a b in
    let Q : List (TsTypeParam _) → Type 0 = λ xs. Makes (list c.types_format.result.0 c.args.node.now.span (map (child_of param_place (λ p place. ts_type_param g.N.EmitAt.items p)) xs)) a b in
    record { items = subst P format (subst Q c.deref.ensures.value c.list.ensures.items) }
