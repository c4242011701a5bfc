use Rattle.std.proofs.Common.{◌≡◌, ℕ, List, map, subst}
use Rattle.swc_ecma_codegen_tree.specs.declared.classes.ParamOrTsParamProp.{ParamOrTsParamProp}
use Rattle.swc_ecma_codegen_emit.specs.Standing.{Standing, Makes, standing_of}
use Rattle.swc_ecma_codegen_tokens.specs.Lists.{list}
use Rattle.swc_ecma_codegen_emit.specs.Lists.{child_of}
use Rattle.swc_ecma_codegen_emit.specs.Classes.{constructor_param_place, constructor_param}
use Rattle.swc_ecma_codegen_emit.specs.FunctionExprs.{comma_list_format}
use Rattle.swc_ecma_codegen_emit.proofs.emitter.Emitter.constructor_params.Goals as goal

pub returns : goal.returns
returns g c =
    let a : Standing = standing_of g.S.SourceMapper.lines g.C.Comments.maps g.W.WriteJs.sheet c.args.self.now in
    let b : Standing = standing_of g.S.SourceMapper.lines g.C.Comments.maps g.W.WriteJs.sheet c.list.new.self in
    let format : c.comma_list_format.result.0 ≡ comma_list_format = c.comma_list_format.ensures in
    let P : ℕ → Type 0 = λ z. Makes (list z c.args.node.now.span (map (child_of (constructor_param_place) (λ p place. constructor_param g.N.Known.answers g.N.EmitAt.items p)) c.args.node.now.params.items)) a b in
    let Q : List (ParamOrTsParamProp _) → Type 0 = λ xs. Makes (list c.comma_list_format.result.0 c.args.node.now.span (map (child_of (constructor_param_place) (λ p place. constructor_param g.N.Known.answers g.N.EmitAt.items p)) xs)) a b in
    record { items = subst P format (subst Q c.deref.ensures.value c.list.ensures.items) }
