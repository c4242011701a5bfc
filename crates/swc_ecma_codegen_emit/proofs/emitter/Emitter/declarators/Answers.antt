use Rattle.std.proofs.Common.{◌≡◌, ℕ, List, map, subst}
use Rattle.swc_ecma_codegen_tree.specs.declared.decls.VarDeclarator.{VarDeclarator}
use Rattle.swc_ecma_codegen_emit.specs.Standing.{Standing, Makes, standing_of}
use Rattle.swc_ecma_codegen_tokens.specs.Lists.{list}
use Rattle.swc_ecma_codegen_emit.specs.Lists.{child_of}
use Rattle.swc_ecma_codegen_emit.specs.Decls.{declarators_format, declarator_place, var_declarator}
use Rattle.swc_ecma_codegen_emit.proofs.emitter.Emitter.declarators.Goals as goal

pub returns : goal.returns
returns g c =
    let a : Standing = standing_of g.S.SourceMapper.lines g.C.Comments.maps g.W.WriteJs.sheet c.args.self.now in
    let b : Standing = standing_of g.S.SourceMapper.lines g.C.Comments.maps g.W.WriteJs.sheet c.list.new.self in
    let format : c.declarators_format.result.0 ≡ declarators_format = c.declarators_format.ensures in
    let P : ℕ → Type 0 = λ z. Makes (list z c.args.span (map (child_of (declarator_place) (λ n place. var_declarator g.N.Known.answers g.N.EmitAt.items n)) c.args.nodes.now.items)) a b in
    let Q : List (VarDeclarator _) → Type 0 = λ xs. Makes (list c.declarators_format.result.0 c.args.span (map (child_of (declarator_place) (λ n place. var_declarator g.N.Known.answers g.N.EmitAt.items n)) xs)) a b in
    record { items = subst P format (subst Q c.deref.ensures.value c.list.ensures.items) }
