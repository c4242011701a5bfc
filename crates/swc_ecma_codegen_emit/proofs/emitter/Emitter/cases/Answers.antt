use Rattle.std.proofs.Common.{◌≡◌, ℕ, List, map, subst}
use Rattle.swc_ecma_codegen_tree.specs.declared.stmts.SwitchCase.{SwitchCase}
use Rattle.swc_ecma_codegen_emit.specs.Standing.{Standing, Makes, standing_of}
use Rattle.swc_ecma_codegen_tokens.specs.Lists.{list}
use Rattle.swc_ecma_codegen_emit.specs.Lists.{child_of}
use Rattle.swc_ecma_codegen_emit.specs.Stmts.{cases_format, case_place, switch_case}
use Rattle.swc_ecma_codegen_emit.proofs.emitter.Emitter.cases.Goals as goal

pub returns : goal.returns
returns g c =
    let a : Standing = standing_of g.S.SourceMapper.lines g.C.Comments.maps g.W.WriteJs.sheet c.args.self.now in
    let b : Standing = standing_of g.S.SourceMapper.lines g.C.Comments.maps g.W.WriteJs.sheet c.list.new.self in
    let format : c.cases_format.result.0 ≡ cases_format = c.cases_format.ensures in
    let P : ℕ → Type 0 = λ z. Makes (list z c.args.node.now.span (map (child_of (case_place) (λ n place. switch_case g.N.Known.answers g.N.EmitAt.items n)) c.args.node.now.cases.items)) a b in
    let Q : List (SwitchCase _) → Type 0 = λ xs. Makes (list c.cases_format.result.0 c.args.node.now.span (map (child_of (case_place) (λ n place. switch_case g.N.Known.answers g.N.EmitAt.items n)) xs)) a b in
    record { items = subst P format (subst Q c.deref.ensures.value c.list.ensures.items) }
