use Rattle.std.proofs.Common.{Bool, ap, ◌∙◌, subst}
use Rattle.swc_ecma_codegen_emit.specs.Standing.{Makes, standing_of}
use Rattle.swc_ecma_codegen_emit.proofs.Standings.{asked}
use Rattle.swc_ecma_codegen_emit.specs.Stmts.{is_single, case_list, case_children}
use Rattle.swc_ecma_codegen_emit.proofs.emitter.Emitter.case_stmts.Goals as goal

pub returns : goal.returns
returns g c =
    let lines = g.S.SourceMapper.lines c.args.self.now.cm.now in
    let n = c.args.node.now in
    let a = standing_of g.S.SourceMapper.lines g.C.Comments.maps g.W.WriteJs.sheet c.args.self.now in
    let b = standing_of g.S.SourceMapper.lines g.C.Comments.maps g.W.WriteJs.sheet c.case_list.new.self in
    let P : Bool → Type 0 = λ single. Makes (case_list single n.span (case_children g.N.Known.answers g.N.EmitAt.items n.cons.items)) a b in
    let said = c.is_single-single.ensures ∙ ap (is_single g.N.Known.answers lines n.span) c.deref.ensures.value in
    record { items = asked (λ l. case_list (is_single g.N.Known.answers l n.span n.cons.items) n.span (case_children g.N.Known.answers g.N.EmitAt.items n.cons.items)) a b (subst P said c.case_list.ensures.items) }
