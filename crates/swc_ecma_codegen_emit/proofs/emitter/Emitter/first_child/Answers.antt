use Rattle.std.proofs.Common.{Bool, subst, sym, ◌∙◌}
use Rattle.swc_ecma_codegen_grammar.specs.ListFormats.{leading_line}
use Rattle.swc_ecma_codegen_emit.specs.Standing.{MakesDeeper, standing_of}
use Rattle.swc_ecma_codegen_tokens.specs.Lists as lists
use Rattle.swc_ecma_codegen_emit.proofs.ListPlaces.{leads_asked}
use Rattle.swc_ecma_codegen_emit.proofs.Standings.{asked_deeper, deeper_settings}
use Rattle.swc_ecma_codegen_emit.specs.Lists.{child_of}
use Rattle.swc_ecma_codegen_emit.proofs.emitter.Emitter.first_child.Goals as goal

pub returns-clause-items : goal.returns-clause-items
returns-clause-items g c =
    let x = child_of g.T.Child.stands g.T.EmitAt.items c.args.child.now in
    let lines = g.S.SourceMapper.lines c.args.self.now.cm.now in
    let n = lists.list_levels c.args.format.0 c.args.self.now.cfg in
    let a = standing_of g.S.SourceMapper.lines g.C.Comments.maps g.W.WriteJs.sheet c.args.self.now in
    let b = standing_of g.S.SourceMapper.lines g.C.Comments.maps g.W.WriteJs.sheet c.first_child_after.new.self in
    let P : Bool → Type 0 = λ line. MakesDeeper n (lists.first_child_after c.args.format.0 line x) a b in
    let same = c.leading_line-line.ensures ∙ leads_asked lines c.args.format.0 c.args.parent c.args.place x.place c.requires in
    asked_deeper n (λ l. lists.first_child_after c.args.format.0 (leading_line l c.args.format.0 c.args.parent x.place) x) a b (subst P same c.first_child_after.ensures.items)

pub returns-clause-settings : goal.returns-clause-settings
returns-clause-settings g c = deeper_settings _ _ _ _ c.first_child_after.ensures.level (returns-clause-items g c)
