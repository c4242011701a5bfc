use Rattle.std.proofs.Common.{◌≡◌, ◌+◌, None, ap, map, subst}
use Rattle.swc_ecma_codegen_settings.specs.declared.config.Config.{Config}
use Rattle.swc_ecma_codegen_tokens.specs.Run.{Plan}
use Rattle.swc_ecma_codegen_tokens.specs.Lists as lists
use Rattle.swc_ecma_codegen_emit.specs.Standing.{Standing, Leads, standing_of}
use Rattle.swc_ecma_codegen_emit.specs.Lists.{child_of}
use Rattle.swc_ecma_codegen_emit.proofs.ListPlaces.{after_asked}
use Rattle.swc_ecma_codegen_emit.proofs.Standings.{leads_at}
use Rattle.swc_ecma_codegen_emit.proofs.emitter.Emitter.some_list.Goals as goal

pub returns : goal.returns
unfolding lists.list
returns g c =
    let format = c.args.format.0 in
    let parent = c.args.parent in
    let place = g.T.Child.stands c.args.first.now in
    let asked = c.child_of_list-place.result in
    let others = map (child_of g.T.Child.stands g.T.EmitAt.items) c.args.others.now in
    let a : Standing = standing_of g.S.SourceMapper.lines g.C.Comments.maps g.W.WriteJs.sheet c.args.self.now in
    let b : Standing = standing_of g.S.SourceMapper.lines g.C.Comments.maps g.W.WriteJs.sheet c.child_of_list-place.new.self in
    record {
      items = λ level rest d f.
          let after : Plan = lists.list_after format parent asked others rest in
          let P : Plan → Type 0 = λ p. Leads level (lists.first_child format parent (child_of g.T.Child.stands g.T.EmitAt.items c.args.first.now) p) a d in
          let was = lists.list_levels format c.args.self.now.cfg in
          let is = lists.list_levels format c.child_of_list-place.new.self.cfg in
          let same : b.refusal ≡ None → level + is ≡ level + was = λ none. ap (λ (k : Config). level + lists.list_levels format k) (c.child_of_list-place.ensures.settings none) in
          subst P (after_asked format parent asked place others rest c.child_of_list-place.ensures.place)
          (c.child_of_list-place.ensures.items level after d (leads_at (level + is) (level + was) after b d same (c.list_after.ensures.items level rest d f)));
    }
