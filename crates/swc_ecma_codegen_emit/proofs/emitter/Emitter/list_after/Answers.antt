use Rattle.std.proofs.Common.{◌≡◌, ◌≤◌, ◌<◌, ◌+◌, ◌∙◌, None, length, drop, map, ap, sym, subst, rules}
use Rattle.swc_ecma_codegen_settings.specs.declared.config.Config.{Config}
use Rattle.swc_ecma_codegen_tokens.specs.Run.{Plan}
use Rattle.swc_ecma_codegen_emit.specs.Standing.{Standing, Leads, standing_of}
use Rattle.swc_ecma_codegen_tokens.specs.Lists.{list_levels, next_child, list_after}
use Rattle.swc_ecma_codegen_emit.specs.Lists.{child_of}
use Rattle.swc_ecma_codegen_emit.proofs.ListPlaces.{after_asked}
use Rattle.swc_ecma_codegen_emit.proofs.Standings.{leads_at, stays}
use Rattle.swc_ecma_codegen_emit.proofs.Steps.{list_next, list_ended}
use Rattle.swc_ecma_codegen_emit.proofs.emitter.Emitter.list_after.Goals as goal

pub returns : goal.returns
returns g c =
    let format = c.args.format.0 in
    let now : Standing = standing_of g.S.SourceMapper.lines g.C.Comments.maps g.W.WriteJs.sheet c.loop-child.self in
    let none : length c.args.children.now ≤ c.loop-child.child-index = search rules in
    let was = list_levels format c.args.self.now.cfg in
    let is = list_levels format c.loop-child.self.cfg in
    record {
      items = λ level rest d f.
          let P : Plan → Type 0 = λ p. Leads (level + was) p now d in
          let same : now.refusal ≡ None → level + is ≡ level + was = λ fresh. ap (λ (k : Config). level + list_levels format k) (c.loop-child.invariant.settings fresh) in
          let ended = list_ended format c.args.parent c.loop-child.last g.T.Child.stands g.T.EmitAt.items c.args.children.now c.loop-child.child-index rest none in
          c.loop-child.invariant.items (level + was) rest d (subst P (sym ended) (leads_at (level + is) (level + was) _ now d same (c.list_closing.ensures.items level rest d f)));
    }

pub loop-child-preserved : goal.loop-child-preserved
loop-child-preserved g c =
    let format = c.args.format.0 in
    let parent = c.args.parent in
    let last = c.loop-child.last in
    let place = g.T.Child.stands in
    let items = g.T.EmitAt.items in
    let xs = c.args.children.now in
    let i = c.loop-child.child-index in
    let d = c.child-item.result in
    let some : i < length xs = search rules in
    let more = map (child_of place items) (drop (i + 1) xs) in
    let now : Standing = standing_of g.S.SourceMapper.lines g.C.Comments.maps g.W.WriteJs.sheet c.loop-child.self in
    record {
      items = λ level rest e f.
          let P : Plan → Type 0 = λ p. Leads level p now e in
          let step =
          list_next format parent last place items xs i d rest some
          ∙ ap (λ x. next_child format last (child_of place items x) (list_after format parent (place x) more rest)) (sym c.child-item.is)
          ∙ ap (next_child format last (child_of place items d)) (sym (after_asked format parent c.child_after-last.result (place d) more rest c.child_after-last.ensures.place)) in
          c.loop-child.invariant.items level rest e (subst P (sym step) (c.child_after-last.ensures.items level (list_after format parent c.child_after-last.result more rest) e f));
      level = λ none.
          let here = stays _ _ _ c.child_after-last.ensures.items none in
          let before = c.loop-child.invariant.level here.0 in
          (before.0, here.1 ∙ before.1);
      settings = λ none. c.child_after-last.ensures.settings none ∙ c.loop-child.invariant.settings (stays _ _ _ c.child_after-last.ensures.items none).0;
    }
