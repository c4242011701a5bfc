use Rattle.std.proofs.Common.{◌≡◌, None, ap, ◌∙◌, refl, subst}
use Rattle.swc_ecma_codegen_grammar.specs.Comments.{maps_in}
use Rattle.swc_ecma_codegen_tokens.specs.Run.{State, Follows, printed, start, steps_in, unprintable_in}
use Rattle.swc_ecma_codegen_emit.proofs.code.print_to.Goals as goal

pub returns : goal.returns
unfolding Follows
returns g c = record {
  sheet =
      ap g.W.WriteJs.sheet c.into_writer.ensures
      ∙ ap (λ (s : State). s.sheet)
      (c.in_ok-emit_with.ensures.items.1
      ∙ ap (printed (g.N.Node.part c.args.node.now)) (c.new-emitter.ensures.state ∙ ap (λ k. start (g.S.SourceMapper.lines c.args.cm.now) (maps_in g.C.Comments.maps c.args.comments) k (g.W.WriteJs.sheet c.args.wr)) c.default.ensures));
  printed =
      let part = g.N.Node.part c.args.node.now in
      let begun = c.new-emitter.ensures.state ∙ ap (λ k. start (g.S.SourceMapper.lines c.args.cm.now) (maps_in g.C.Comments.maps c.args.comments) k (g.W.WriteJs.sheet c.args.wr)) c.default.ensures in
      (subst (λ (s : State). unprintable_in (steps_in part s) ≡ None) begun c.in_ok-emit_with.ensures.items.0, refl);
  cause = tt;
}
