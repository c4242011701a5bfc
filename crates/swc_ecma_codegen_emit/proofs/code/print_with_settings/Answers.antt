use Rattle.std.proofs.Common.{◌≡◌, None, IfErr, ap, ◌∙◌, subst, sym}
use Rattle.std.proofs.lemmas.Result.{IfOk-weaker}
use Rattle.swc_ecma_codegen_text_writer.specs.PendingSemi.{with_held}
use Rattle.swc_ecma_codegen_grammar.specs.Comments.{maps_in}
use Rattle.swc_ecma_codegen_tokens.specs.Run.{printed, start, steps_in, unprintable_in}
use Rattle.swc_ecma_codegen_emit.specs.Texts.{held_by, unheld, with_last, GivesCauseOrLast}
use Rattle.swc_ecma_codegen_emit.proofs.code.print_with_settings.Goals as goal

-- minified, the emission begins on the writer's sheet with semicolons held back
pub returns-in-Ok-clause-sheet : goal.returns-in-Ok-clause-sheet
unfolding with_held held_by
returns-in-Ok-clause-sheet g c =
    let lines = g.S.SourceMapper.lines c.args.cm.now in
    let maps = maps_in g.C.Comments.maps c.args.comments in
    let part = g.N.Node.part c.args.node.now in
    let config = c.args.cfg in
    let blank = g.W.WriteJs.sheet c.args.wr in
    let begun : with_held c.omit_trailing_semi-held.result.pending (g.W.WriteJs.sheet c.omit_trailing_semi-held.result.inner) ≡ held_by config.minify blank =
    c.omit_trailing_semi-held.ensures ∙ ap (λ b. held_by b blank) (sym c.if-cfg.true) in
    ap unheld (c.into_inner.ensures.sheet ∙ c.in-Ok.ensures.sheet ∙ ap (λ s. with_last config (printed part (start lines maps config s)).sheet) begun)

pub returns-in-Ok-clause-printable : goal.returns-in-Ok-clause-printable
unfolding with_held held_by
returns-in-Ok-clause-printable g c =
    let lines = g.S.SourceMapper.lines c.args.cm.now in
    let maps = maps_in g.C.Comments.maps c.args.comments in
    let part = g.N.Node.part c.args.node.now in
    let config = c.args.cfg in
    let blank = g.W.WriteJs.sheet c.args.wr in
    let begun : with_held c.omit_trailing_semi-held.result.pending (g.W.WriteJs.sheet c.omit_trailing_semi-held.result.inner) ≡ held_by config.minify blank =
    c.omit_trailing_semi-held.ensures ∙ ap (λ b. held_by b blank) (sym c.if-cfg.true) in
    subst (λ s. unprintable_in (steps_in part (start lines maps config s)) ≡ None) begun c.in-Ok.ensures.printable

pub returns-in-Err-clause-cause : goal.returns-in-Err-clause-cause
unfolding with_held held_by
returns-in-Err-clause-cause g c =
    let lines = g.S.SourceMapper.lines c.args.cm.now in
    let maps = maps_in g.C.Comments.maps c.args.comments in
    let part = g.N.Node.part c.args.node.now in
    let config = c.args.cfg in
    let blank = g.W.WriteJs.sheet c.args.wr in
    let begun : with_held c.omit_trailing_semi-held.result.pending (g.W.WriteJs.sheet c.omit_trailing_semi-held.result.inner) ≡ held_by config.minify blank =
    c.omit_trailing_semi-held.ensures ∙ ap (λ b. held_by b blank) (sym c.if-cfg.true) in
    subst (λ s. GivesCauseOrLast config part (start lines maps config s) c.in-Err.error) begun c.in-Err.ensures.cause

-- otherwise on its sheet as it is
pub returns-else-cfg-clause-sheet : goal.returns-else-cfg-clause-sheet
unfolding held_by
returns-else-cfg-clause-sheet g c =
    let lines = g.S.SourceMapper.lines c.args.cm.now in
    let maps = maps_in g.C.Comments.maps c.args.comments in
    let part = g.N.Node.part c.args.node.now in
    let config = c.args.cfg in
    let blank = g.W.WriteJs.sheet c.args.wr in
    let begun : blank ≡ held_by config.minify blank = ap (λ b. held_by b blank) (sym c.if-cfg.false) in
    IfOk-weaker c.print_whole-else-cfg.result _ _ (λ w e. ap unheld (e ∙ ap (λ s. with_last config (printed part (start lines maps config s)).sheet) begun)) c.print_whole-else-cfg.ensures.sheet

pub returns-else-cfg-clause-printable : goal.returns-else-cfg-clause-printable
unfolding held_by
returns-else-cfg-clause-printable g c =
    let lines = g.S.SourceMapper.lines c.args.cm.now in
    let maps = maps_in g.C.Comments.maps c.args.comments in
    let part = g.N.Node.part c.args.node.now in
    let config = c.args.cfg in
    let blank = g.W.WriteJs.sheet c.args.wr in
    let begun : blank ≡ held_by config.minify blank = ap (λ b. held_by b blank) (sym c.if-cfg.false) in
    IfOk-weaker c.print_whole-else-cfg.result _ _ (λ w e. subst (λ s. unprintable_in (steps_in part (start lines maps config s)) ≡ None) begun e) c.print_whole-else-cfg.ensures.printable

pub returns-else-cfg-clause-cause : goal.returns-else-cfg-clause-cause
unfolding held_by
returns-else-cfg-clause-cause g c =
    let lines = g.S.SourceMapper.lines c.args.cm.now in
    let maps = maps_in g.C.Comments.maps c.args.comments in
    let part = g.N.Node.part c.args.node.now in
    let config = c.args.cfg in
    let blank = g.W.WriteJs.sheet c.args.wr in
    let begun : blank ≡ held_by config.minify blank = ap (λ b. held_by b blank) (sym c.if-cfg.false) in
    subst (λ s. IfErr c.print_whole-else-cfg.result (GivesCauseOrLast config part (start lines maps config s))) begun c.print_whole-else-cfg.ensures.cause
