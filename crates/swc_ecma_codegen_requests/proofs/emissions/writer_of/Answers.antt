use Rattle.std.proofs.Common.{◌≡◌, IfErr, ap, ◌∙◌, subst, sym}
use Rattle.std.proofs.lemmas.Result.{IfOk-weaker}
use Rattle.swc_ecma_codegen_text_writer.specs.Sheet.{Sheet, holds_semicolons}
use Rattle.swc_ecma_codegen_text_writer.specs.PendingSemi.{with_held}
use Rattle.swc_ecma_codegen_text_writer.specs.View.{sheet_of}
use Rattle.swc_ecma_codegen_grammar.specs.Comments.{maps_in}
use Rattle.swc_ecma_codegen_tokens.specs.Run.{maps_after, printed, start, steps_in, steps_of}
use Rattle.swc_ecma_codegen_emit.specs.Texts.{held_by, unheld, GivesCause, IsPrinted}
use Rattle.swc_ecma_codegen_requests.specs.Sheets.{sheet_by}
use Rattle.swc_ecma_codegen_requests.proofs.emissions.writer_of.Goals as goal

pub omit_trailing_semi-held-requires : goal.omit_trailing_semi-held-requires
unfolding sheet_by
omit_trailing_semi-held-requires g c = ap (λ (s : Sheet). holds_semicolons s.semicolons) c.new_writer-writer.ensures

-- the emission begins on the sheet of a writer that holds semicolons back
pub returns-in-Ok-clause-sheet : goal.returns-in-Ok-clause-sheet
unfolding with_held held_by
returns-in-Ok-clause-sheet g c =
    let lines = g.S.SourceMapper.lines c.args.source.now in
    let maps = maps_in g.C.Comments.maps c.args.comments in
    let part = g.P.Node.part c.args.tree.now in
    let config = c.args.config in
    let sheet = sheet_by c.args.layout in
    let begun : with_held c.omit_trailing_semi-held.result.pending (sheet_of c.omit_trailing_semi-held.result.inner) ≡ held_by config.minify sheet =
    c.omit_trailing_semi-held.ensures ∙ ap unheld c.new_writer-writer.ensures ∙ ap (λ minify. held_by minify sheet) (sym c.if-config.true) in
    ap unheld (c.into_inner.ensures.sheet ∙ c.in-Ok.ensures.sheet ∙ ap (λ s. (printed part (start lines maps config s)).sheet) begun)

pub returns-in-Ok-clause-printed : goal.returns-in-Ok-clause-printed
unfolding with_held held_by
returns-in-Ok-clause-printed g c =
    let lines = g.S.SourceMapper.lines c.args.source.now in
    let maps = maps_in g.C.Comments.maps c.args.comments in
    let part = g.P.Node.part c.args.tree.now in
    let config = c.args.config in
    let sheet = sheet_by c.args.layout in
    let begun : with_held c.omit_trailing_semi-held.result.pending (sheet_of c.omit_trailing_semi-held.result.inner) ≡ held_by config.minify sheet =
    c.omit_trailing_semi-held.ensures ∙ ap unheld c.new_writer-writer.ensures ∙ ap (λ minify. held_by minify sheet) (sym c.if-config.true) in
    subst (λ s. IsPrinted part (start lines maps config s)) begun c.in-Ok.ensures.printed

pub returns-in-Ok-clause-left : goal.returns-in-Ok-clause-left
unfolding with_held held_by
returns-in-Ok-clause-left g c =
    let lines = g.S.SourceMapper.lines c.args.source.now in
    let maps = maps_in g.C.Comments.maps c.args.comments in
    let part = g.P.Node.part c.args.tree.now in
    let config = c.args.config in
    let sheet = sheet_by c.args.layout in
    let begun : with_held c.omit_trailing_semi-held.result.pending (sheet_of c.omit_trailing_semi-held.result.inner) ≡ held_by config.minify sheet =
    c.omit_trailing_semi-held.ensures ∙ ap unheld c.new_writer-writer.ensures ∙ ap (λ minify. held_by minify sheet) (sym c.if-config.true) in
    subst (λ s. maps_in g.C.Comments.maps c.in-Ok.left ≡ maps_after (steps_of (steps_in part (start lines maps config s))) maps) begun c.in-Ok.ensures.left

pub returns-in-Err-clause-cause : goal.returns-in-Err-clause-cause
unfolding with_held held_by
returns-in-Err-clause-cause g c =
    let lines = g.S.SourceMapper.lines c.args.source.now in
    let maps = maps_in g.C.Comments.maps c.args.comments in
    let part = g.P.Node.part c.args.tree.now in
    let config = c.args.config in
    let sheet = sheet_by c.args.layout in
    let begun : with_held c.omit_trailing_semi-held.result.pending (sheet_of c.omit_trailing_semi-held.result.inner) ≡ held_by config.minify sheet =
    c.omit_trailing_semi-held.ensures ∙ ap unheld c.new_writer-writer.ensures ∙ ap (λ minify. held_by minify sheet) (sym c.if-config.true) in
    subst (λ s. GivesCause part (start lines maps config s) c.in-Err.error) begun c.in-Err.ensures.cause

-- or on that of the writer itself
pub returns-else-config-clause-sheet : goal.returns-else-config-clause-sheet
unfolding held_by
returns-else-config-clause-sheet g c =
    let lines = g.S.SourceMapper.lines c.args.source.now in
    let maps = maps_in g.C.Comments.maps c.args.comments in
    let part = g.P.Node.part c.args.tree.now in
    let config = c.args.config in
    let sheet = sheet_by c.args.layout in
    let begun : sheet_of c.new_writer-writer.result ≡ held_by config.minify sheet = c.new_writer-writer.ensures ∙ ap (λ minify. held_by minify sheet) (sym c.if-config.false) in
    IfOk-weaker c.printed_on-else-config.result _ _ (λ w e. ap unheld (e ∙ ap (λ s. (printed part (start lines maps config s)).sheet) begun)) c.printed_on-else-config.ensures.sheet

pub returns-else-config-clause-printed : goal.returns-else-config-clause-printed
unfolding held_by
returns-else-config-clause-printed g c =
    let lines = g.S.SourceMapper.lines c.args.source.now in
    let maps = maps_in g.C.Comments.maps c.args.comments in
    let part = g.P.Node.part c.args.tree.now in
    let config = c.args.config in
    let sheet = sheet_by c.args.layout in
    let begun : sheet_of c.new_writer-writer.result ≡ held_by config.minify sheet = c.new_writer-writer.ensures ∙ ap (λ minify. held_by minify sheet) (sym c.if-config.false) in
    IfOk-weaker c.printed_on-else-config.result _ _ (λ w e. subst (λ s. IsPrinted part (start lines maps config s)) begun e) c.printed_on-else-config.ensures.printed

pub returns-else-config-clause-left : goal.returns-else-config-clause-left
unfolding held_by
returns-else-config-clause-left g c =
    let lines = g.S.SourceMapper.lines c.args.source.now in
    let maps = maps_in g.C.Comments.maps c.args.comments in
    let part = g.P.Node.part c.args.tree.now in
    let config = c.args.config in
    let sheet = sheet_by c.args.layout in
    let begun : sheet_of c.new_writer-writer.result ≡ held_by config.minify sheet = c.new_writer-writer.ensures ∙ ap (λ minify. held_by minify sheet) (sym c.if-config.false) in
    IfOk-weaker c.printed_on-else-config.result _ _ (λ w e. e ∙ ap (λ s. maps_after (steps_of (steps_in part (start lines maps config s))) maps) begun) c.printed_on-else-config.ensures.left

pub returns-else-config-clause-cause : goal.returns-else-config-clause-cause
unfolding held_by
returns-else-config-clause-cause g c =
    let lines = g.S.SourceMapper.lines c.args.source.now in
    let maps = maps_in g.C.Comments.maps c.args.comments in
    let part = g.P.Node.part c.args.tree.now in
    let config = c.args.config in
    let sheet = sheet_by c.args.layout in
    let begun : sheet_of c.new_writer-writer.result ≡ held_by config.minify sheet = c.new_writer-writer.ensures ∙ ap (λ minify. held_by minify sheet) (sym c.if-config.false) in
    subst (λ s. IfErr c.printed_on-else-config.result (GivesCause part (start lines maps config s))) begun c.printed_on-else-config.ensures.cause
