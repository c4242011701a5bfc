use Rattle.std.proofs.Common.{◌≡◌, [], ◌∷◌, ◌∙◌, ap, inl, refl, subst, sym, true}
use Rattle.std.proofs.lemmas.Result.{err_from_is_err_and}
use Rattle.swc_ecma_codegen_settings.specs.declared.config.Config.{Config}
use Rattle.swc_ecma_codegen_grammar.specs.Comments.{no_maps}
use Rattle.swc_ecma_codegen_grammar.specs.SourceLines.{no_lines}
use Rattle.swc_ecma_codegen_text_writer.specs.Contents.{or_empty}
use Rattle.swc_ecma_codegen_text_writer.specs.Sheet.{Sheet, HoldsNone}
use Rattle.swc_ecma_codegen_text_writer.specs.PendingSemi.{with_held}
use Rattle.swc_ecma_codegen_text_writer.specs.View.{sheet_of, new_sheet}
use Rattle.swc_ecma_codegen_tokens.specs.Run.{start, unlined}
use Rattle.swc_ecma_codegen_tokens.specs.Written.{AddsReading, ReadsAs, all_indent, is_indent, holds_one}
use Rattle.swc_ecma_codegen_emit.specs.Roots.{root_phrase, MayBegin}
use Rattle.swc_ecma_codegen_emit.specs.Texts.{GivesCause}
use Rattle.swc_ecma_codegen_examples.specs.Causes.{minified_config}
use Rattle.swc_ecma_codegen_examples.proofs.minified.Goals as goal

-- the sheet that holds no semicolon yet is one of a new emitter, and the vector has what was added to it
pub returns-clause-reads : goal.returns-clause-reads
unfolding with_held all_indent is_indent holds_one
returns-clause-reads g c = λ root same well.
    let config = c.with_minify-config.result in
    let phrase = root_phrase root in
    let blank : Sheet = record (new_sheet [] (10 ∷ [])) { semicolons = HoldsNone } in
    let held : Sheet = with_held c.omit_trailing_semi.result.pending (sheet_of c.omit_trailing_semi.result.inner) in
    let end : Sheet = with_held c.in_ok-printed.printed.pending (sheet_of c.in_ok-printed.printed.inner) in
    let begun : held ≡ blank =
    c.omit_trailing_semi.ensures ∙ ap (λ (s : Sheet). record s { semicolons = HoldsNone }) (c.new-writer.ensures.sheet refl ∙ ap (λ t. new_sheet t (10 ∷ [])) c.new.ensures.items) in
    let fresh : MayBegin root (start no_lines no_maps config held) =
    subst (λ s. MayBegin root (start no_lines no_maps config s)) (sym begun) (record { is_new = record { nothing_written = refl; nothing_held = refl; indent_text = refl; line_end = inl refl; leaves_out = refl; flowing = refl }; flows = λ whole. refl; at_margin = λ hashbang line. refl }) in
    let added : AddsReading (unlined config) phrase [] blank end = subst (λ s. AddsReading (unlined config) phrase [] s end) begun (c.in_ok-printed.ensures.reads root same well fresh) in
    let all : c.into_inner.result.items ≡ end.text = ap or_empty (c.into_inner.ensures.text refl) ∙ ap (λ (s : Sheet). s.text) c.into_inner-plain.ensures.sheet in
    let reading = subst (λ t. ReadsAs (unlined config) true phrase [] t) (sym (all ∙ added.is_added)) added.reading in
    subst (λ k. ReadsAs (unlined k) true phrase [] c.into_inner.result.items) (c.with_minify-config.ensures ∙ ap (λ (k : Config). record k { minify = true }) c.default.ensures) reading

-- an emission that is refused began there too
pub returns-in_err-printed-clause-cause : goal.returns-in_err-printed-clause-cause
unfolding with_held
returns-in_err-printed-clause-cause g c =
    let part = g.P.Node.part c.args.node.now in
    let error = c.in_err-printed.field-0.0 in
    let held : Sheet = with_held c.omit_trailing_semi.result.pending (sheet_of c.omit_trailing_semi.result.inner) in
    let begun : held ≡ record (new_sheet [] (10 ∷ [])) { semicolons = HoldsNone } =
    c.omit_trailing_semi.ensures ∙ ap (λ (s : Sheet). record s { semicolons = HoldsNone }) (c.new-writer.ensures.sheet refl ∙ ap (λ t. new_sheet t (10 ∷ [])) c.new.ensures.items) in
    let asked = c.with_minify-config.ensures ∙ ap (λ (k : Config). record k { minify = true }) c.default.ensures in
    let p = err_from_is_err_and c.from_residual.result c.from_residual.ensures.1 in
    rw (p.1, p.2) (subst (λ s. GivesCause part s error) (ap (λ k. start no_lines no_maps k held) asked ∙ ap (start no_lines no_maps minified_config) begun) c.in_err-printed.ensures.cause)
