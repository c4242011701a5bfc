use Rattle.std.proofs.Common.{◌≡◌, [], ◌∷◌, ◌∙◌, ap, false, refl, subst, sym, inl, IfOk, IfErr}
use Rattle.std.proofs.lemmas.Result.{IfOk-weaker}
use Rattle.swc_ecma_codegen_settings.specs.Defaults.{default_config}
use Rattle.swc_ecma_codegen_grammar.specs.Comments.{no_maps}
use Rattle.swc_ecma_codegen_grammar.specs.SourceLines.{no_lines}
use Rattle.swc_ecma_codegen_text_writer.specs.Recorded.{RecordsTruly}
use Rattle.swc_ecma_codegen_text_writer.specs.Sheet.{Sheet}
use Rattle.swc_ecma_codegen_text_writer.specs.View.{sheet_of, new_sheet, keeping}
use Rattle.swc_ecma_codegen_tokens.specs.Run.{start, unlined}
use Rattle.swc_ecma_codegen_tokens.specs.Written.{AddsReading, ReadsAs, all_indent, is_indent, holds_one}
use Rattle.swc_ecma_codegen_emit.specs.Roots.{root_phrase, MayBegin}
use Rattle.swc_ecma_codegen_emit.specs.Texts.{blank_sheet, GivesCause}
use Rattle.swc_ecma_codegen_examples.proofs.print_with_positions.Goals as goal

-- the writer began with a blank sheet that keeps positions after those of the list, and what it has was added to that
pub returns-clause-reads : goal.returns-clause-reads
unfolding all_indent is_indent holds_one
returns-clause-reads g c = λ root same well.
    let blank : Sheet = keeping c.args.pairs.now.items blank_sheet in
    let begun : sheet_of c.new-writer.result ≡ blank = c.new-writer.ensures.positions _ refl ∙ ap (λ t. keeping c.args.pairs.now.items (new_sheet t (10 ∷ []))) c.new.ensures.items in
    let fresh : MayBegin root (start no_lines no_maps c.default.result (sheet_of c.new-writer.result)) =
    subst (λ s. MayBegin root (start no_lines no_maps c.default.result s)) (sym begun) (record { is_new = record { nothing_written = refl; nothing_held = refl; indent_text = refl; line_end = inl refl; leaves_out = refl; flowing = refl }; flows = λ whole. refl; at_margin = λ hashbang line. refl }) in
    let added = subst (λ s. IfOk c.printed_on.result (λ writer. AddsReading (unlined c.default.result) (root_phrase root) [] s (sheet_of writer))) begun (c.printed_on.ensures.reads root same well fresh) in
    let over = subst (λ k. IfOk c.printed_on.result (λ writer. AddsReading (unlined k) (root_phrase root) [] blank (sheet_of writer))) c.default.ensures added in
    IfOk-weaker c.printed_on.result _ _ (λ writer (h : AddsReading default_config (root_phrase root) [] blank (sheet_of writer)). subst (λ t. ReadsAs default_config false (root_phrase root) [] t) (sym h.is_added) h.reading) over

pub returns-clause-recorded : goal.returns-clause-recorded
returns-clause-recorded g c =
    let begun = c.new-writer.ensures.positions _ refl ∙ ap (λ t. keeping c.args.pairs.now.items (new_sheet t (10 ∷ []))) c.new.ensures.items in
    subst (λ s. IfOk c.printed_on.result (λ writer. RecordsTruly s (sheet_of writer))) begun c.printed_on.ensures.recorded

pub returns-clause-cause : goal.returns-clause-cause
returns-clause-cause g c =
    let part = g.P.Node.part c.args.node.now in
    let begun = c.new-writer.ensures.positions _ refl ∙ ap (λ t. keeping c.args.pairs.now.items (new_sheet t (10 ∷ []))) c.new.ensures.items in
    let blank : Sheet = keeping c.args.pairs.now.items blank_sheet in
    let of_config = subst (λ k. IfErr c.printed_on.result (GivesCause part (start no_lines no_maps k (sheet_of c.new-writer.result)))) c.default.ensures c.printed_on.ensures.cause in
    subst (λ s. IfErr c.printed_on.result (GivesCause part (start no_lines no_maps default_config s))) begun of_config
