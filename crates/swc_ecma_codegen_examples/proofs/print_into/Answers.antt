use Rattle.std.proofs.Common.{◌≡◌, [], ◌∷◌, ◌∙◌, ap, inl, refl, subst, sym}
use Rattle.std.proofs.lemmas.Result.{err_from_is_err_and}
use Rattle.swc_ecma_codegen_settings.specs.Defaults.{default_config}
use Rattle.swc_ecma_codegen_grammar.specs.Comments.{no_maps}
use Rattle.swc_ecma_codegen_grammar.specs.SourceLines.{no_lines}
use Rattle.swc_ecma_codegen_text_writer.specs.Contents.{or_empty}
use Rattle.swc_ecma_codegen_text_writer.specs.View.{sheet_of, new_sheet}
use Rattle.swc_ecma_codegen_tokens.specs.Run.{start, unlined}
use Rattle.swc_ecma_codegen_tokens.specs.Written.{AddsReading}
use Rattle.swc_ecma_codegen_emit.specs.Roots.{root_phrase, MayBegin}
use Rattle.swc_ecma_codegen_emit.specs.Texts.{GivesCause}
use Rattle.swc_ecma_codegen_emit.proofs.TreeReads.{new_begins}
use Rattle.swc_ecma_codegen_examples.proofs.print_into.Goals as goal

-- the writer began with a new sheet over what `out` told, and what was added to that sheet `out` tells in the end
pub returns-clause-reads : goal.returns-clause-reads
returns-clause-reads g c = λ root same well tells.
    let before = or_empty (g.W.Write.contents c.args.out) in
    let end = sheet_of c.in_ok-printed.printed in
    let begun : sheet_of c.new-writer.result ≡ new_sheet before (10 ∷ []) = c.new-writer.ensures.sheet refl in
    let fresh = new_begins root no_lines no_maps c.default.result before (10 ∷ []) (inl refl) in
    let added = c.in_ok-printed.ensures.reads root same well (subst (λ s. MayBegin root (start no_lines no_maps c.default.result s)) (sym begun) fresh) in
    let over : AddsReading (unlined c.default.result) (root_phrase root) [] (new_sheet before (10 ∷ [])) end = subst (λ s. AddsReading (unlined c.default.result) (root_phrase root) [] s end) begun added in
    let told_so : AddsReading default_config (root_phrase root) [] (new_sheet before (10 ∷ [])) end = subst (λ k. AddsReading (unlined k) (root_phrase root) [] (new_sheet before (10 ∷ [])) end) c.default.ensures over in
    let all : or_empty (g.W.Write.contents c.into_inner.result) ≡ end.text = ap or_empty (c.into_inner.ensures.text (tells _)) in
    record { added = told_so.added; is_added = all ∙ told_so.is_added; reading = told_so.reading }

pub returns-in_err-printed-clause-cause : goal.returns-in_err-printed-clause-cause
returns-in_err-printed-clause-cause g c =
    let part = g.P.Node.part c.args.node.now in
    let error = c.in_err-printed.field-0.0 in
    let of_config = subst (λ k. GivesCause part (start no_lines no_maps k (sheet_of c.new-writer.result)) error) c.default.ensures c.in_err-printed.ensures.cause in
    let p = err_from_is_err_and c.from_residual.result c.from_residual.ensures.1 in
    rw (p.1, p.2) (subst (λ s. GivesCause part (start no_lines no_maps default_config s) error) (c.new-writer.ensures.sheet refl) of_config)
