use Rattle.std.proofs.Common.{◌≡◌, [], false, subst, IfOk}
use Rattle.std.specs.String.{string_bytes}
use Rattle.swc_ecma_codegen_grammar.specs.Comments.{maps_in, no_maps}
use Rattle.swc_ecma_codegen_source.specs.SourceTexts.{lines_of}
use Rattle.swc_ecma_codegen_settings.specs.Defaults.{default_config}
use Rattle.swc_ecma_codegen_tokens.proofs.Commenting.NoneTaken.{no_maps_bare, no_maps_closed, same_remarks}
use Rattle.swc_ecma_codegen_tokens.specs.Run.{start}
use Rattle.swc_ecma_codegen_tokens.specs.Written.{ReadsAs, taken_remarks}
use Rattle.swc_ecma_codegen_emit.specs.Roots.{root_phrase}
use Rattle.swc_ecma_codegen_emit.specs.Texts.{blank_sheet, text_over}
use Rattle.swc_ecma_codegen_examples.proofs.print_over_source.Goals as goal

-- the mapper answers what the text answers
pub returns-clause-text : goal.returns-clause-text
unfolding maps_in
returns-clause-text g c =
    subst (λ lines. IfOk c.to_code_default.result (λ printed. string_bytes printed ≡ text_over lines no_maps (g.P.Node.part c.args.node.now))) c.in_ok-source.ensures.lines c.to_code_default.ensures.text

-- without comments none are taken
pub returns-clause-reads : goal.returns-clause-reads
unfolding maps_in
returns-clause-reads g c = λ root same well.
    let part = g.P.Node.part c.args.node.now in
    let source = lines_of c.args.text.now 1 in
    let over = subst (λ lines. IfOk c.to_code_default.result (λ printed. ReadsAs default_config false (root_phrase root) (taken_remarks part (start lines no_maps default_config blank_sheet).env) (string_bytes printed))) c.in_ok-source.ensures.lines
    (c.to_code_default.ensures.reads root same well no_maps_closed) in
    subst (λ remarks. IfOk c.to_code_default.result (λ printed. ReadsAs default_config false (root_phrase root) remarks (string_bytes printed))) (same_remarks [] part (start source no_maps default_config blank_sheet).env no_maps_bare) over
