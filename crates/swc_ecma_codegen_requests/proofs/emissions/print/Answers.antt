use Rattle.std.proofs.Common.{◌∙◌, ap, option_map, subst}
use Rattle.swc_ecma_codegen_grammar.specs.Comments.{maps_in}
use Rattle.swc_ecma_codegen_emit.specs.Texts.{start_on}
use Rattle.swc_ecma_codegen_requests.specs.Prints.{if_asked, lines_over, IsMadeOf}
use Rattle.swc_ecma_codegen_requests.specs.Remarks.{left_by, places_in}
use Rattle.swc_ecma_codegen_requests.specs.Sheets.{sheet_by}
use Rattle.swc_ecma_codegen_requests.proofs.MapsIn as own
use Rattle.swc_ecma_codegen_requests.proofs.emissions.print.Goals as goal

-- what is told of the page is what the emission made that the request asks for
pub returns-clause-made : goal.returns-clause-made
returns-clause-made g c =
    let manner = c.args.manner in
    let part = g.P.Node.part c.args.tree.now in
    let page = c.in_ok-page.page in
    let begun = ap (λ maps. start_on (sheet_by manner.layout) (lines_over manner.source manner.first) maps manner.config) c.in_ok-maps.ensures.maps in
    let left = maps_in own.maps_in page.comments in
    let made = subst (λ a. IsMadeOf part a page.text.items page.positions.items left) begun c.in_ok-page.ensures.made in
    record {
      whole = made.whole;
      code = c.in_ok-told.ensures.code ∙ made.text_is;
      positions = c.in_ok-told.ensures.positions ∙ ap (if_asked manner.positions) made.pairs_are;
      left = c.in_ok-told.ensures.left ∙ ap (λ w. left_by w left) c.in_ok-maps.ensures.places ∙ ap (left_by (option_map places_in manner.comments)) made.left_are;
    }
