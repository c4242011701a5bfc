use Rattle.std.proofs.Common.{◌≡◌, ◌∙◌, ap, rules}
use Rattle.swc_ecma_codegen_grammar.specs.Comments.{no_maps}
use Rattle.swc_ecma_codegen_requests.specs.Remarks.{with_all}
use Rattle.swc_ecma_codegen_requests.specs.declared.remarks.Side.TheVariants.{Before, After}
use Rattle.swc_ecma_codegen_requests.proofs.MapsIn.{maps_in, is_empty}
use Rattle.swc_ecma_codegen_requests.proofs.remarks.maps_of.Goals as goal

-- new maps have no comments
pub returns-clause-maps : goal.returns-clause-maps
returns-clause-maps c =
    let begun : maps_in c.new-maps.result ≡ no_maps = is_empty c.new-maps.result c.new-maps.ensures.leading c.new-maps.ensures.trailing in
    let before : maps_in c.add_all.new.maps ≡ with_all Before c.args.comments.leading.0.entries (maps_in c.new-maps.result) = search rules in
    let after : maps_in c.add_all-2.new.maps ≡ with_all After c.args.comments.trailing.0.entries (maps_in c.add_all.new.maps) = search rules in
    after ∙ ap (with_all After c.args.comments.trailing.0.entries) (before ∙ ap (with_all Before c.args.comments.leading.0.entries) begun)
