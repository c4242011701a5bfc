use Rattle.std.proofs.Common.{◌≡◌, ◌∙◌, ap, rules}
use Rattle.std.proofs.lemmas.Result.{IfOk-weaker}
use Rattle.serde_json.specs.View.{members_view}
use Rattle.swc_ecma_codegen_requests.specs.Remarks.{entries, left_members, sides_data}
use Rattle.swc_ecma_codegen_requests.proofs.MapsIn.{maps_in}
use Rattle.swc_ecma_codegen_requests.proofs.remarks.left_in.Goals as goal

-- taking the comments on one side leaves those on the other
pub returns : goal.returns
unfolding entries
returns c =
    let leading = c.args.places.leading.items in
    let trailing = c.args.places.trailing.items in
    let first : members_view c.in_ok-leading.leading.entries ≡ left_members leading (maps_in c.args.maps).leading = search rules in
    let kept : (maps_in c.left_on.new.maps).trailing ≡ (maps_in c.args.maps).trailing = c.left_on.ensures.others in
    let second : members_view c.in_ok-trailing.trailing.entries ≡ left_members trailing (maps_in c.left_on.new.maps).trailing = search rules in
    IfOk-weaker c.sides_value.result _ _ (λ value same. same ∙ ap (λ ms. sides_data ms (members_view c.in_ok-trailing.trailing.entries)) first ∙ ap (sides_data (left_members leading (maps_in c.args.maps).leading)) (second ∙ ap (left_members trailing) kept)) c.sides_value.ensures
