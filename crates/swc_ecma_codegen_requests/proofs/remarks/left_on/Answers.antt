use Rattle.std.proofs.Common.{◌≡◌, ◌∙◌, ap, sym, rules}
use Rattle.std.specs.Fmt.{decimal}
use Rattle.std.specs.List.{fold}
use Rattle.std.specs.Option.{option_map}
use Rattle.std.proofs.lemmas.List.{map-id}
use Rattle.std.proofs.lemmas.Iterator.Adapters.{YieldsList-from_vec}
use Rattle.std.proofs.lemmas.Iterator.Consumers.{YieldsList-end}
use Rattle.serde_json.specs.Data.{no_members}
use Rattle.serde_json.specs.View.{members_view}
use Rattle.swc_ecma_codegen_grammar.specs.CommentMaps.{without}
use Rattle.swc_ecma_codegen_requests.specs.Members.{with_member}
use Rattle.swc_ecma_codegen_requests.specs.Remarks.{entries, list_data, with_left, Left}
use Rattle.swc_ecma_codegen_requests.proofs.Folds.{fold_more}
use Rattle.swc_ecma_codegen_requests.proofs.MapsIn.{maps_in}
use Rattle.swc_ecma_codegen_requests.proofs.remarks.left_on.Goals as goal

-- the comments of one position more are taken out
pub loop-pos-preserved : goal.loop-pos-preserved
loop-pos-preserved c =
    let side = c.args.side in
    let pos = c.in-Some.pos in
    let before : Left = record { entries = entries side (maps_in c.loop-pos.maps); members = members_view c.loop-pos.members.entries } in
    let after : Left = record { entries = entries side (maps_in c.left_at.new.maps); members = members_view c.left_at.new.members.entries } in
    let begun : Left = record { entries = entries side (maps_in c.args.maps.now); members = no_members } in
    let put : after.members ≡ with_member (decimal pos.0) (option_map list_data (before.entries pos.0)) before.members = search rules in
    let step : after ≡ with_left before pos = ap (λ e. record { entries = e; members = after.members }) c.left_at.ensures.removed ∙ ap (λ ms. record { entries = without pos.0 before.entries; members = ms }) put in
    (fold_more with_left begun before after c.loop-pos.yielded pos c.loop-pos.invariant.0 step, c.left_at.ensures.others ∙ c.loop-pos.invariant.1)

-- the iterator gave the whole list
pub returns-clause-members : goal.returns-clause-members
returns-clause-members c =
    let begun : Left = record { entries = entries c.args.side (maps_in c.args.maps.now); members = no_members } in
    let all : c.loop-pos.yielded ≡ c.args.places.items =
    sym (map-id _) ∙ (YieldsList-end (YieldsList-from_vec c.args.places.items (search rules) (search rules)) c.loop-pos.yielded _ c.loop-pos.yielded_by _ c.next.new.self c.in-None.is c.next.ensures.steps).0 in
    ap (λ (left : Left). left.members) (c.loop-pos.invariant.0 ∙ ap (fold with_left begun) all)
