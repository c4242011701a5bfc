use Rattle.std.proofs.Common.{◌≡◌, ◌∙◌, ap, sym, rules}
use Rattle.std.proofs.lemmas.List.{map-id}
use Rattle.std.proofs.lemmas.Iterator.Adapters.{YieldsList-from_vec}
use Rattle.std.proofs.lemmas.Iterator.Consumers.{YieldsList-end}
use Rattle.swc_ecma_codegen_requests.specs.Remarks.{comment_of, with_comment, with_list}
use Rattle.swc_ecma_codegen_requests.proofs.Folds.{fold_more}
use Rattle.swc_ecma_codegen_requests.proofs.MapsIn.{maps_in}
use Rattle.swc_ecma_codegen_requests.proofs.remarks.add_list.Goals as goal

pub loop-remark-preserved : goal.loop-remark-preserved
loop-remark-preserved c =
    let added : maps_in c.add.new.maps ≡ with_comment c.args.side c.args.pos.0 (comment_of c.in-Some.remark) (maps_in c.loop-remark.maps) = search rules in
    fold_more (λ m r. with_comment c.args.side c.args.pos.0 (comment_of r) m) (maps_in c.args.maps.now) (maps_in c.loop-remark.maps) (maps_in c.add.new.maps) c.loop-remark.yielded c.in-Some.remark c.loop-remark.invariant added

-- the iterator gave the whole list
pub returns : goal.returns
returns c =
    let all : c.loop-remark.yielded ≡ c.args.list.items =
    sym (map-id _) ∙ (YieldsList-end (YieldsList-from_vec c.args.list.items (search rules) (search rules)) c.loop-remark.yielded _ c.loop-remark.yielded_by _ c.next.new.self c.in-None.is c.next.ensures.steps).0 in
    c.loop-remark.invariant ∙ ap (λ list. with_list c.args.side c.args.pos.0 list (maps_in c.args.maps.now)) all
