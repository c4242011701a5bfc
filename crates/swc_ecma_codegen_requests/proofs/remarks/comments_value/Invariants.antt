-- The items so far are those of the comments so far.
use Rattle.std.proofs.Common.{◌≡◌, map, take}
use Rattle.serde_json.specs.View.{view}
use Rattle.swc_ecma_codegen_requests.specs.Remarks.{comment_data}
use Rattle.swc_ecma_codegen_requests.proofs.remarks.comments_value.Given as goal

abbrev pub invariant-loop-comment : goal.invariant-loop-comment
invariant-loop-comment l = map view l.items.items ≡ map comment_data (take l.comment-index l.comments)
