use Rattle.std.proofs.Common.{◌≡◌, ◌∙◌, ap, option_map, subst, string_bytes}
use Rattle.std.proofs.lemmas.Result.{IfOk-weaker}
use Rattle.serde_json.specs.View.{view, members_view}
use Rattle.swc_ecma_codegen_tokens.specs.Run.{printed}
use Rattle.swc_ecma_codegen_requests.specs.Answers.{a_fault, a_text, program_part}
use Rattle.swc_ecma_codegen_requests.specs.Members.{text_members, IsLineOf}
use Rattle.swc_ecma_codegen_requests.specs.Prints.{if_asked, maps_left, start_by}
use Rattle.swc_ecma_codegen_requests.specs.Remarks.{left_by, places_in}
use Rattle.swc_ecma_codegen_requests.proofs.answers.text_line.Goals as goal

-- the members have the text, the positions and the comments that are left
pub returns-in_ok-members-in-Ok : goal.returns-in_ok-members-in-Ok
returns-in_ok-members-in-Ok c =
    let manner = c.args.manner in
    let (r, prepared, by) = c.in-Ok.ensures.made in
    let part = program_part r in
    let end = printed part (start_by manner) in
    let id = option_map string_bytes c.args.id in
    let positions = if_asked manner.positions end.sheet.pairs in
    let left = left_by (option_map places_in manner.comments) (maps_left part (start_by manner)) in
    let same : members_view c.in_ok-members-in-Ok.members.entries ≡ text_members end.sheet.text positions left =
    c.in_ok-members-in-Ok.ensures
    ∙ ap (λ code. text_members code (option_map (λ list. list.items) c.in-Ok.made.positions) (option_map view c.in-Ok.made.left)) by.code
    ∙ ap (λ ps. text_members end.sheet.text ps (option_map view c.in-Ok.made.left)) by.positions
    ∙ ap (text_members end.sheet.text positions) by.left in
    IfOk-weaker c.line_of.result _ _ (λ answer line. a_text r prepared (record { whole = by.whole; line = subst (λ members. IsLineOf id members answer.items) same line })) c.line_of.ensures

pub returns-in-Err : goal.returns-in-Err
returns-in-Err c = IfOk-weaker c.fault_line.result _ _ (λ answer told. a_fault c.in-Err.fault c.in-Err.ensures.why told) c.fault_line.ensures
