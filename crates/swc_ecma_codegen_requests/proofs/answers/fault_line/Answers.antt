use Rattle.std.proofs.Common.{option_map, subst, string_bytes}
use Rattle.std.proofs.lemmas.Result.{IfOk-weaker}
use Rattle.serde_json.specs.View.{view}
use Rattle.swc_ecma_codegen_requests.specs.Members.{IsLineOf}
use Rattle.swc_ecma_codegen_requests.proofs.answers.fault_line.Goals as goal

pub returns : goal.returns
returns c =
    let id = option_map string_bytes c.args.id in
    IfOk-weaker c.line_of.result _ _ (λ answer line. (view c.in_ok-told.told, c.in_ok-told.ensures, subst (λ members. IsLineOf id members answer.items) c.in_ok-members.ensures line)) c.line_of.ensures
