use Rattle.std.proofs.lemmas.Result.{IfOk-weaker}
use Rattle.swc_ecma_codegen_requests.specs.Answers.{to_request, to_no_request}
use Rattle.swc_ecma_codegen_requests.proofs.answers.answer_to.Goals as goal

pub returns-in-Ok : goal.returns-in-Ok
returns-in-Ok c = IfOk-weaker c.answer_in.result _ _ (λ answer told. to_request c.in-Ok.ensures.utf8 c.in-Ok.field-0.0 told) c.answer_in.ensures

pub returns-in-Err : goal.returns-in-Err
returns-in-Err c = IfOk-weaker c.refusal.result _ _ (λ answer told. to_no_request told.0 told.1 told.2 told.3 told.4) c.refusal.ensures
