use Rattle.std.proofs.lemmas.Result.{IfOk-weaker}
use Rattle.swc_ecma_codegen_requests.proofs.answers.answer_in.Goals as goal

pub returns : goal.returns
returns c = IfOk-weaker c.answer_of.result _ _ (λ answer told. (_, c.in_ok-id.ensures, told)) c.answer_of.ensures
