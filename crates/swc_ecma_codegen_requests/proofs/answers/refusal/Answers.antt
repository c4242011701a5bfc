use Rattle.std.proofs.lemmas.Result.{IfOk-weaker}
use Rattle.swc_ecma_codegen_requests.proofs.answers.refusal.Goals as goal

pub returns : goal.returns
returns c = IfOk-weaker c.fault_line.result _ _ (λ answer told. (_, c.in_ok-fault.fault, c.in_ok-id.ensures, c.in_ok-fault.ensures, told)) c.fault_line.ensures
