use Rattle.swc_ecma_codegen_requests.proofs.answers.checked.Goals as goal

-- what is printed is what the program was mended to, or the program
pub returns-in-Ok-clause-made : goal.returns-in-Ok-clause-made
returns-in-Ok-clause-made c = (c.in_ok-prepared.prepared.0, c.in_ok-prepared.ensures.prepared, c.in-Ok.ensures.made)

pub returns-clause-why : goal.returns-clause-why
returns-clause-why c = (c.in_ok-prepared.prepared.0, c.in_ok-prepared.ensures.prepared, c.in-Err.ensures.cause)
