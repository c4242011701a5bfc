use Rattle.swc_ecma_codegen_tokens.proofs.guard.blank_due.Goals as goal

pub returns : goal.returns
returns c = λ token text class start. c.blank_due_after.ensures.class _ token text c.row.ensures class start
