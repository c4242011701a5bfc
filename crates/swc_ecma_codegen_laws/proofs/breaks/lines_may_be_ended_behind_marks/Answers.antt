use Rattle.swc_ecma_codegen_laws.proofs.Breaking.{unfilled_ends, emission_ends, other_holds}
use Rattle.swc_ecma_codegen_laws.proofs.breaks.lines_may_be_ended_behind_marks.Goals as goal

pub returns-clause-filled : goal.returns-clause-filled
returns-clause-filled c = unfilled_ends

pub returns-clause-written : goal.returns-clause-written
returns-clause-written c = emission_ends

pub returns-clause-nowhere : goal.returns-clause-nowhere
returns-clause-nowhere c = other_holds
