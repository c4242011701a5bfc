use Rattle.swc_ecma_codegen_laws.proofs.Printed.{derived_told, kept_told, closed_told}
use Rattle.swc_ecma_codegen_laws.proofs.programs.printed_programs_are_told.Goals as goal

pub returns-clause-derived : goal.returns-clause-derived
returns-clause-derived c = derived_told

pub returns-clause-kept : goal.returns-clause-kept
returns-clause-kept c = kept_told

pub returns-clause-closed : goal.returns-clause-closed
returns-clause-closed c = closed_told
