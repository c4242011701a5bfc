use Rattle.swc_ecma_codegen_laws.proofs.Derived.{printed_derived, text_derived}
use Rattle.swc_ecma_codegen_laws.proofs.programs.printed_programs_are_derived.Goals as goal

pub returns-clause-emissions : goal.returns-clause-emissions
returns-clause-emissions c = printed_derived

pub returns-clause-texts : goal.returns-clause-texts
returns-clause-texts c = text_derived
