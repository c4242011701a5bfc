use Rattle.swc_ecma_codegen_laws.proofs.TwoLayouts.Parentheses.{opened_behind, same_parentheses, same_without, stands_behind_called}
use Rattle.swc_ecma_codegen_laws.proofs.layouts.other_parentheses_stand_in_both.Goals as goal

pub returns-clause-layouts : goal.returns-clause-layouts
returns-clause-layouts c = opened_behind

pub returns-clause-elsewhere : goal.returns-clause-elsewhere
returns-clause-elsewhere c = same_parentheses

pub returns-clause-arguments : goal.returns-clause-arguments
returns-clause-arguments c = stands_behind_called

pub returns-clause-sources : goal.returns-clause-sources
returns-clause-sources c = same_without
